use Rattle.std.proofs.Common.{[], sym, subst}
use Rattle.pipe_frame.specs.TokenFields.{fields_of}
use Rattle.book_tests.proofs.CallChanges.{leave_changes}
use Rattle.book_tests.proofs.HeldLists.{held_after, held_all}
use Rattle.book_tests.proofs.StayingTokens.{Changes}
use Rattle.book_tests.specs.HeldTokens.{token_of}
use Rattle.std.proofs.Common.{◌≡◌, None}
use Rattle.book_tests.proofs.play.Play.leave_ready.Goals as goal

pub returns-in-Some : goal.returns-in-Some
returns-in-Some c =
    let v = c.take.new.self.book in
    let t = c.in-Some.token in
    let tokens = c.take.new.self.tokens.items in
    held_all t.iteration c.leave_ready.new.self tokens
    (subst (λ i. token_of tokens i ≡ None) (sym c.in-Some.ensures.token.0) c.take.ensures.gone)
    (held_after t.iteration v c.leave_ready.new.self [] tokens
    (subst (λ w. Changes t.iteration v w []) (sym c.leave_ready.ensures) (leave_changes v (fields_of t))) c.last_ticket-self.ensures
    c.take.ensures.held)
