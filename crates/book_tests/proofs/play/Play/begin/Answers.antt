use Rattle.std.proofs.Common.{[], ◌∷◌, sym, subst}
use Rattle.pipe_model.specs.declared.event.Event.TheVariants as events
use Rattle.book_tests.proofs.CallChanges.{begin_changes}
use Rattle.book_tests.proofs.HeldLists.{held_after}
use Rattle.book_tests.proofs.StayingTokens.{Changes}
use Rattle.book_tests.proofs.play.Play.begin.Goals as goal

pub hold-requires-clause-others : goal.hold-requires-clause-others
hold-requires-clause-others c =
    let v = c.args.self.now.book in
    let t = c.in-Started.token in
    held_after t.iteration v c.begin-begun.new.self (events.Begin t.iteration ∷ []) c.args.self.now.tokens.items
    (subst (λ w. Changes t.iteration v w (events.Begin t.iteration ∷ [])) (sym c.in-Started.ensures.book) (begin_changes t.iteration v t))
    c.last_ticket-self.ensures c.requires
