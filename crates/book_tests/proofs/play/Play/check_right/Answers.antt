use Rattle.std.proofs.Common.{[], ◌∷◌, sym, subst}
use Rattle.pipe_model.specs.declared.event.Event.TheVariants as events
use Rattle.book_tests.proofs.CallChanges.{enter_changes}
use Rattle.book_tests.proofs.HeldLists.{held_after}
use Rattle.book_tests.proofs.StayingTokens.{Changes}
use Rattle.book_tests.proofs.play.Play.check_right.Goals as goal

pub hold-requires-clause-others : goal.hold-requires-clause-others
hold-requires-clause-others c =
    let v = c.args.self.now.book in
    let i = c.in-Some.token.iteration in
    held_after i v c.check_right-entered.new.self (events.Enter i ∷ []) c.args.self.now.tokens.items
    (subst (λ w. Changes i v w (events.Enter i ∷ [])) (sym c.in-Some.ensures.book) (enter_changes v i)) c.last_ticket-self.ensures
    c.requires
