use Rattle.std.proofs.Common.{[], ◌∷◌, cond, sym, subst}
use Rattle.pipe_model.specs.declared.event.Event.TheVariants as events
use Rattle.frame_book.specs.BookStates.{state_of}
use Rattle.book_tests.proofs.CallChanges.{stop_changes}
use Rattle.book_tests.proofs.HeldLists.{held_every}
use Rattle.book_tests.proofs.StayingTokens.{Changes}
use Rattle.book_tests.proofs.play.Play.stop.Goals as goal

pub returns : goal.returns
returns c =
    let v = c.args.self.now.book in
    let stop = cond (state_of v).stopped [] (events.Stop ∷ []) in
    held_every v c.stop.new.self stop c.args.self.now.tokens.items
    (λ i. subst (λ w. Changes i v w stop) (sym c.stop.ensures) (stop_changes i v)) c.last_ticket-self.ensures c.requires
