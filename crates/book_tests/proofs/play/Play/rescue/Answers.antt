use Rattle.std.proofs.Common.{sym, subst}
use Rattle.pipe_model.specs.Runs.State.{frame_at}
use Rattle.pipe_frame.specs.CallResults.{resume_events}
use Rattle.frame_book.specs.BookStates.{state_of}
use Rattle.book_tests.proofs.CallChanges.{resume_changes}
use Rattle.book_tests.proofs.HeldLists.{held_after}
use Rattle.book_tests.proofs.StayingTokens.{Changes}
use Rattle.book_tests.proofs.play.Play.rescue.Goals as goal

pub hold-requires-clause-others : goal.hold-requires-clause-others
hold-requires-clause-others c =
    let v = c.args.self.now.book in
    let i = c.in-Token.token.iteration in
    let events = resume_events (frame_at (state_of v).frames i) i in
    held_after i v c.rescue-rescue.new.self events c.args.self.now.tokens.items
    (subst (λ w. Changes i v w events) (sym c.in-Token.ensures.book) (resume_changes v i)) c.last_ticket-self.ensures c.requires
