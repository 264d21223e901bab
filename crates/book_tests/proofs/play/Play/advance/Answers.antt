use Rattle.std.proofs.Common.{◌≡◌, None, ap, refl, sym, subst}
use Rattle.pipe_model.specs.Language.SyntaxTree.{tree_of}
use Rattle.pipe_frame.specs.Replies.{replies_of}
use Rattle.pipe_frame.specs.TokenFields.{fields_of}
use Rattle.frame_book.specs.BookStates.{replies_at}
use Rattle.book_tests.specs.HeldTokens.{AreHeldBut, token_of}
use Rattle.book_tests.proofs.HeldLists.{held_after, held_all}
use Rattle.book_tests.proofs.PlanSteps.{plan_goes_on}
use Rattle.book_tests.proofs.StayingTokens.{Changes}
use Rattle.pipe_frame.specs.CallResults.{advance_events}
use Rattle.pipe_frame.specs.declared.results.Next.TheVariants as next
use Rattle.book_tests.specs.declared.plan.Plan.{Plan}
use Rattle.book_tests.proofs.CallChanges.{advance_changes}
use Rattle.book_tests.proofs.play.Play.advance.Goals as goal

pub advance-next-requires-clause-ready : goal.advance-next-requires-clause-ready
advance-next-requires-clause-ready c = λ names.
    let v = c.take.new.self.book in
    let t = c.in-Some.token in
    plan_goes_on (tree_of v.program) v.input t.payload c.ends_by.new.self t.iteration (replies_at v t.iteration) (replies_of c.new.result)
    c.ends_by.ensures.unchanged (ap replies_of c.new.ensures) (c.if-not-ends_by.ensures.next refl names)
    c.in-Some.ensures.token.1.payload.ready

pub hold-requires-clause-others : goal.hold-requires-clause-others
hold-requires-clause-others c =
    let v = c.take.new.self.book in
    let t = c.in-Some.token in
    let events = advance_events t.iteration c.args.end (next.Go c.in-Go.token) in
    subst (λ i. AreHeldBut i c.advance-next.new.self c.take.new.self.tokens.items) (sym c.in-Go.ensures.returned.2)
    (held_after t.iteration v c.advance-next.new.self events c.take.new.self.tokens.items
    (subst (λ w. Changes t.iteration v w events) (sym c.in-Go.ensures.book)
    (advance_changes v (fields_of t) c.args.end c.new.result (next.Go c.in-Go.token)))
    c.last_ticket-self.ensures c.take.ensures.held)

pub returns-in-Suspended : goal.returns-in-Suspended
returns-in-Suspended c =
    let v = c.take.new.self.book in
    let t = c.in-Some.token in
    let tokens = c.take.new.self.tokens.items in
    let events = advance_events {M = Plan} t.iteration c.args.end next.Suspended in
    held_all t.iteration c.advance-next.new.self tokens
    (subst (λ i. token_of tokens i ≡ None) (sym c.in-Some.ensures.token.0) c.take.ensures.gone)
    (held_after t.iteration v c.advance-next.new.self events tokens
    (subst (λ w. Changes t.iteration v w events) (sym c.in-Suspended.ensures.book)
    (advance_changes {M = Plan} v (fields_of t) c.args.end c.new.result next.Suspended)) c.last_ticket-self.ensures c.take.ensures.held)

pub returns-in-Ended : goal.returns-in-Ended
returns-in-Ended c =
    let v = c.take.new.self.book in
    let t = c.in-Some.token in
    let tokens = c.take.new.self.tokens.items in
    let events = advance_events {M = Plan} t.iteration c.args.end next.Ended in
    held_all t.iteration c.advance-next.new.self tokens
    (subst (λ i. token_of tokens i ≡ None) (sym c.in-Some.ensures.token.0) c.take.ensures.gone)
    (held_after t.iteration v c.advance-next.new.self events tokens
    (subst (λ w. Changes t.iteration v w events) (sym c.in-Ended.ensures.book)
    (advance_changes {M = Plan} v (fields_of t) c.args.end c.new.result next.Ended)) c.last_ticket-self.ensures c.take.ensures.held)
