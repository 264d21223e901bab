use Rattle.std.proofs.Common.{◌≡◌, None, ap, refl, sym, subst}
use Rattle.pipe_model.specs.Language.SyntaxTree.{tree_of}
use Rattle.pipe_frame.specs.Replies.{replies_of}
use Rattle.pipe_frame.specs.TokenFields.{fields_of}
use Rattle.frame_book.specs.BookStates.{replies_at}
use Rattle.book_tests.specs.HeldTokens.{token_of}
use Rattle.book_tests.proofs.HeldLists.{held_after, held_all}
use Rattle.book_tests.proofs.PlanSteps.{plan_goes_on}
use Rattle.book_tests.proofs.StayingTokens.{Changes}
use Rattle.pipe_frame.specs.declared.results.Named.TheVariants as named
use Rattle.book_tests.proofs.CallChanges.{name_changes, name_events}
use Rattle.book_tests.proofs.play.Play.name_next.Goals as goal

pub name_next-named-requires-clause-ready : goal.name_next-named-requires-clause-ready
name_next-named-requires-clause-ready c = λ names.
    let v = c.take.new.self.book in
    let t = c.in-Some.token in
    plan_goes_on (tree_of v.program) v.input t.payload c.ends_by.new.self t.iteration (replies_at v t.iteration) (replies_of c.new.result)
    c.ends_by.ensures.unchanged (ap replies_of c.new.ensures) (c.if-not-ends_by.ensures.next refl names)
    c.in-Some.ensures.token.1.payload.ready

pub returns-in-Waits : goal.returns-in-Waits
returns-in-Waits c =
    let v = c.take.new.self.book in
    let t = c.in-Some.token in
    let tokens = c.take.new.self.tokens.items in
    let events = name_events t.iteration c.args.end named.Waits in
    held_all t.iteration c.name_next-named.new.self tokens
    (subst (λ i. token_of tokens i ≡ None) (sym c.in-Some.ensures.token.0) c.take.ensures.gone)
    (held_after t.iteration v c.name_next-named.new.self events tokens
    (subst (λ w. Changes t.iteration v w events) (sym c.in-Waits.ensures.book)
    (name_changes v (fields_of t) c.args.end c.new.result named.Waits)) c.last_ticket-self.ensures c.take.ensures.held)

pub returns-in-Ended : goal.returns-in-Ended
returns-in-Ended c =
    let v = c.take.new.self.book in
    let t = c.in-Some.token in
    let tokens = c.take.new.self.tokens.items in
    let events = name_events t.iteration c.args.end named.Ended in
    held_all t.iteration c.name_next-named.new.self tokens
    (subst (λ i. token_of tokens i ≡ None) (sym c.in-Some.ensures.token.0) c.take.ensures.gone)
    (held_after t.iteration v c.name_next-named.new.self events tokens
    (subst (λ w. Changes t.iteration v w events) (sym c.in-Ended.ensures.book)
    (name_changes v (fields_of t) c.args.end c.new.result named.Ended)) c.last_ticket-self.ensures c.take.ensures.held)
