-- Event after event.
use Rattle.std.proofs.Common.{◌∙◌, ◌++◌, sym, ap, ap₂, subst, arith, ℕ, List, length, get_or, slice_index}
use Rattle.std.proofs.lemmas.List.{get_or_default, length-append}
use Rattle.order_2d.specs.LogStarts.{EntersBegun, counts_after, counts_in, started_after}
use Rattle.order_2d.proofs.EventsSoFar.{counted_after, events_before, next_event, state_before}
use Rattle.order_2d.proofs.starts.starts_of_log.Goals as goal
use Rattle.pipe_model.specs.declared.event.Event.{Event}
use Rattle.pipe_model.specs.declared.event.Event.TheVariants.{Begin}
use Rattle.pipe_model.specs.Orders.Starts.{starts_of}

pub push_start-requires-clause-begun : goal.push_start-requires-clause-begun
push_start-requires-clause-begun c =
    let e : Event = get_or c.args.events.now c.loop-event.event-index (Begin 0) in
    let next = next_event c.args.events.now c.requires.control c.loop-event.event-index e c.loop-event-test.true
    (get_or_default c.args.events.now c.loop-event.event-index (Begin 0) e c.loop-event-test.true) in
    subst (λ (l : List ℕ). EntersBegun (length l) e) (sym c.loop-event.invariant.counts) next.begun

pub push_start-requires-clause-bounded : goal.push_start-requires-clause-bounded
push_start-requires-clause-bounded c =
    let e : Event = get_or c.args.events.now c.loop-event.event-index (Begin 0) in
    let next = next_event c.args.events.now c.requires.control c.loop-event.event-index e c.loop-event-test.true
    (get_or_default c.args.events.now c.loop-event.event-index (Begin 0) e c.loop-event-test.true) in
    let more = ap length next.starts
    ∙ length-append (starts_of (events_before c.args.events.now c.loop-event.event-index))
    (started_after (counts_in (state_before c.args.events.now c.loop-event.event-index)) e) in
    let now = ap length c.loop-event.invariant.starts in
    let within = next.within in
    omega (arith, more, now, within, c.requires.bounded)

pub loop-event-preserved : goal.loop-event-preserved
loop-event-preserved c =
    let e : Event = get_or c.args.events.now c.loop-event.event-index (Begin 0) in
    let next = next_event c.args.events.now c.requires.control c.loop-event.event-index e c.loop-event-test.true
    (get_or_default c.args.events.now c.loop-event.event-index (Begin 0) e c.loop-event-test.true) in
    let old = c.loop-event.invariant in
    record {
      starts = c.in_ok-push_start.ensures.starts ∙ (ap₂ (λ s k. s ++ started_after k e) old.starts old.counts ∙ sym next.starts);
      counts = c.in_ok-push_start.ensures.counts ∙ (ap (λ k. counts_after k e) old.counts ∙ sym next.counts);
      counted = λ k.
          let most = counted_after c.loop-event.counts.items e (length c.loop-event.starts) old.counted k in
          let count = ap (λ l. slice_index l k) c.in_ok-push_start.ensures.counts in
          let long = ap length c.in_ok-push_start.ensures.starts
          ∙ length-append c.loop-event.starts (started_after c.loop-event.counts.items e) in
          omega (arith, most, count, long);
    }
