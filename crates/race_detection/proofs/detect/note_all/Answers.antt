-- Event after event.
use Rattle.std.proofs.Common.{◌∙◌, ◌<◌, ℕ, All, List, ap, arith, get_or, length, slice_index, subst, sym, take}
use Rattle.std.proofs.lemmas.List.{get_or_default, length-append}
use Rattle.order_2d.proofs.EventsSoFar.{counted_after, events_before, next_event, state_before}
use Rattle.order_2d.specs.LogStarts.{EntersBegun, counts_after, counts_in, started_after}
use Rattle.pipe_model.specs.declared.access.NodeAccess.{NodeAccess}
use Rattle.pipe_model.specs.declared.event.Event.{Event}
use Rattle.pipe_model.specs.declared.event.Event.TheVariants.{Begin}
use Rattle.pipe_model.specs.Orders.Starts.{starts_of}
use Rattle.pipe_model.specs.Races.Columns.{IsNodeOf, node_columns}
use Rattle.race_detection.specs.LogAccesses.{access_by, log_accesses}
use Rattle.race_detection.specs.NotedRuns.{HaveNoted}
use Rattle.race_detection.proofs.LoggedAccesses.{all_made, made_next}
use Rattle.race_detection.proofs.detect.note_all.Goals as goal

pub note_event-requires-clause-inside : goal.note_event-requires-clause-inside
note_event-requires-clause-inside c =
    let s = c.loop-event in
    let events = c.args.events.now in
    let next = made_next events s.event-index c.deref.result.now c.requires.control c.loop-event-test.true
    (c.deref.ensures.value ∙ s.invariant.counts) in
    all_made (λ (a : NodeAccess). IsNodeOf (node_columns c.args.run.now.columns.now) a.node) events s.event-index _ next
    c.requires.inside

pub note_event-requires-clause-cells : goal.note_event-requires-clause-cells
note_event-requires-clause-cells c =
    let s = c.loop-event in
    let events = c.args.events.now in
    let next = made_next events s.event-index c.deref.result.now c.requires.control c.loop-event-test.true
    (c.deref.ensures.value ∙ s.invariant.counts) in
    subst (λ n. All (λ (a : NodeAccess). a.access.cell.0 < n) (access_by c.deref.result.now (get_or events s.event-index (Begin 0))))
    (sym s.invariant.count)
    (all_made (λ (a : NodeAccess). a.access.cell.0 < length c.args.histories.now.items) events s.event-index _ next c.requires.cells)

pub note_event-requires-clause-noted : goal.note_event-requires-clause-noted
note_event-requires-clause-noted c = (log_accesses (take c.loop-event.event-index c.args.events.now), c.loop-event.invariant.noted)

pub count_start-requires-clause-begun : goal.count_start-requires-clause-begun
count_start-requires-clause-begun c =
    let s = c.loop-event in
    let events = c.args.events.now in
    let e : Event = get_or events s.event-index (Begin 0) in
    let next = next_event events c.requires.control s.event-index e c.loop-event-test.true
    (get_or_default events s.event-index (Begin 0) e c.loop-event-test.true) in
    subst (λ (l : List ℕ). EntersBegun (length l) e) (sym s.invariant.counts) next.begun

pub count_start-requires-clause-bounded : goal.count_start-requires-clause-bounded
count_start-requires-clause-bounded c = λ k.
    let s = c.loop-event in
    let events = c.args.events.now in
    let e : Event = get_or events s.event-index (Begin 0) in
    let next = next_event events c.requires.control s.event-index e c.loop-event-test.true
    (get_or_default events s.event-index (Begin 0) e c.loop-event-test.true) in
    let more = ap length next.starts
    ∙ length-append (starts_of (events_before events s.event-index)) (started_after (counts_in (state_before events s.event-index)) e) in
    let within = next.within in
    let most = s.invariant.counted k in
    omega (arith, more, within, most, c.requires.bounded)

pub loop-event-preserved : goal.loop-event-preserved
loop-event-preserved c =
    let s = c.loop-event in
    let events = c.args.events.now in
    let e : Event = get_or events s.event-index (Begin 0) in
    let next = next_event events c.requires.control s.event-index e c.loop-event-test.true
    (get_or_default events s.event-index (Begin 0) e c.loop-event-test.true) in
    let made = made_next events s.event-index c.deref.result.now c.requires.control c.loop-event-test.true
    (c.deref.ensures.value ∙ s.invariant.counts) in
    record {
      lists = c.note_event.ensures.lists;
      noted = subst (λ l. HaveNoted (node_columns c.args.run.now.columns.now) c.args.run.now.nodes l
          c.note_event.new.histories.items) (sym made.more)
          (c.note_event.ensures.noted (log_accesses (take s.event-index events)) s.invariant.noted);
      count = c.note_event.ensures.count ∙ s.invariant.count;
      counts = c.in_ok-count_start.ensures ∙ (ap (λ k. counts_after k e) s.invariant.counts ∙ sym next.counts);
      counted = λ k.
          let most = counted_after s.counts.items e (length (starts_of (events_before events s.event-index))) s.invariant.counted k in
          let count = ap (λ l. slice_index l k) c.in_ok-count_start.ensures in
          let same = ap (λ (l : List ℕ). length (started_after l e)) s.invariant.counts in
          let long = ap length next.starts
          ∙ length-append (starts_of (events_before events s.event-index))
          (started_after (counts_in (state_before events s.event-index)) e) in
          omega (arith, most, count, same, long);
    }
