-- The worked example of a finished hall.
use Rattle.std.proofs.Common.{is_some, None, ◌≡◌, refl, sym, subst, ℕ, zero, suc, ◌<◌, pos, List, [], ◌∷◌, AllPairs, All, true, false, ◌==◌}
use Rattle.std.proofs.Common.{Some, arith, inl, inr}
use Rattle.std.proofs.lemmas.Bool.{ne_eqb, false≢true}
use Rattle.std.proofs.lemmas.Int.{ints}
use Rattle.pipe_model.specs.declared.column.ColumnEnd.TheVariants as ends
use Rattle.pipe_model.specs.declared.event.Event.{Event}
use Rattle.pipe_model.specs.declared.event.Event.TheVariants.{Begin, Advance, Enter, Finish}
use Rattle.pipe_model.specs.declared.node.Kind.TheVariants.{Zero, Wait}
use Rattle.pipe_model.specs.declared.status.Status.TheVariants.{Running}
use Rattle.pipe_model.specs.declared.ticket.BookEntry.{BookEntry}
use Rattle.pipe_model.specs.declared.ticket.ShardEntry.{ShardEntry}
use Rattle.pipe_model.specs.declared.tree.Program.{Program}
use Rattle.pipe_model.specs.Language.Programs.{pipeline_of, store_of}
use Rattle.pipe_model.specs.Language.SyntaxTree.{tree_of}
use Rattle.pipe_model.specs.Language.CheckingRules.{fault_of}
use Rattle.pipe_model.specs.Language.ProgramsOfTrees.{whole_of}
use Rattle.pipe_model.specs.Pipelines.WholePrograms.{init_accesses, init_trap}
use Rattle.pipe_model.specs.Pipelines.Behaviour.{Performs, Staged, node_of, read_access, write_access}
use Rattle.pipe_model.specs.Races.Columns.{at}
use Rattle.pipe_model.specs.Races.DeterminacyRaces.{Among}
use Rattle.pipe_model.specs.Runs.Allowed.{ContinuesLoop, MayAdvance, MayBegin, MayEnter, MayFinish}
use Rattle.pipe_model.specs.Runs.ControlRun.{ControlRun, ControlRunThen, EmptyControlRun}
use Rattle.pipe_model.specs.Runs.Run.{IsFinished}
use Rattle.pipe_model.specs.Runs.RunLogs.{state_after}
use Rattle.pipe_model.specs.Runs.State.{Frame, State, frame_at, is_completed}
use Rattle.pipe_model.specs.Runs.TicketLogs.{LogEntry, OfBook, OfShard, TicketsRise, TimedAction, shard_in}
use Rattle.pipe_model.specs.Runs.TicketOrder.{end_ticket_of, start_ticket_of}
use Rattle.pipe_model.proofs.Members.{none_among}
use Rattle.frame_book.specs.BookStates.{actions_at, events_of, made}
use Rattle.pipe_frame.specs.Ties.{ListIdentities}
use Rattle.program_laws.specs.ScheduleExamples.{emitting_once}
use Rattle.run_record.specs.MergedLogs.{AreMerged, shard_at}
use Rattle.hall_laws.specs.ClosedHalls.{ClosedHall, NoTokenIsOut, ReadsAreRight, entries_of_instance, entries_of_shard, trace_of}
use Rattle.hall_laws.specs.HallRuns.{AccessesIt, EndsIt, StartsIt}
use Rattle.hall_laws.specs.HallExamples.{ExampleHallIsMerged, entry_by, event_at, example_book, example_events, example_log, example_shards}
use Rattle.hall_laws.specs.HallExamples.{example_traces}
use Rattle.hall_laws.proofs.ExampleHistories.{example_finds_none, example_history, example_notes}
use Rattle.hall_laws.proofs.TicketLists.{Follow, Rises, in_order, rises_in_trace, rises_pairs, rises_within, time}

-- ---- the control part

control_run : ControlRun 2 (events_of example_log) (state_after (events_of example_log))
control_run = ControlRunThen (ControlRunThen (ControlRunThen (ControlRunThen (ControlRunThen (ControlRunThen EmptyControlRun
    (Begin 0) refl refl begins_first)
    (Advance 0 Wait (pos 1)) refl refl advances)
    (Enter 0) refl refl enters)
    (Begin 1) refl refl begins_next)
    (Finish 1 ends.Closed) refl refl closes)
    (Finish 0 ends.End) refl refl finishes
  where
    after : List Event → State
    after es = state_after es

    begins_first : MayBegin 2 (after []) 0
    begins_first = record { number = refl; room = omega arith; follows = λ j f e is. absurd (omega (arith, e)) }

    advances : MayAdvance (after (Begin 0 ∷ [])) 0 Wait (pos 1)
    advances = record {
      running = record { frame = _; is = refl; runs = refl };
      kind = λ e. cc;
      above = omega (arith, ints);
    }

    enters : MayEnter (after (Begin 0 ∷ Advance 0 Wait (pos 1) ∷ [])) 0
    enters = record { frame = _; kind = Wait; number = pos 1; is = refl; named = refl; free = λ w. tt }

    frame : Frame
    frame = record { nodes = node_of Zero (pos 0) ∷ node_of Wait (pos 1) ∷ []; status = Running; trace = Staged Wait (pos 1) ∷ [] }

    follows : (j : ℕ) (f : Frame) → 1 ≡ suc j → frame_at (after (Begin 0 ∷ Advance 0 Wait (pos 1) ∷ Enter 0 ∷ [])).frames j ≡ Some f
        → ContinuesLoop f.status f.nodes
    follows zero f e is =
        let same : frame ≡ f = cc in
        let more : ContinuesLoop frame.status frame.nodes = omega arith in
        subst (λ (g : Frame). ContinuesLoop g.status g.nodes) same more
    follows (suc j) f e is = absurd (omega (arith, e))

    begins_next : MayBegin 2 (after (Begin 0 ∷ Advance 0 Wait (pos 1) ∷ Enter 0 ∷ [])) 1
    begins_next = record { number = refl; room = omega arith; follows = follows }

    closes : MayFinish (after (Begin 0 ∷ Advance 0 Wait (pos 1) ∷ Enter 0 ∷ Begin 1 ∷ [])) 1 ends.Closed
    closes = record { running = record { frame = _; is = refl; runs = refl }; first = λ w. refl }

    finishes : MayFinish (after (Begin 0 ∷ Advance 0 Wait (pos 1) ∷ Enter 0 ∷ Begin 1 ∷ Finish 1 ends.Closed ∷ [])) 0 ends.End
    finishes = record { running = record { frame = _; is = refl; runs = refl }; first = λ w. absurd (cc) }

-- ---- the program

performs : (i : ℕ) (p : Program) (lists : ListIdentities) → Performs ((pipeline_of emitting_once []).behaviour i)
    (actions_at (example_book p lists) i)
performs zero p lists = ((pos 0, refl), (refl, (refl, ((pos 1, refl), ((pos 0, refl), (refl, (refl, tt)))))))
performs (suc zero) p lists = ((pos 1, refl), (refl, tt))
performs (suc (suc i)) p lists =
    let a : (0 == suc (suc i)) ≡ false = ne_eqb 0 (suc (suc i)) (λ e. omega (arith, e)) in
    let b : (1 == suc (suc i)) ≡ false = ne_eqb 1 (suc (suc i)) (λ e. omega (arith, e)) in
    rw (a, b) tt

-- ---- entries and traces

traced : (i j k : ℕ) (p : Program) (lists : ListIdentities) → k < 3 → entries_of_instance (at i j)
    (shard_at example_shards k) ≡ entries_of_shard 3 k (trace_of (example_book p lists) (at i j))
traced zero zero zero p lists l = refl
traced zero (suc zero) zero p lists l = refl
traced zero (suc (suc j)) zero p lists l = refl
traced (suc zero) zero zero p lists l = refl
traced (suc zero) (suc j) zero p lists l = refl
traced (suc (suc i)) j zero p lists l = refl
traced zero zero (suc zero) p lists l = refl
traced zero (suc zero) (suc zero) p lists l = refl
traced zero (suc (suc j)) (suc zero) p lists l =
    let b : (1 == suc (suc j)) ≡ false = ne_eqb 1 (suc (suc j)) (λ e. omega (arith, e)) in
    rw b refl
traced (suc zero) zero (suc zero) p lists l = refl
traced (suc zero) (suc j) (suc zero) p lists l = refl
traced (suc (suc i)) j (suc zero) p lists l =
    let a : (0 == suc (suc i)) ≡ false = ne_eqb 0 (suc (suc i)) (λ e. omega (arith, e)) in
    rw a refl
traced zero zero (suc (suc zero)) p lists l = refl
traced zero (suc zero) (suc (suc zero)) p lists l = refl
traced zero (suc (suc j)) (suc (suc zero)) p lists l =
    let a : (0 == suc (suc j)) ≡ false = ne_eqb 0 (suc (suc j)) (λ e. omega (arith, e)) in
    let b : (1 == suc (suc j)) ≡ false = ne_eqb 1 (suc (suc j)) (λ e. omega (arith, e)) in
    rw (a, b) refl
traced (suc zero) zero (suc (suc zero)) p lists l = refl
traced (suc zero) (suc j) (suc (suc zero)) p lists l =
    let a : (0 == suc j) ≡ false = ne_eqb 0 (suc j) (λ e. omega (arith, e)) in
    rw a refl
traced (suc (suc i)) j (suc (suc zero)) p lists l =
    let a : (0 == suc (suc i)) ≡ false = ne_eqb 0 (suc (suc i)) (λ e. omega (arith, e)) in
    let b : (1 == suc (suc i)) ≡ false = ne_eqb 1 (suc (suc i)) (λ e. omega (arith, e)) in
    rw (a, b) refl
traced i j (suc (suc (suc k))) p lists l = absurd (omega (arith, l))

-- ---- tickets

book_rises : AllPairs (λ (a : BookEntry) (b : BookEntry). a.ticket < b.ticket) example_log
book_rises = rises_pairs (λ (b : BookEntry). b.ticket) 0 10 example_log (
  omega arith,
  omega arith,
  (
    omega arith,
    omega arith,
    (omega arith, omega arith, (omega arith, omega arith, (omega arith, omega arith, (omega arith, omega arith, tt)))),
  ),
)

shards_rise : (k : ℕ) → AllPairs (λ (a : ShardEntry) (b : ShardEntry). a.ticket < b.ticket) (shard_at example_shards k)
shards_rise zero = λ i j d l w. absurd (omega (arith, w))
shards_rise (suc zero) = rises_pairs (λ (b : ShardEntry). b.ticket) 0 10 (shard_at example_shards 1)
    (omega arith, omega arith, (omega arith, omega arith, tt))
shards_rise (suc (suc zero)) = rises_pairs (λ (b : ShardEntry). b.ticket) 0 10 (shard_at example_shards 2)
    (omega arith, omega arith, (omega arith, omega arith, (omega arith, omega arith, (omega arith, omega arith, tt))))
shards_rise (suc (suc (suc k))) = λ i j d l w. absurd (omega (arith, w))

trace_00 : Rises time 1 4 (made example_traces 0 0)
trace_00 = (omega arith, omega arith, (omega arith, omega arith, tt))

trace_01 : Rises time 5 9 (made example_traces 0 1)
trace_01 = (omega arith, omega arith, (omega arith, omega arith, (omega arith, omega arith, tt)))

trace_10 : Rises time 6 8 (made example_traces 1 0)
trace_10 = (omega arith, omega arith, tt)

in_instance : (i k : ℕ) → TicketsRise (made example_traces i k)
in_instance zero zero = rises_in_trace 1 4 (made example_traces 0 0) trace_00
in_instance zero (suc zero) = rises_in_trace 5 9 (made example_traces 0 1) trace_01
in_instance zero (suc (suc k)) = tt
in_instance (suc zero) zero = rises_in_trace 6 8 (made example_traces 1 0) trace_10
in_instance (suc zero) (suc k) = tt
in_instance (suc (suc i)) k = tt

from_start : (i k : ℕ) (x : TimedAction) → Among x (made example_traces i k) → (start : ℕ) × (start_ticket_of example_log i k ≡ Some start)
    × (start < x.ticket)
from_start zero zero x m = (1, refl, (rises_within time 1 4 (made example_traces 0 0) trace_00 x m).0)
from_start zero (suc zero) x m = (5, refl, (rises_within time 5 9 (made example_traces 0 1) trace_01 x m).0)
from_start zero (suc (suc k)) x m = absurd (none_among x m)
from_start (suc zero) zero x m = (6, refl, (rises_within time 6 8 (made example_traces 1 0) trace_10 x m).0)
from_start (suc zero) (suc k) x m = absurd (none_among x m)
from_start (suc (suc i)) k x m = absurd (none_among x m)

to_end : (i k : ℕ) (x : TimedAction) (end : ℕ) → Among x (made example_traces i k) → end_ticket_of example_log i k ≡ Some end
    → x.ticket < end
to_end zero zero x end m e = (let same : 4 ≡ end = cc in let l = (rises_within time 1 4 (made example_traces 0 0) trace_00 x m).1 in
    omega (arith, same, l))
to_end zero (suc zero) x end m e = (let same : 9 ≡ end = cc in let l = (rises_within time 5 9 (made example_traces 0 1) trace_01 x m).1 in
    omega (arith, same, l))
to_end zero (suc (suc k)) x end m e = absurd (none_among x m)
to_end (suc zero) zero x end m e = (let same : 8 ≡ end = cc in let l = (rises_within time 6 8 (made example_traces 1 0) trace_10 x m).1 in
    omega (arith, same, l))
to_end (suc zero) (suc k) x end m e = absurd (none_among x m)
to_end (suc (suc i)) k x end m e = absurd (none_among x m)

-- ---- cells

reads : All (ReadsAreRight (store_of emitting_once) []) example_shards
reads zero d l = tt
reads (suc zero) d l = (λ e. refl, (λ e. absurd (cc), tt))
reads (suc (suc zero)) d l = (λ e. refl, (λ e. absurd (cc), (λ e. refl, (λ e. refl, tt))))
reads (suc (suc (suc k))) d l = absurd (omega (arith, l))

-- ---- all together

none_out : (p : Program) (lists : ListIdentities) → NoTokenIsOut (example_book p lists)
none_out p lists zero e = cc
none_out p lists (suc zero) e = cc
none_out p lists (suc (suc i)) e = cc

ended_by : (x f : Frame) → Some x ≡ Some f → is_completed x.status ≡ true → is_completed f.status ≡ true
ended_by x f e h = (let same : x ≡ f = cc in subst (λ (g : Frame). is_completed g.status ≡ true) same h)

finished : IsFinished (state_after (events_of example_log))
finished = record {
  over = over;
  shut = record { iteration = 1; frame = _; is = refl; closes = (refl, refl) };
  going = refl;
}
  where
    over : (i : ℕ) (f : Frame) → frame_at (state_after (events_of example_log)).frames i ≡ Some f → is_completed f.status ≡ true
    over zero f e = ended_by _ f e refl
    over (suc zero) f e = ended_by _ f e refl
    over (suc (suc i)) f e = absurd (cc)

closed : (p : Program) (lists : ListIdentities) → tree_of p ≡ emitting_once → ClosedHall (example_book p lists) [] example_shards
closed p lists tree = record {
  book = record {
    control = control_run;
    performs = λ i. subst (λ t. Performs ((pipeline_of t []).behaviour i) (actions_at (example_book p lists) i)) (sym tree)
        (performs i p lists);
    out = λ going i o. absurd (none_out p lists i o);
  };
  logs = record {
    some = omega arith;
    traces = λ x k l out. traced x.iteration x.index k p lists l;
    tickets = record { in_book = book_rises; in_shards = shards_rise; in_instance = in_instance; from_start = from_start; to_end = to_end };
    reads = subst (λ t. All (ReadsAreRight (store_of t) []) example_shards) (sym tree) reads;
  };
  stop = λ e. absurd (false≢true e);
}

-- ---- the merge

abbrev first_entry : LogEntry
first_entry = OfBook (event_at 1 (Begin 0))

abbrev other_entries : List LogEntry
other_entries =
    OfShard 2 (entry_by 2 (at 0 0) (read_access 2 (pos 0)))
    ∷ OfShard 2 (entry_by 3 (at 0 0) (write_access 2 (pos 1)))
    ∷ OfBook (event_at 4 (Advance 0 Wait (pos 1)))
    ∷ OfBook (event_at 5 (Enter 0))
    ∷ OfBook (event_at 6 (Begin 1))
    ∷ OfShard 2 (entry_by 6 (at 0 1) (read_access 2 (pos 1)))
    ∷ OfShard 1 (entry_by 7 (at 0 1) (read_access 1 (pos 0)))
    ∷ OfShard 2 (entry_by 7 (at 1 0) (read_access 2 (pos 1)))
    ∷ OfBook (event_at 8 (Finish 1 ends.Closed))
    ∷ OfShard 1 (entry_by 8 (at 0 1) (write_access 1 (pos 1)))
    ∷ OfBook (event_at 9 (Finish 0 ends.End))
    ∷ []

each_follows : Follow first_entry other_entries
each_follows = (
  inl (omega arith),
  (
    inl (omega arith),
    (
      inl (omega arith),
      (
        inl (omega arith),
        (
          inl (omega arith),
          (
            inr (refl, omega arith),
            (
              inl (omega arith),
              (
                inr (refl, omega arith),
                (inl (omega arith), (inr (refl, omega arith), (inl (omega arith), tt))),
              ),
            ),
          ),
        ),
      ),
    ),
  ),
)

merged : AreMerged example_log example_shards example_events
merged = record {
  entries = first_entry ∷ other_entries;
  merge = record {
    order = in_order first_entry other_entries each_follows;
    book_is = refl;
    shard_is = shard_is;
  };
  are = refl;
}
  where
    shard_is : (k : ℕ) → shard_in k (first_entry ∷ other_entries) ≡ shard_at example_shards k
    shard_is zero = refl
    shard_is (suc zero) = refl
    shard_is (suc (suc zero)) = refl
    shard_is (suc (suc (suc k))) =
        let a : (1 == suc (suc (suc k))) ≡ false = ne_eqb 1 (suc (suc (suc k))) (λ e. omega (arith, e)) in
        let b : (2 == suc (suc (suc k))) ≡ false = ne_eqb 2 (suc (suc (suc k))) (λ e. omega (arith, e)) in
        rw (a, b) refl

pub example_hall_is_merged : ExampleHallIsMerged
example_hall_is_merged p lists tree = record {
  rules = record { obeys = subst (λ t. fault_of t ≡ None) (sym tree) refl };
  merged = record {
    opened = subst (λ t. is_some (init_trap (whole_of t [])) ≡ false) (sym tree) refl;
    closed = subst (λ t. ClosedHall (example_book p lists) (init_accesses (whole_of t [])) example_shards) (sym tree) (closed p lists tree);
    none = none_out p lists;
    events = merged;
    columns = refl;
  };
  finished = finished;
  histories = (example_history p lists, example_notes p lists, example_finds_none p lists);
  starts = StartsIt _ refl;
  reads = AccessesIt 2 _ refl;
  ends = EndsIt _ refl;
  writes = AccessesIt 1 _ refl;
}
