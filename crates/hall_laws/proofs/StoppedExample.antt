-- The worked example of a hall that was stopped.
use Rattle.std.proofs.Common.{is_some, ◌≡◌, refl, sym, subst, ℕ, zero, suc, ◌<◌, pos, List, [], ◌∷◌, All, AllPairs, false, ◌==◌, Some, None}
use Rattle.std.proofs.Common.{arith, inl}
use Rattle.std.proofs.lemmas.Bool.{ne_eqb}
use Rattle.pipe_model.specs.declared.event.Event.TheVariants.{Begin, Stop}
use Rattle.pipe_model.specs.declared.ticket.BookEntry.{BookEntry}
use Rattle.pipe_model.specs.declared.ticket.ShardEntry.{ShardEntry}
use Rattle.pipe_model.specs.declared.tree.Program.{Program}
use Rattle.pipe_model.specs.Language.Programs.{pipeline_of, store_of}
use Rattle.pipe_model.specs.Language.SyntaxTree.{tree_of}
use Rattle.pipe_model.specs.Language.ProgramsOfTrees.{whole_of}
use Rattle.pipe_model.specs.Pipelines.WholePrograms.{init_accesses, init_trap}
use Rattle.pipe_model.specs.Pipelines.Behaviour.{Performs, read_access, write_access}
use Rattle.pipe_model.specs.Races.Columns.{at}
use Rattle.pipe_model.specs.Races.DeterminacyRaces.{Among}
use Rattle.pipe_model.specs.Runs.Allowed.{MayBegin}
use Rattle.pipe_model.specs.Runs.ControlRun.{ControlRun, ControlRunThen, EmptyControlRun}
use Rattle.pipe_model.specs.Runs.RunLogs.{state_after}
use Rattle.pipe_model.specs.Runs.TicketLogs.{LogEntry, OfBook, OfShard, TicketsRise, TimedAction, shard_in}
use Rattle.pipe_model.specs.Runs.TicketOrder.{end_ticket_of, start_ticket_of}
use Rattle.pipe_model.proofs.Members.{none_among}
use Rattle.frame_book.specs.BookStates.{actions_at, events_of, made}
use Rattle.pipe_frame.specs.Ties.{ListIdentities}
use Rattle.pipe_frame.specs.TokenFields.{TokenFields}
use Rattle.program_laws.specs.ScheduleExamples.{emitting_once}
use Rattle.run_record.specs.MergedLogs.{AreMerged, shard_at}
use Rattle.hall_laws.specs.ClosedHalls.{ClosedHall, NoTokenIsOut, ReadsAreRight, entries_of_instance, entries_of_shard, trace_of}
use Rattle.hall_laws.specs.HallExamples.{StoppedHallIsMerged, entry_by, event_at, stopped_book, stopped_events, stopped_log, stopped_shards}
use Rattle.hall_laws.proofs.TicketLists.{Follow, Rises, in_order, rises_in_trace, rises_pairs, rises_within, time}

module _ (p : Program) (lists : ListIdentities) (token : TokenFields) where
  control_run : ControlRun 2 (events_of stopped_log) (state_after (events_of stopped_log))
  control_run = ControlRunThen (ControlRunThen EmptyControlRun (Begin 0) refl refl begins) Stop refl refl tt
    where
      begins : MayBegin 2 (state_after []) 0
      begins = record { number = refl; room = omega arith; follows = λ j f e is. absurd (omega (arith, e)) }

  performs : (i : ℕ) → Performs ((pipeline_of emitting_once []).behaviour i) (actions_at (stopped_book p lists token) i)
  performs zero = ((pos 0, refl), (refl, tt))
  performs (suc i) = tt

  traced : (i j k : ℕ) → k < 3 → entries_of_instance (at i j) (shard_at stopped_shards k) ≡ entries_of_shard 3 k
      (trace_of (stopped_book p lists token) (at i j))
  traced zero zero zero l = refl
  traced zero (suc j) zero l = refl
  traced (suc i) j zero l = refl
  traced zero zero (suc zero) l = refl
  traced zero (suc j) (suc zero) l = refl
  traced (suc i) j (suc zero) l = refl
  traced zero zero (suc (suc zero)) l = refl
  traced zero (suc j) (suc (suc zero)) l =
      let a : (0 == suc j) ≡ false = ne_eqb 0 (suc j) (λ e. omega (arith, e)) in
      rw a refl
  traced (suc i) j (suc (suc zero)) l =
      let a : (0 == suc i) ≡ false = ne_eqb 0 (suc i) (λ e. omega (arith, e)) in
      rw a refl
  traced i j (suc (suc (suc k))) l = absurd (omega (arith, l))

  abbrev traces : ℕ → ℕ → List TimedAction
  traces i k = made (stopped_book p lists token).traces i k

  trace_00 : Rises time 1 4 (traces 0 0)
  trace_00 = (omega arith, omega arith, (omega arith, omega arith, tt))

  in_instance : (i k : ℕ) → TicketsRise (traces i k)
  in_instance zero zero = rises_in_trace 1 4 (traces 0 0) trace_00
  in_instance zero (suc k) = tt
  in_instance (suc i) k = tt

  from_start : (i k : ℕ) (x : TimedAction) → Among x (traces i k) → (start : ℕ) × (start_ticket_of stopped_log i k ≡ Some start)
      × (start < x.ticket)
  from_start zero zero x m = (1, refl, (rises_within time 1 4 (traces 0 0) trace_00 x m).0)
  from_start zero (suc k) x m = absurd (none_among x m)
  from_start (suc i) k x m = absurd (none_among x m)

  to_end : (i k : ℕ) (x : TimedAction) (end : ℕ) → Among x (traces i k) → end_ticket_of stopped_log i k ≡ Some end → x.ticket < end
  to_end zero zero x end m e = absurd (let q : None ≡ Some end = e in cc)
  to_end zero (suc k) x end m e = absurd (none_among x m)
  to_end (suc i) k x end m e = absurd (none_among x m)

  shards_rise : (k : ℕ) → AllPairs (λ (a : ShardEntry) (b : ShardEntry). a.ticket < b.ticket) (shard_at stopped_shards k)
  shards_rise zero = λ i j d l w. absurd (omega (arith, w))
  shards_rise (suc zero) = λ i j d l w. absurd (omega (arith, w))
  shards_rise (suc (suc zero)) = rises_pairs (λ (b : ShardEntry). b.ticket) 0 4 (shard_at stopped_shards 2)
      (omega arith, omega arith, (omega arith, omega arith, tt))
  shards_rise (suc (suc (suc k))) = λ i j d l w. absurd (omega (arith, w))

  reads : All (ReadsAreRight (store_of emitting_once) []) stopped_shards
  reads zero d l = tt
  reads (suc zero) d l = tt
  reads (suc (suc zero)) d l = (λ e. refl, (λ e. absurd (cc), tt))
  reads (suc (suc (suc k))) d l = absurd (omega (arith, l))

  below : All (All (λ (e : ShardEntry). e.ticket < 4)) stopped_shards
  below zero d l k c w = absurd (omega (arith, w))
  below (suc zero) d l k c w = absurd (omega (arith, w))
  below (suc (suc zero)) d l zero c w = omega arith
  below (suc (suc zero)) d l (suc zero) c w = omega arith
  below (suc (suc zero)) d l (suc (suc k)) c w = absurd (omega (arith, w))
  below (suc (suc (suc n))) d l k c w = absurd (omega (arith, l))

  none_out : NoTokenIsOut (stopped_book p lists token)
  none_out zero e = cc
  none_out (suc i) e = cc

  closed : tree_of p ≡ emitting_once → ClosedHall (stopped_book p lists token) [] stopped_shards
  closed tree = record {
    book = record {
      control = control_run;
      performs = λ i. subst (λ t. Performs ((pipeline_of t []).behaviour i) (actions_at (stopped_book p lists token) i)) (sym tree)
          (performs i);
      out = λ going i o. absurd (none_out i o);
    };
    logs = record {
      some = omega arith;
      traces = λ x k l out. traced x.iteration x.index k l;
      tickets = record {
        in_book = rises_pairs (λ (b : BookEntry). b.ticket) 0 5 stopped_log (omega arith, omega arith, (omega arith, omega arith, tt));
        in_shards = shards_rise;
        in_instance = in_instance;
        from_start = from_start;
        to_end = to_end;
      };
      reads = subst (λ t. All (ReadsAreRight (store_of t) []) stopped_shards) (sym tree) reads;
    };
    stop = λ e. below;
  }

  abbrev first_entry : LogEntry
  first_entry = OfBook (event_at 1 (Begin 0))

  abbrev other_entries : List LogEntry
  other_entries =
      OfShard 2 (entry_by 2 (at 0 0) (read_access 2 (pos 0)))
      ∷ OfShard 2 (entry_by 3 (at 0 0) (write_access 2 (pos 1)))
      ∷ OfBook (event_at 4 Stop)
      ∷ []

  each_follows : Follow first_entry other_entries
  each_follows = (inl (omega arith), (inl (omega arith), (inl (omega arith), tt)))

  merged : AreMerged stopped_log stopped_shards stopped_events
  merged = record {
    entries = first_entry ∷ other_entries;
    merge = record { order = in_order first_entry other_entries each_follows; book_is = refl; shard_is = shard_is };
    are = refl;
  }
    where
      shard_is : (k : ℕ) → shard_in k (first_entry ∷ other_entries) ≡ shard_at stopped_shards k
      shard_is zero = refl
      shard_is (suc zero) = refl
      shard_is (suc (suc zero)) = refl
      shard_is (suc (suc (suc k))) =
          let b : (2 == suc (suc (suc k))) ≡ false = ne_eqb 2 (suc (suc (suc k))) (λ e. omega (arith, e)) in
          rw b refl

pub stopped_hall_is_merged : StoppedHallIsMerged
stopped_hall_is_merged p lists token tree = record {
  merged = record {
    opened = subst (λ t. is_some (init_trap (whole_of t [])) ≡ false) (sym tree) refl;
    closed = subst (λ t. ClosedHall (stopped_book p lists token) (init_accesses (whole_of t [])) stopped_shards) (sym tree)
        (closed p lists token tree);
    none = none_out p lists token;
    events = merged p lists token;
    columns = refl;
  };
  stopped = refl;
}
