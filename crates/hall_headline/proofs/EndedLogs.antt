-- The merge of the logs of a hall that has ended, and its cells.
use Rattle.std.proofs.Common.{◌≡◌, ◌∙◌, sym, ap, subst, ℕ, ◌<◌, List, ◌++◌, map, get_or, All, false, arith, inl, inr}
use Rattle.std.proofs.lemmas.Bool.{cases_lt, false≢true}
use Rattle.std.proofs.lemmas.List.Elements.{All-map}
use Rattle.cell_store.specs.ShardState.{IsStateAfter}
use Rattle.cell_store.proofs.DeclaredCells.{values_length}
use Rattle.pipe_model.specs.declared.access.Access.{Access as CellAccess}
use Rattle.pipe_model.specs.declared.event.Event.{Event}
use Rattle.pipe_model.specs.declared.event.Event.TheVariants.{Access, Advance, Begin, Enter, Finish, Stop}
use Rattle.pipe_model.specs.declared.ticket.ShardEntry.{ShardEntry}
use Rattle.pipe_model.specs.Language.Programs.{store_of}
use Rattle.pipe_model.specs.Language.SyntaxTree.{tree_of}
use Rattle.pipe_model.specs.Races.DeterminacyRaces.{Among}
use Rattle.pipe_model.specs.Runs.ControlRun.{is_access}
use Rattle.pipe_model.specs.Runs.TicketLogs.{LogEntry, OfBook, OfShard, event_of}
use Rattle.pipe_model.proofs.Members.{among_at, none_among}
use Rattle.run_laws.proofs.LogMerge.MergeSplits.{among_events, among_shard, control_has_no_access, in_book}
use Rattle.frame_book.specs.BookStates.{BookState}
use Rattle.program_laws.specs.DeclaredCells.{IsInside, cell_count}
use Rattle.run_record.specs.MergedLogs.{AreMerged, shard_at}
use Rattle.hall_laws.proofs.HallRuns.{closed_halls_are_runs}
use Rattle.hall_laws.proofs.ShardStates.{shard_states_are_of_runs}
use Rattle.hall_calls.specs.Closing.{shard_in}
use Rattle.hall_shards.specs.ShardValues.{ShardValue}
use Rattle.hall_headline.specs.HallEnds.{HallEndsAccessTheirCells, HallEndsAreRuns, HallEndsHaveCellsOfRuns, IsHallEnd, logs_of}
use Rattle.hall_headline.proofs.HallEnds.{hall_ends_are_closed, has_shard, log_is, log_past, width}

pub hall_ends_are_runs : HallEndsAreRuns
hall_ends_are_runs before b shards events h none merged = closed_halls_are_runs b before (logs_of shards) events
    (hall_ends_are_closed before b shards h) none merged

-- ---- the program's cells

module _ (before : List CellAccess) (b : BookState) (shards : List ShardValue) (h : IsHallEnd before b shards) where
  abbrev cells : ℕ
  cells = cell_count (tree_of b.program)

  cells_are : (k : ℕ) → k < 16 → (shard_in shards k).cells.shard.cells ≡ cells
  cells_are k l =
      let declared = values_length (tree_of b.program).cells in
      let all = (has_shard before b shards h k l).shard.cells.cells in
      omega (arith, declared, all)

  pub entry_inside : (k : ℕ) (e : ShardEntry) → Among e (shard_at (logs_of shards) k) → e.access.cell.0 < cells
  entry_inside k e m = elim (cases_lt k 16) [
    | inl less ↦ subst (λ n. e.access.cell.0 < n) (cells_are k less)
        ((has_shard before b shards h k less).shard.there e (subst (λ l. Among e l) (log_is before b shards h k less) m))
    | inr past ↦ absurd (none_among e (subst (λ l. Among e l) (log_past before b shards h k past) m))
  ]

  event_inside : (e : Event) → is_access e ≡ false → IsInside cells e
  event_inside (Begin i) quiet = tt
  event_inside (Access i a) quiet = absurd (false≢true (sym quiet))
  event_inside (Advance i k n) quiet = tt
  event_inside (Enter i) quiet = tt
  event_inside (Finish i end) quiet = tt
  event_inside Stop quiet = tt

  merge_inside : (events : List Event) → AreMerged b.log (logs_of shards) events → All (IsInside cells) events
  merge_inside events merged =
      subst (All (IsInside cells)) (sym merged.are) (All-map (IsInside cells) event_of merged.entries
      (λ n d l. by_entry (get_or merged.entries n d) (among_at merged.entries n d l)))
    where
      by_entry : (x : LogEntry) → Among x merged.entries → IsInside cells (event_of x)
      by_entry (OfBook e) m =
          event_inside e.event
          (control_has_no_access h.book.control e.event (among_events e b.log
          (subst (λ l. Among e l) merged.merge.book_is (in_book merged.entries e m))))
      by_entry (OfShard k e) m = entry_inside k e (subst (λ l. Among e l) (merged.merge.shard_is k) (among_shard merged.entries k e m))

pub hall_ends_access_their_cells : HallEndsAccessTheirCells
hall_ends_access_their_cells before b shards events h merged = merge_inside before b shards h events merged

-- ---- the cells after the run

pub hall_ends_have_cells_of_runs : HallEndsHaveCellsOfRuns
hall_ends_have_cells_of_runs before b shards events h none merged k l =
    let s = (has_shard before b shards h k l).shard in
    let state = (shard_in shards k).cells in
    let store = store_of (tree_of b.program) in
    let own : (shard_in shards k).log ≡ shard_at (logs_of shards) state.shard.number =
    sym (log_is before b shards h k l) ∙ ap (shard_at (logs_of shards)) (sym s.part.0) in
    record {
      number = s.part.0;
      shards = s.part.1;
      cells = shard_states_are_of_runs b before (logs_of shards) events state (hall_ends_are_runs before b shards events h none merged)
          (s.part.1 ∙ sym (width before b shards h))
          (subst (λ log. IsStateAfter store (before ++ map (λ (e : ShardEntry). e.access) log) state) own s.cells);
    }
