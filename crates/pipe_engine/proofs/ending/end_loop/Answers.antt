use Rattle.std.proofs.Common.{◌≡◌, ◌≢◌, ◌∙◌, ◌++◌, ◌<◌, ◌≤◌, ◌^◌, [], All, AllPairs, ap, ap₂, cond, false}
use Rattle.std.proofs.Common.{length, map, refl, subst, sym, List}
use Rattle.std.specs.List.{list_any}
use Rattle.std.specs.List.Sorted.{IsPermutation}
use Rattle.access_history.specs.declared.history.Found.{Found}
use Rattle.hall_headline.specs.EndedPrograms.{AreGathered}
use Rattle.hall_headline.specs.HallEnds.{logs_of}
use Rattle.hall_shards.specs.FoundRaces.{found_by}
use Rattle.pipe_engine.proofs.LoopEnds.{can_be_merged, cells_after, columns_of_book, finished_end}
use Rattle.pipe_engine.proofs.LoopEnds.{hall_is_merged, log_of_hall, loop_end, parts, races, serves_still, small_columns}
use Rattle.pipe_engine.proofs.NeededColumns.{found_if, reports_if, small_if, trap_if}
use Rattle.program_ends.proofs.RunColumns.{HasSmallColumns}
use Rattle.pipe_model.specs.declared.report.Report.{Report}
use Rattle.run_record.proofs.TrappedEvents.{books_without_traps_make_none}
use Rattle.run_record.specs.OwnColumns.{made_columns}
use Rattle.run_record.specs.TrappedEvents.{IsUntrapped, ends_trapped}
use Rattle.serial_elision.specs.ColumnTraps.{least_trap}
use Rattle.pipe_engine.specs.FinalCells.{ArePartsOf, HaveCellsAfter}
use Rattle.pipe_model.specs.Runs.RunLogs.{accesses_after}
use Rattle.pipe_model.specs.Runs.State.{accesses_of}
use Rattle.pipe_model.specs.declared.access.CellId.{CellId}
use Rattle.pipe_model.specs.declared.column.Column.{Column}
use Rattle.pipe_model.specs.declared.ticket.BookEntry.{BookEntry}
use Rattle.pipe_model.specs.declared.ticket.ShardEntry.{ShardEntry}
use Rattle.pipe_model.specs.Language.Programs.{store_of}
use Rattle.pipe_model.specs.Language.ProgramsOfTrees.{whole_of}
use Rattle.pipe_model.specs.Language.SyntaxTree.{tree_of}
use Rattle.pipe_model.specs.Pipelines.WholePrograms.{init_accesses}
use Rattle.pipe_model.specs.Races.Columns.{node_columns}
use Rattle.race_report.specs.RaceReports.{IsFoundIn, report_found}
use Rattle.run_record.specs.MergedLogs.{AreMerged, BookRises, ShardRises}
use Rattle.pipe_engine.proofs.ending.end_loop.Goals as goal

-- the reports of other columns and other races that are the same
found_map : {columns columns' : List Column} {fs fs' : List (CellId × Found)} → columns ≡ columns' → fs ≡ fs'
    → map (λ (f : CellId × Found). report_found (node_columns columns) f.0 f.1) fs
    ≡ map (λ (f : CellId × Found). report_found (node_columns columns') f.0 f.1) fs'
found_map e f = ap₂ (λ (l : List Column) (k : List (CellId × Found)). map (λ (x : CellId × Found). report_found (node_columns l) x.0 x.1) k)
    e f

pub collect-requires-clause-count : goal.collect-requires-clause-count
collect-requires-clause-count g c = c.requires.serves.count ∙ sym c.cell_count.ensures.count

pub collect-requires-clause-whole : goal.collect-requires-clause-whole
collect-requires-clause-whole g c = (c.requires.serves.whole.number, c.requires.serves.whole.shards)

pub collect-requires-clause-all : goal.collect-requires-clause-all
collect-requires-clause-all g c = ap length c.as_slice-2.ensures.value ∙ c.in_ok-book.ensures.len

pub collect-requires-clause-parts : goal.collect-requires-clause-parts
collect-requires-clause-parts g c =
    let end = c.in_ok-book.field-0 in
    let ensured = c.in_ok-book.ensures in
    let log = c.in_ok-book_log.ensures in
    let h = finished_end c.args.hall.before c.args.key.seen end.book end.shards.items ensured.len ensured.ended ensured.stop log.sound
    log.finished in
    let tree = tree_of c.args.prepared.now.checked.now in
    let input = c.args.prepared.now.input.now in
    let of_hall = log_of_hall end.book end.shards.items in
    let merged = hall_is_merged c.args.hall.before end.book end.shards.items h in
    subst (ArePartsOf c.args.cells.shard) (sym c.as_slice-2.ensures.value)
    (parts tree input c.args.throttle c.args.hall end.book end.shards.items of_hall c.requires.opened ensured.constants h merged refl
    c.args.cells (init_accesses (whole_of tree input)) c.requires.state)

pub gather-requires : goal.gather-requires
gather-requires g c =
    let end = c.in_ok-book.field-0 in
    let ensured = c.in_ok-book.ensures in
    let log = c.in_ok-book_log.ensures in
    let h = finished_end c.args.hall.before c.args.key.seen end.book end.shards.items ensured.len ensured.ended ensured.stop log.sound
    log.finished in
    let tree = tree_of c.args.prepared.now.checked.now in
    let input = c.args.prepared.now.input.now in
    let of_hall = log_of_hall end.book end.shards.items in
    let merged = hall_is_merged c.args.hall.before end.book end.shards.items h in
    let full : List Column = made_columns (map (λ (e : BookEntry). e.event) end.book.log) in
    let needed = c.are_columns_needed-needed.result in
    let columns_are = c.in_ok-columns.ensures
    ∙ ap (λ (l : List BookEntry). cond needed (made_columns (map (λ (e : BookEntry). e.event) l)) []) (c.as_slice-5.ensures ∙ log.log) in
    let found = c.as_slice-6.ensures.value ∙ c.in_ok-found.ensures ∙ ap found_by c.as_slice.ensures.value in
    let none : needed ≡ false → found_by end.shards.items ≡ [] = λ e. sym (c.as_slice-4.ensures.value ∙ c.in_ok-found.ensures
    ∙ ap found_by c.as_slice.ensures.value) ∙ c.are_columns_needed-needed.ensures.found e in
    let all = races tree input c.args.throttle c.args.hall end.book end.shards.items of_hall c.requires.opened
    ensured.constants h merged refl in
    let full_is = columns_of_book tree input c.args.throttle c.args.hall end.book end.shards.items of_hall c.requires.opened
    ensured.constants h merged refl in
    let instances = subst (λ (l : List Column). All (λ (f : CellId × Found). IsFoundIn (node_columns l) f.1) (found_by end.shards.items))
    (sym full_is) all.instances in
    record {
      cells = subst (λ (l : List (CellId × Found)). AllPairs (λ (a : CellId × Found) (b : CellId × Found). a.0 ≢ b.0) l)
          (sym found) all.cells;
      instances = subst
          (λ (l : List (CellId × Found)). All (λ (f : CellId × Found). IsFoundIn (node_columns c.in_ok-columns.columns) f.1) l) (sym found)
          (subst (λ (l : List Column). All (λ (f : CellId × Found). IsFoundIn (node_columns l) f.1) (found_by end.shards.items))
          (sym columns_are) (found_if needed full (found_by end.shards.items) none instances));
    }

pub of_logs-run_log-requires : goal.of_logs-run_log-requires
of_logs-run_log-requires g c =
    let end = c.in_ok-book.field-0 in
    let ensured = c.in_ok-book.ensures in
    let log = c.in_ok-book_log.ensures in
    let h = finished_end c.args.hall.before c.args.key.seen end.book end.shards.items ensured.len ensured.ended ensured.stop log.sound
    log.finished in
    let sorted = can_be_merged c.args.hall.before end.book end.shards.items h in
    record {
      book = subst BookRises (sym log.log) sorted.0;
      shards = subst (All ShardRises) (sym c.in_ok-shard_logs.ensures) sorted.1;
    }

pub least_trap-trap-requires : goal.least_trap-trap-requires
least_trap-trap-requires g c =
    let end = c.in_ok-book.field-0 in
    let ensured = c.in_ok-book.ensures in
    let log = c.in_ok-book_log.ensures in
    let h = finished_end c.args.hall.before c.args.key.seen end.book end.shards.items ensured.len ensured.ended ensured.stop log.sound
    log.finished in
    let tree = tree_of c.args.prepared.now.checked.now in
    let input = c.args.prepared.now.input.now in
    let of_hall = log_of_hall end.book end.shards.items in
    let merged = hall_is_merged c.args.hall.before end.book end.shards.items h in
    let full : List Column = made_columns (map (λ (e : BookEntry). e.event) end.book.log) in
    let needed = c.are_columns_needed-needed.result in
    let columns_are = c.in_ok-columns.ensures
    ∙ ap (λ (l : List BookEntry). cond needed (made_columns (map (λ (e : BookEntry). e.event) l)) []) (c.as_slice-5.ensures ∙ log.log) in
    let small = small_if needed full (subst HasSmallColumns (sym (columns_of_book tree input c.args.throttle c.args.hall end.book
    end.shards.items of_hall c.requires.opened ensured.constants h merged refl))
    (small_columns tree input c.args.throttle c.args.hall end.book end.shards.items of_hall c.requires.opened
    ensured.constants h merged refl c.requires.accepted)) in
    let seen = c.as_slice-7.ensures ∙ columns_are in
    record {
      count = subst (λ (l : List Column). length l ≤ 2 ^ 32) (sym seen) small.count;
      nonempty = subst (λ (l : List Column). All (λ (column : Column). 0 < length column.nodes) l) (sym seen) small.some;
      bounded = subst (λ (l : List Column). All (λ (column : Column). length column.nodes ≤ 2 ^ 32) l) (sym seen) small.bounded;
    }

pub returns : goal.returns
returns g c =
    let end = c.in_ok-book.field-0 in
    let ensured = c.in_ok-book.ensures in
    let log = c.in_ok-book_log.ensures in
    let h = finished_end c.args.hall.before c.args.key.seen end.book end.shards.items ensured.len ensured.ended ensured.stop log.sound
    log.finished in
    let tree = tree_of c.args.prepared.now.checked.now in
    let input = c.args.prepared.now.input.now in
    let full : List Column = made_columns (map (λ (e : BookEntry). e.event) end.book.log) in
    let needed = c.are_columns_needed-needed.result in
    let columns_are = c.in_ok-columns.ensures
    ∙ ap (λ (l : List BookEntry). cond needed (made_columns (map (λ (e : BookEntry). e.event) l)) []) (c.as_slice-5.ensures ∙ log.log) in
    let found = c.as_slice-6.ensures.value ∙ c.in_ok-found.ensures ∙ ap found_by c.as_slice.ensures.value in
    let none : needed ≡ false → found_by end.shards.items ≡ [] = λ e. sym (c.as_slice-4.ensures.value ∙ c.in_ok-found.ensures
    ∙ ap found_by c.as_slice.ensures.value) ∙ c.are_columns_needed-needed.ensures.found e in
    let run_log = c.of_logs-run_log.result in
    let merged = subst (λ (l : List BookEntry). AreMerged l (logs_of end.shards.items) run_log.events) log.log
    (subst (λ (ls : List (List ShardEntry)). AreMerged c.in_ok-book_log.book_log ls run_log.events)
    c.in_ok-shard_logs.ensures c.of_logs-run_log.ensures.events) in
    let full_is = columns_of_book tree input c.args.throttle c.args.hall end.book end.shards.items run_log c.requires.opened
    ensured.constants h merged c.of_logs-run_log.ensures.columns in
    let before = init_accesses (whole_of tree input) in
    let reports = c.in_ok-reports.reports in
    let same = found_map columns_are found ∙ (reports_if needed full (found_by end.shards.items) none
    ∙ ap (λ (l : List Column). map (λ (f : CellId × Found). report_found (node_columns l) f.0 f.1) (found_by end.shards.items)) full_is) in
    let gathered : AreGathered run_log (found_by end.shards.items) reports = record {
      each = subst (λ (l : List Report). IsPermutation l reports) same c.in_ok-reports.ensures.each;
      rise = c.in_ok-reports.ensures.rise;
    } in
    let untrapped : needed ≡ false → All (λ (k : Column). IsUntrapped k.end) full = λ e. books_without_traps_make_none end.book.log
    (subst (λ (l : List BookEntry). list_any (λ (b : BookEntry). ends_trapped b.event) l ≡ false) (c.as_slice-3.ensures ∙ log.log)
    (c.are_columns_needed-needed.ensures.trap e)) in
    let trap : c.least_trap-trap.result ≡ least_trap 0 run_log.columns = c.least_trap-trap.ensures
    ∙ (ap (least_trap 0) (c.as_slice-7.ensures ∙ columns_are) ∙ (trap_if needed full untrapped ∙ ap (least_trap 0) full_is)) in
    let run = accesses_of (accesses_after run_log.events) in
    let shards_after = subst (HaveCellsAfter (store_of tree) (before ++ run)) (sym c.as_slice-2.ensures.value)
    (cells_after tree input c.args.throttle c.args.hall end.book end.shards.items run_log c.requires.opened ensured.constants h merged
    c.of_logs-run_log.ensures.columns) in
    let state = c.collect.ensures.state (store_of tree) before run c.requires.state shards_after in
    loop_end tree input c.args.throttle c.args.hall end.book end.shards.items run_log c.requires.opened ensured.constants h
    merged c.of_logs-run_log.ensures.columns reports c.least_trap-trap.result c.collect.new.cells gathered trap
    (serves_still tree c.args.cells c.collect.new.cells c.collect.ensures.shard c.requires.serves) state
