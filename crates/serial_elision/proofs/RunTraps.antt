-- The traps of a run, by its columns.
use Rattle.std.proofs.Common.{◌≡◌, ◌∙◌, ap, ap₂, sym, refl, arith, ℕ, suc, ◌+◌, ◌<◌, List, [], ◌∷◌, ◌++◌, Option, Some, None, length, map}
use Rattle.std.proofs.Common.{take, get_or, append-nil}
use Rattle.std.proofs.lemmas.List.{length-take-le, take_more}
use Rattle.std.specs.Option.{option_or}
use Rattle.pipe_model.specs.declared.column.Column.{Column}
use Rattle.pipe_model.specs.declared.node.Node.{Node}
use Rattle.pipe_model.specs.declared.status.Status.{Status}
use Rattle.pipe_model.specs.declared.status.Status.TheVariants.{Running, Pending, Completed}
use Rattle.pipe_model.specs.declared.trap.TrapAt.{TrapAt}
use Rattle.pipe_model.specs.Pipelines.Behaviour.{Action, Accessed, Staged, Ended, HasNoEnd, column_of, trace_end}
use Rattle.pipe_model.specs.Pipelines.ElisionResults.{ended_column, first_of_both, first_trap, trap_at_end}
use Rattle.pipe_model.specs.Pipelines.WholePrograms.{part_trap}
use Rattle.pipe_model.specs.Runs.RunLogs.{column_of_frame}
use Rattle.pipe_model.specs.Runs.State.{Frame, end_of_status, frame_at}
use Rattle.run_laws.proofs.Iterations.TraceParts.{trace_end_is}
use Rattle.run_laws.proofs.RunStates.FrameTraces.{EndsBy, pending_node, run_traced}
use Rattle.serial_elision.specs.ColumnTraps.{RunTrapsAreThoseOfColumns, column_trap, last_place, least_trap}
use Rattle.serial_elision.proofs.Elided.{first_alone, first_of_three, or_is_first, trap_of_trace}

no_trace_end : (actions : List Action) → HasNoEnd actions → trace_end actions ≡ None
no_trace_end [] h = refl
no_trace_end (Accessed a ∷ rest) h = no_trace_end rest h
no_trace_end (Staged k n ∷ rest) h = no_trace_end rest h
no_trace_end (Ended e ∷ rest) h = absurd h

-- the trap of an iteration, by its status
trap_by_status : (i : ℕ) (status : Status) (nodes : List Node) (trace : List Action) → column_of trace ≡ nodes ++ pending_node status
    → EndsBy status trace
    → trap_at_end i trace (trace_end trace) ≡ column_trap i (record { nodes = nodes; end = end_of_status status })
trap_by_status i Running nodes trace column ending = ap (trap_at_end i trace) (no_trace_end trace ending)
trap_by_status i (Pending k n) nodes trace column ending = ap (trap_at_end i trace) (no_trace_end trace ending)
trap_by_status i (Completed e) nodes trace column ending =
    sym (trap_of_trace i trace (trace_end trace))
    ∙ ap (part_trap (last_place i (ended_column trace))) (trace_end_is trace e ending)
    ∙ ap (λ (l : List Node). column_trap i (let c : Column = record { nodes = l; end = Some e } in c)) (column ∙ append-nil nodes)

-- the same for iteration i and all later ones
traps_of_frames : (i : ℕ) (frames : List Frame)
    → ((k : ℕ) (f : Frame) → frame_at frames k ≡ Some f → (column_of f.trace ≡ f.nodes ++ pending_node f.status) × EndsBy f.status f.trace)
    → first_trap i (map (λ (f : Frame). f.trace) frames) ≡ least_trap i (map column_of_frame frames)
traps_of_frames i [] traced = refl
traps_of_frames i (f ∷ frames) traced =
    let one = traced 0 f refl in
    ap₂ first_of_both (trap_by_status i f.status f.nodes f.trace one.0 one.1)
    (traps_of_frames (i + 1) frames (λ k g there. traced (suc k) g there))

pub run_traps_are_those_of_columns : RunTrapsAreThoseOfColumns
run_traps_are_those_of_columns p limit events s run =
    traps_of_frames 0 s.frames (λ k f there. let t = run_traced run k f there in (t.nodes, t.ending))

-- ---- from column to column

least_trap-push : (i : ℕ) (columns : List Column) (column : Column)
    → least_trap i (columns ++ column ∷ []) ≡ first_of_both (least_trap i columns) (column_trap (i + length columns) column)
least_trap-push i [] column = ap (λ k. first_of_both (column_trap k column) None) (omega arith)
    ∙ sym (first_alone (column_trap (i + 0) column))
least_trap-push i (first ∷ rest) column =
    ap (first_of_both (column_trap i first)) (least_trap-push (i + 1) rest column)
    ∙ sym (first_of_three (column_trap i first) (least_trap (i + 1) rest) (column_trap (i + 1 + length rest) column))
    ∙ ap (λ k. first_of_both (least_trap i (first ∷ rest)) (column_trap k column)) (omega arith)

-- the trap of the columns up to one more
pub least_trap_more : (columns : List Column) (k : ℕ) (d : Column) (before now : Option TrapAt) → k < length columns
    → before ≡ least_trap 0 (take k columns) → now ≡ option_or before (column_trap k (get_or columns k d))
    → now ≡ least_trap 0 (take (k + 1) columns)
least_trap_more columns k d before now less was is =
    let long : length (take k columns) ≡ k = length-take-le k columns (omega (arith, less)) in
    let more : least_trap 0 (take (k + 1) columns) ≡ first_of_both (least_trap 0 (take k columns)) (column_trap k (get_or columns k d)) =
    ap (least_trap 0) (take_more columns k d less)
    ∙ least_trap-push 0 (take k columns) (get_or columns k d)
    ∙ ap (λ n. first_of_both (least_trap 0 (take k columns)) (column_trap n (get_or columns k d))) (omega (arith, long)) in
    is ∙ or_is_first before (column_trap k (get_or columns k d))
    ∙ ap (λ t. first_of_both t (column_trap k (get_or columns k d))) was ∙ sym more
