-- The number of stage instances of the elision of a generated program.
use Rattle.pipe_model.specs.Language.CheckingRules.{BreaksNoRule}
use Rattle.std.proofs.Common.{◌≡◌, ◌<◌, ◌≤◌, ◌+◌, ◌*◌, ℕ, ℤ, zero, suc, List, [], ◌∷◌, get_or, length, take, arith, ap, subst}
use Rattle.grammar_laws.proofs.SourceRefusals.{one_accepted}
use Rattle.pipe_gen.specs.Workload.{source_text}
use Rattle.pipe_gen.specs.declared.workload.TheConstants.{MOST_SIZE}
use Rattle.pipe_model.specs.declared.column.Column.{Column}
use Rattle.pipe_model.specs.declared.event.Event.{Event}
use Rattle.pipe_model.specs.Language.ProgramsOfTrees.{whole_of}
use Rattle.pipe_model.specs.Language.SourceRefusals.{IsAccepted}
use Rattle.pipe_model.specs.Language.SyntaxTree.{SyntaxTree}
use Rattle.pipe_model.specs.Runs.RunLogs.{state_after}
use Rattle.pipe_model.specs.Runs.State.{State, own_columns}
use Rattle.pipe_model.specs.Runs.WholeProgramRuns.{ProgramRun, NoLoop, OfLoop}
use Rattle.program_laws.proofs.InstanceBounds.{program_instances_are_bounded}
use Rattle.schedule_laws.specs.StartCounts.{instances_in, most_instances}
use Rattle.workload_laws.proofs.AcceptedSources.{accepted}
use Rattle.workload_laws.specs.GeneratedPrograms.{generated_tree}
use Rattle.command_results.proofs.SerialDags.{serial_log}
use Rattle.command_results.specs.declared.program_run.TheConstants.{MOST_COUNTED_INSTANCES}
use Rattle.command_results.specs.SerialResults.{elision_columns, elision_log}
use Rattle.pipe_model.specs.Races.Columns.{node_columns}

-- ---- counting column by column

-- one column more
pub counted_with : (columns : List Column) (k : ℕ) (column : Column) → k < length columns → column ≡ get_or columns k column
    → instances_in (node_columns (take (suc k) columns)) ≡ instances_in (node_columns (take k columns)) + length column.nodes
counted_with [] k column w at = absurd (omega (arith, w))
counted_with (c ∷ cs) zero column w at = rw at (omega arith)
counted_with (c ∷ cs) (suc k) column w at = let h = counted_with cs k column (omega (arith, w)) at in omega (arith, h)

-- some of the columns have no more instances than all
pub counted_within : (columns : List Column) (k : ℕ) → instances_in (node_columns (take k columns)) ≤ instances_in (node_columns columns)
counted_within [] zero = omega arith
counted_within [] (suc k) = omega arith
counted_within (c ∷ cs) zero = omega arith
counted_within (c ∷ cs) (suc k) = let h = counted_within cs k in omega (arith, h)

-- the columns so far have no more instances than all
pub count_is_small : (columns : List Column) (k count : ℕ) (column : Column) → k < length columns → column ≡ get_or columns k column
    → count ≡ instances_in (node_columns (take k columns)) → instances_in (node_columns columns) ≤ MOST_COUNTED_INSTANCES
    → count + length column.nodes ≤ MOST_COUNTED_INSTANCES
count_is_small columns k count column w at counted small =
    let more = counted_with columns k column w at in
    let within = counted_within columns (suc k) in
    omega (arith, counted, more, within, small)

-- ---- the elision

-- a run of a program has as many instances as its limits allow
pub run_is_small : (tree : SyntaxTree) (numbers : List ℤ) (limit : ℕ) (events : List Event) (s : State) → BreaksNoRule tree
    → ProgramRun (whole_of tree numbers) limit events s → instances_in (own_columns s) ≤ most_instances tree
run_is_small tree numbers limit events s form (NoLoop trapped) = omega arith
run_is_small tree numbers limit events s form (OfLoop free r) = program_instances_are_bounded tree numbers limit events s form r

-- the elision of a generated program has at most six instances an item, and one more
pub elision_is_small : (size : ℕ) (tree : SyntaxTree) (numbers : List ℤ) → 1 ≤ size → size ≤ MOST_SIZE → IsAccepted (source_text size) tree
    → instances_in (elision_columns tree numbers) ≤ MOST_COUNTED_INSTANCES
elision_is_small size tree numbers some bounded form =
    let h = serial_log tree numbers 1 (record { obeys = form.obeys }) (omega arith) in
    let small = run_is_small tree numbers 1 (elision_log tree numbers).events (state_after (elision_log tree numbers).events)
    (record { obeys = form.obeys }) h.run.run in
    let tree_is : tree ≡ generated_tree size =
    one_accepted (source_text size) tree (generated_tree size) form (accepted size some bounded) in
    let columns : instances_in (elision_columns tree numbers) ≤ most_instances tree = subst (λ cs. instances_in cs ≤ most_instances tree)
    h.columns small in
    let most : most_instances tree ≡ size * 6 + 1 = ap most_instances tree_is in
    omega (arith, columns, most, bounded)
