-- Proofs of the worked examples: by computation, and by the closed form of paths.
use Rattle.std.proofs.Common.{◌≡◌, ◌∙◌, sym, ap, ℕ, zero, suc, ◌<◌, ◌≤◌, ◌<ℤ◌, refl, length, arith, pos, subst}
use Rattle.std.specs.declared.option.Option.TheVariants.{Some}
use Rattle.std.proofs.lemmas.Int.{ints}
use Rattle.pipe_model.specs.declared.node.NodeId.{NodeId}
use Rattle.pipe_model.specs.declared.node.Kind.TheVariants.{Zero}
use Rattle.pipe_model.specs.Races.Columns.{node_at, nodes_at, AreColumns}
use Rattle.pipe_model.specs.Races.Dag.{IsLastUpTo, CrossEdge, HeadCross, WaitCross, AcrossEdge, ByEdge}
use Rattle.pipe_model.specs.Orders.LeftParent.{last_up_to}
use Rattle.run_laws.specs.RunExamples.{skipping_columns, redundant_columns, WaitsForTheStageBefore, SkippingStagesAreParallel}
use Rattle.run_laws.specs.RunExamples.{RedundantEdgeHasNoParent, WaitsUntilPassed, ListsOfWaitingColumns, ParallelReadIsFound}
use Rattle.run_laws.specs.RunExamples.{OrderedReadIsNoRace, SerialEventsOfTwoIterations}
use Rattle.run_laws.proofs.ListOrders.JoinedPlaces.{last_up_to_is}
use Rattle.run_laws.proofs.ListOrders.PrecedingPlaces.{below_path}

-- stage 1 is the last of the left column up to stage 2
last_before_skipped : IsLastUpTo (nodes_at skipping_columns 0) 1 (pos 2)
last_before_skipped = record { within = omega arith; up_to = omega (arith, ints); last = later }
  where
    later : (k : ℕ) → 1 < k → k < 3 → pos 2 <ℤ (node_at (nodes_at skipping_columns 0) k).number
    later zero l w = absurd (omega arith)
    later (suc zero) l w = absurd (omega arith)
    later (suc (suc zero)) l w = omega (arith, ints)
    later (suc (suc (suc k))) l w = absurd (omega arith)

-- the source of an edge across to instance 1
only_source : {j q : ℕ} → q ≡ 1 → CrossEdge (nodes_at skipping_columns 0) (nodes_at skipping_columns 1) j q → j ≡ 1
only_source e (HeadCross a b) = absurd (omega (arith, e))
only_source e (WaitCross j q l w h) =
    let there : IsLastUpTo (nodes_at skipping_columns 0) j (pos 2) =
    subst (λ k. IsLastUpTo (nodes_at skipping_columns 0) j (node_at (nodes_at skipping_columns 1) k).number) e h in
    let found : last_up_to (nodes_at skipping_columns 0) (pos 2) ≡ Some j =
    last_up_to_is (nodes_at skipping_columns 0) (pos 2) j there in
    let one : last_up_to (nodes_at skipping_columns 0) (pos 2) ≡ Some 1 = refl in
    let same : Some j ≡ Some 1 = sym found ∙ one in
    cc

-- the edge from stage 1
pub waits_for_the_stage_before : WaitsForTheStageBefore
waits_for_the_stage_before = record {
  edge = AcrossEdge 0 1 1 (WaitCross 1 1 (omega arith) refl last_before_skipped);
  only = λ j c. only_source refl c;
  parent = refl;
}

-- both columns have an instance, and begin with stage 0
skipping_are_columns : AreColumns skipping_columns
skipping_are_columns = record { full = full; first = first }
  where
    full : (i : ℕ) → i < 2 → 0 < length (nodes_at skipping_columns i)
    full zero l = omega arith
    full (suc zero) l = omega arith
    full (suc (suc i)) l = absurd (omega arith)

    first : (i : ℕ) → (node_at (nodes_at skipping_columns i) 0).kind ≡ Zero
    first zero = refl
    first (suc zero) = refl
    first (suc (suc i)) = refl

-- no path either way, by the closed form
pub skipping_stages_are_parallel : SkippingStagesAreParallel
skipping_stages_are_parallel = record {
  apart = λ e. (let same = ap (λ (x : NodeId). x.iteration) e in omega (arith, same));
  not_before = λ p. (
      let b = below_path skipping_are_columns p in
      let within : 2 ≤ 1 = b.within (omega arith) in
      omega (arith, within));
  not_after = λ p. (
      let b = below_path skipping_are_columns p in
      let column : 1 ≤ 0 = b.column in
      omega (arith, column));
}

-- stage 0 is the last of the left column up to stage 1
last_before_five : IsLastUpTo (nodes_at redundant_columns 0) 0 (pos 1)
last_before_five = record { within = omega arith; up_to = omega (arith, ints); last = later }
  where
    later : (k : ℕ) → 0 < k → k < 2 → pos 1 <ℤ (node_at (nodes_at redundant_columns 0) k).number
    later zero l w = absurd (omega arith)
    later (suc zero) l w = omega (arith, ints)
    later (suc (suc k)) l w = absurd (omega arith)

-- the redundant edge
pub redundant_edge_has_no_parent : RedundantEdgeHasNoParent
redundant_edge_has_no_parent = record {
  edge = AcrossEdge 0 0 1 (WaitCross 0 1 (omega arith) refl last_before_five);
  above = ByEdge (AcrossEdge 0 0 0 (HeadCross (omega arith) (omega arith)));
  none = refl;
}

-- by the numbers
pub waits_until_passed : WaitsUntilPassed
waits_until_passed = record { running = λ l. omega (arith, ints, l); pending = omega (arith, ints) }

-- by computation
pub lists_of_waiting_columns : ListsOfWaitingColumns
lists_of_waiting_columns = record { down = refl; right = refl; down_elements = refl; right_elements = refl }

-- by computation
pub parallel_read_is_found : ParallelReadIsFound
parallel_read_is_found = refl

-- by computation
pub ordered_read_is_no_race : OrderedReadIsNoRace
ordered_read_is_no_race = refl

-- by computation
pub serial_events_of_two_iterations : SerialEventsOfTwoIterations
serial_events_of_two_iterations = refl
