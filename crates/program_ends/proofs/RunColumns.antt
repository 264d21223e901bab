-- The columns of a run of an accepted program have instances, and not too many.
use Rattle.std.proofs.Common.{◌≡◌, refl, arith, ℕ, ℤ, zero, suc, ◌<◌, ◌≤◌, ◌-◌, ◌^◌, All, List, [], ◌∷◌, Some, length, map}
use Rattle.pipe_model.specs.declared.column.Column.{Column}
use Rattle.pipe_model.specs.Language.ProgramsOfTrees.{pipeline_after_init}
use Rattle.pipe_model.specs.Language.CheckingRules.{BreaksNoRule}
use Rattle.pipe_model.specs.Language.SyntaxTree.{SyntaxTree}
use Rattle.pipe_model.specs.Runs.Run.{Run}
use Rattle.pipe_model.specs.declared.event.Event.{Event}
use Rattle.pipe_model.specs.Runs.RunLogs.{column_of_frame, ended_columns_after, state_after}
use Rattle.pipe_model.specs.Runs.State.{Frame, frame_at}
use Rattle.program_laws.proofs.InstanceBounds.{program_instances_are_bounded}
use Rattle.program_laws.proofs.PlannedLimits.{planned_limits}
use Rattle.schedule_laws.specs.StartCounts.{instances_in}
use Rattle.run_laws.proofs.RunStates.RunInvariant.{run_consistent}

-- each column has an instance, and the instances and the columns can be counted
pub record HasSmallColumns (columns : List Column) : Type 0 where
  pub count : length columns ≤ 2 ^ 32
  pub some : All (λ (c : Column). 0 < length c.nodes) columns
  pub bounded : All (λ (c : Column). length c.nodes ≤ 2 ^ 32) columns

-- the columns have at most `bound` instances in all
record AreSmall (bound : ℕ) (columns : List Column) : Type 0 where
  count : length columns ≤ bound
  some : All (λ (c : Column). 0 < length c.nodes) columns
  bounded : All (λ (c : Column). length c.nodes ≤ bound) columns

small : (frames : List Frame) (bound : ℕ) → ((i : ℕ) (f : Frame) → frame_at frames i ≡ Some f → 0 < length f.nodes)
    → instances_in (map (λ (f : Frame). f.nodes) frames) ≤ bound → AreSmall bound (map column_of_frame frames)
small [] bound filled within = record {
  count = omega arith;
  some = λ k d w. absurd (omega (arith, w));
  bounded = λ k d w. absurd (omega (arith, w));
}
small (f ∷ frames) bound filled within =
    let first = filled 0 f refl in
    let rest = small frames (bound - 1) (λ i g there. filled (suc i) g there) (omega (arith, first, within)) in
    let count = rest.count in
    record {
      count = omega (arith, count, first, within);
      some = some rest;
      bounded = bounded rest;
    }
  where
    some : AreSmall (bound - 1) (map column_of_frame frames) → All (λ (c : Column). 0 < length c.nodes) (map column_of_frame (f ∷ frames))
    some rest zero d w = filled 0 f refl
    some rest (suc k) d w = rest.some k d (omega (arith, w))

    bounded : AreSmall (bound - 1) (map column_of_frame frames) → All (λ (c : Column). length c.nodes ≤ bound)
        (map column_of_frame (f ∷ frames))
    bounded rest zero d w = omega (arith, within)
    bounded rest (suc k) d w = let h = rest.bounded k d (omega (arith, w)) in omega (arith, h)

pub columns_are_small : (tree : SyntaxTree) (input : List ℤ) (limit : ℕ) (events : List Event) → BreaksNoRule tree
    → Run (pipeline_after_init tree input) limit events (state_after events) → HasSmallColumns (ended_columns_after events)
columns_are_small tree input limit events accepted run =
    let s = state_after events in
    let bounded = program_instances_are_bounded tree input limit events s accepted run in
    let planned = (planned_limits tree accepted.obeys).bounded in
    let h = small s.frames 262145 (λ i f there. ((run_consistent run).sound.well i f there).filled) (omega (arith, bounded, planned)) in
    let count = h.count in
    record {
      count = omega (arith, count);
      some = h.some;
      bounded = λ k d w. let one = h.bounded k d w in omega (arith, one);
    }
