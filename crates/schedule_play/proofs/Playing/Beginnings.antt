-- What a player begins with.
use Rattle.std.proofs.Common.{◌≡◌, le_trans, sym, subst, refl, ℕ, ℤ, ◌+◌, ◌*◌, ◌≤◌, arith, List, [], Some, None, append-nil}
use Rattle.std.proofs.Math.Nat.{mul-le-mul_left, mul-le-mul_right}
use Rattle.cell_store.specs.ShardState.{IsStateAfter, ShardState}
use Rattle.program_laws.proofs.WellFormed.{accepted_is_well_formed}
use Rattle.pipe_model.specs.declared.tree.Program.{Program}
use Rattle.pipe_model.specs.Language.Programs.{natural, store_of}
use Rattle.pipe_model.specs.Language.ProgramsOfTrees.{pipeline_after_init, whole_of}
use Rattle.pipe_model.specs.Language.CheckingRules.{BreaksNoRule}
use Rattle.pipe_model.specs.Language.SyntaxTree.{SyntaxTree, tree_of}
use Rattle.pipe_model.specs.Pipelines.WholePrograms.{init_accesses}
use Rattle.pipe_model.specs.Runs.Run.{EmptyRun}
use Rattle.pipe_model.specs.Runs.State.{initial_state}
use Rattle.program_laws.proofs.BoundedWork.{program_runs_are_bounded}
use Rattle.schedule_laws.specs.StartCounts.{most_instances}
use Rattle.frame_book.specs.NewBooks.{new_book}
use Rattle.book_laws.proofs.PlannedPrograms.{accepted_programs_are_planned}
use Rattle.stage_code.specs.FlatCode.{FlatCode}
use Rattle.stage_code.specs.LimitRanges.{HasRangesOfLimits}
use Rattle.stage_interp.specs.CellNumbers.{most_cell_ids}
use Rattle.serial_elision.proofs.PartRuns.{natural_most}
use Rattle.schedule_play.specs.OneAccess.{HasAllCells}
use Rattle.schedule_play.specs.Openings.{no_lists}
use Rattle.schedule_play.specs.PlayStates.{HasShortRuns, IsPlay}
use Rattle.schedule_play.specs.ScheduleStates.{IsScheduleOf, ScheduleState}

-- runs of an accepted program are short
short_runs : (tree : SyntaxTree) (input : List ℤ) (limit : ℕ) → BreaksNoRule tree → HasRangesOfLimits tree.limits
    → HasShortRuns (pipeline_after_init tree input) limit
short_runs tree input limit accepted ranges events s run going =
    let bound = program_runs_are_bounded tree input limit events s accepted run going in
    let bounded = (accepted_programs_are_planned tree input accepted).bounded in
    let steps : natural tree.limits.steps ≤ 1000000 = natural_most tree.limits.steps 1000000 ranges.steps.1 in
    let iterations : natural tree.limits.iterations ≤ 65536 = natural_most tree.limits.iterations 65536 ranges.iterations.1 in
    let spent : 2 * natural tree.limits.steps + 2 ≤ 2 * 1000000 + 2 = omega (arith, steps) in
    let product : most_instances tree * (2 * natural tree.limits.steps + 2) ≤ 262145 * (2 * 1000000 + 2) =
    le_trans (mul-le-mul_right (2 * natural tree.limits.steps + 2) bounded) (mul-le-mul_left 262145 spent) in
    let a = bound.0 in
    let b = bound.1 in
    (omega (arith, a, product), omega (arith, b, iterations))

pub new_play : (code : FlatCode) (tree : SyntaxTree) (input : List ℤ) (limit : ℕ) (program : Program) (cells : ShardState)
    (schedule : ScheduleState)
    → BreaksNoRule tree → HasRangesOfLimits tree.limits → tree_of program ≡ tree
    → IsStateAfter (store_of tree) (init_accesses (whole_of tree input)) cells → HasAllCells cells → cells.shard.cells ≤ most_cell_ids
    → IsScheduleOf initial_state schedule → schedule.limit ≡ limit
    → IsPlay code cells.shard.cells (record {
      book = new_book program input limit no_lists;
      schedule = schedule;
      running = [];
      cells =
          cells;
      events = [];
    })
new_play code tree input limit program cells schedule accepted ranges same state all bounded scheduled limited =
    subst (λ (x : SyntaxTree). BreaksNoRule x → HasRangesOfLimits x.limits → IsStateAfter (store_of x)
    (init_accesses (whole_of x input)) cells
    → IsPlay code cells.shard.cells (record {
      book = new_book program input limit no_lists;
      schedule = schedule;
      running = [];
      cells =
          cells;
      events = [];
    }))
    same here accepted ranges state
  where
    here : BreaksNoRule (tree_of program) → HasRangesOfLimits (tree_of program).limits → IsStateAfter (store_of (tree_of program))
        (init_accesses (whole_of (tree_of program) input)) cells
        → IsPlay code cells.shard.cells (record {
          book = new_book program input limit no_lists;
          schedule = schedule;
          running = [];
          cells =
              cells;
          events = [];
        })
    here accepted ranges state =
        let well = accepted_is_well_formed (tree_of program) input accepted in
        record {
          proper = record { legal = well.legal; closes = well.closes };
          short = short_runs (tree_of program) input limit accepted ranges;
          run = EmptyRun;
          going = refl;
          log = refl;
          lists = tt;
          schedule = scheduled;
          limit = limited;
          running = record { count = refl; traces = refl; tokens = refl; each = λ i f is. absurd (let q : None ≡ Some f = is in cc) };
          state = subst (λ l. IsStateAfter (store_of (tree_of program)) l cells)
              (sym (append-nil (init_accesses (whole_of (tree_of program) input)))) state;
          all = all;
          count = refl;
          bounded = bounded;
        }
