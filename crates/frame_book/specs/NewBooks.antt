-- Books without events.
use Rattle.std.specs.Prelude.{ℕ, ℤ, List, [], ◌∷◌, ◌≤◌, replicate, ◌++◌, pos, ◌≤ℤ◌}
use Rattle.pipe_model.specs.declared.tree.Program.{Program}
use Rattle.pipe_model.specs.Language.Programs.{natural, pipeline_of}
use Rattle.pipe_model.specs.Language.SyntaxTree.{SyntaxTree}
use Rattle.order_2d.specs.declared.starts.TheConstants.{MOST_STARTS}
use Rattle.pipe_frame.specs.Ties.{ListIdentities}
use Rattle.schedule_laws.specs.StartCounts.{most_instances}
use Rattle.frame_book.specs.BookStates.{BookState}
use Rattle.frame_book.specs.Rooms.{IsPlanned}

-- the limits are in their ranges, and the iterations keep to them
pub record IsPlannedProgram (tree : SyntaxTree) (input : List ℤ) : Type 0 where
  pub planned : IsPlanned (pipeline_of tree input) (replicate (natural tree.limits.iterations) (natural tree.limits.stages) ++ 1 ∷ [])
  pub bounded : most_instances tree ≤ MOST_STARTS
  pub some_iterations : pos 0 ≤ℤ tree.limits.iterations
  pub some_stages : pos 0 ≤ℤ tree.limits.stages

abbrev pub new_book : Program → List ℤ → ℕ → ListIdentities → BookState
new_book p input limit lists = record {
  program = p;
  input = input;
  limit = limit;
  lists = lists;
  log = [];
  traces = [];
  tokens =
      [];
  reads = 0;
}
