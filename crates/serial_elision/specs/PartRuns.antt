-- Runs of a part of a program: `init`, an iteration or `final`.
use Rattle.std.specs.Prelude.{◌≡◌, ◌≤◌, ◌++◌, ◌+◌, ◌&&◌, ◌==◌, ℕ, List, length, Bool, false, Option, Some, None}
use Rattle.cell_store.specs.ShardState.{IsStateAfter, ShardState}
use Rattle.pipe_model.specs.declared.access.Access.{Access}
use Rattle.pipe_model.specs.declared.bounds.TheConstants.{MOST_CELLS, MOST_STAGES}
use Rattle.pipe_model.specs.declared.column.Column.{Column}
use Rattle.pipe_model.specs.declared.column.ColumnEnd.{ColumnEnd}
use Rattle.pipe_model.specs.Language.CheckingRules.{cell_total}
use Rattle.pipe_model.specs.Language.Programs.{natural}
use Rattle.pipe_model.specs.Language.SyntaxTree.{SyntaxTree}
use Rattle.pipe_model.specs.Pipelines.Behaviour.{Action, accesses_in, closes_at_once, closes_loop}
use Rattle.pipe_model.specs.Pipelines.ElisionResults.{ended_column}
use Rattle.pipe_model.specs.Pipelines.SerialElision.{located}
use Rattle.pipe_model.specs.Pipelines.Store.{InitialStore}
use Rattle.serial_elision.specs.declared.log.Log.{Log}
use Rattle.serial_elision.specs.Recording.{IsWhole}

-- one shard has all cells of the program
pub record Serves (tree : SyntaxTree) (cells : ShardState) : Type 0 where
  pub whole : IsWhole cells
  pub count : cells.shard.cells ≡ cell_total tree.cells + 2
  pub bounded : cells.shard.cells ≤ MOST_CELLS + 2

-- the most instances of an iteration: instance 0, and one for each stage that it enters
abbrev pub longest_column : ℕ
longest_column = natural MOST_STAGES + 1

-- the end closes the loop if instance 0 has it
abbrev pub end_closes : Option ColumnEnd → Bool
end_closes None = false
end_closes (Some e) = closes_at_once e

-- whether an iteration with this column closes the loop
abbrev pub column_closes : Column → Bool
column_closes column = (length column.nodes == 1) && end_closes column.end

-- a part with this trace ran as iteration i, from one log to another
pub record PartRan (store : InitialStore) (before : List Access) (trace : List Action) (i : ℕ) (log : Log) (column : Column)
    (now : Log) : Type 0 where
  pub column_is : column ≡ ended_column trace
  pub closes : column_closes column ≡ closes_loop trace
  pub accesses_are : now.accesses ≡ log.accesses ++ located i 0 trace
  pub cells : IsStateAfter store (before ++ accesses_in trace) now.cells
