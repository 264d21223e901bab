-- One access at a time: a memory that lets one access pass.
use Rattle.std.specs.Prelude.{◌≡◌, ◌<◌, ◌∷◌, [], IfSome, List, Bool, true, Option, Some, None, is_some}
use Rattle.cell_store.specs.ShardState.{IsStateAfter, ShardState}
use Rattle.pipe_model.specs.declared.access.Access.{Access}
use Rattle.pipe_model.specs.Pipelines.Store.{HasReply, InitialStore}

-- one shard has all cells
pub record HasAllCells (cells : ShardState) : Type 0 where
  pub shards : cells.shard.shards ≡ 1
  pub number : cells.shard.number ≡ 0

-- the cell is one of these, and a read has its value
pub record IsNextAccess (cells : ShardState) (a : Access) : Type 0 where
  pub there : a.cell.0 < cells.shard.cells
  pub reply : (store : InitialStore) (before : List Access) → IsStateAfter store before cells → HasReply store before a

-- a list of no or one access
abbrev pub access_list : Option Access → List Access
access_list None = []
access_list (Some a) = a ∷ []

-- a memory that lets one access pass: the cells before it, the access, and whether a further one was refused
pub record AccessState : Type 0 where
  pub cells : ShardState
  pub made : Option Access
  pub stopped : Bool

-- it has these cells, and refuses an access only after it has made one
pub record IsOneAccess (cells : ShardState) (m : AccessState) : Type 0 where
  pub same : m.cells ≡ cells
  pub all : HasAllCells m.cells
  pub next : IfSome m.made (IsNextAccess m.cells)
  pub stops : m.stopped ≡ true → is_some m.made ≡ true
