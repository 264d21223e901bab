-- The shards that a hall is opened with.
use Rattle.std.specs.Prelude.{◌≡◌, ℕ, List, [], ◌∷◌, ◌+◌, ◌*◌, ◌≤◌, length}
use Rattle.pipe_model.specs.declared.access.Access.{Access}
use Rattle.pipe_model.specs.Language.Programs.{store_of}
use Rattle.pipe_model.specs.Language.SyntaxTree.{SyntaxTree}
use Rattle.cell_store.specs.ShardState.{IsStateAfter}
use Rattle.access_history.specs.KeptInstances.{nothing_kept}
use Rattle.pipe_frame.specs.Ties.{SeenLists}
use Rattle.hall_shards.specs.ShardValues.{ShardValue, history_at}
use Rattle.hall_table.specs.declared.slot.Slot.{Slot}
use Rattle.hall_table.specs.declared.slot.Slot.TheVariants as slots

-- a shard of a program that has made no access of the run, and whose passes have seen this much of the order lists
pub record IsNewShard (before : List Access) (tree : SyntaxTree) (lists_ : SeenLists) (k : ℕ) (x : ShardValue) : Type 0 where
  pub number : x.number ≡ k
  pub part : (x.cells.shard.number ≡ k) × (x.cells.shard.shards ≡ 16)
  pub cells : IsStateAfter (store_of tree) before x.cells
  pub histories : (slot : ℕ) → history_at x.histories slot ≡ nothing_kept
  pub room : x.cells.shard.cells ≤ k + 16 * length x.histories
  pub log : x.log ≡ []
  pub last : x.last ≡ 0
  pub lists : x.lists ≡ lists_

-- the slots of shards
abbrev pub shard_slots : {M : Type 0} → List ShardValue → List (Slot M)
shard_slots [] = []
shard_slots (x ∷ xs) = slots.Shard x ∷ shard_slots xs
