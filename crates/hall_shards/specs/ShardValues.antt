-- A shard of the cells, as plain data.
use Rattle.std.specs.Prelude.{ℕ, List, slice_index_or}
use Rattle.pipe_model.specs.declared.ticket.ShardEntry.{ShardEntry}
use Rattle.access_history.specs.declared.history.History.{History}
use Rattle.cell_store.specs.ShardState.{ShardState}
use Rattle.pipe_frame.specs.Ties.{SeenLists}
use Rattle.pipe_model.specs.Orders.OrderList.{list_of_log}
use Rattle.access_history.specs.KeptInstances.{nothing_kept}

-- a shard: its number, its cells, their histories, its log with the last ticket, and the order lists as far as it has seen them
pub record ShardValue : Type 0 where
  pub number : ℕ
  pub cells : ShardState
  pub histories : List History
  pub log : List ShardEntry
  pub last : ℕ
  pub lists : SeenLists

-- the two order lists that were seen
abbrev pub down_list : SeenLists → List ℕ
down_list l = list_of_log l.down_log

abbrev pub right_list : SeenLists → List ℕ
right_list l = list_of_log l.right_log

-- the history at a slot of the shard
abbrev pub history_at : List History → ℕ → History
history_at histories slot = slice_index_or histories slot nothing_kept
