-- Shards whose passes see the order lists of a book to their ends.
use Rattle.std.specs.Prelude.{◌≡◌}
use Rattle.pipe_model.specs.Orders.Starts.{starts_of}
use Rattle.pipe_model.specs.Orders.TwoOrders.{down_first_log, right_first_log}
use Rattle.pipe_model.specs.Runs.RunLogs.{columns_after}
use Rattle.pipe_frame.specs.Ties.{SeenLists}
use Rattle.frame_book.specs.BookStates.{BookState, events_of}
use Rattle.hall_shards.specs.ShardValues.{ShardValue}
use Rattle.hall_shards.specs.Accesses.{GrowLists}

-- the shard's passes have seen the book's lists to their ends
abbrev pub HasSeenAll : BookState → SeenLists → Type 0
HasSeenAll b l = (l.down_log ≡ down_first_log (starts_of (events_of b.log)))
    × (l.right_log ≡ right_first_log (columns_after (events_of b.log)) (starts_of (events_of b.log)))

-- the shard's passes have seen the book's lists to their ends, and nothing else has changed
pub record HasLearned (b : BookState) (x y : ShardValue) : Type 0 where
  pub lists : SeenLists
  pub is : y ≡ record x { lists = lists }
  pub grown : GrowLists x.lists lists
  pub all : HasSeenAll b lists
