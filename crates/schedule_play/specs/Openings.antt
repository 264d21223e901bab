-- What a play begins with.
use Rattle.std.specs.Prelude.{◌≡◌, []}
use Rattle.order_2d.specs.OrderPairs.{OrderPair, OrderedList}
use Rattle.pipe_frame.specs.Ties.{ListIdentities}
use Rattle.schedule_play.specs.declared.opening.TheConstants.{MOST_ELEMENTS}

-- a list without elements but the first, with room for the elements of each run, and without an identity
pub record IsNewList (l : OrderedList) : Type 0 where
  pub log : l.log ≡ []
  pub capacity : l.capacity ≡ MOST_ELEMENTS
  pub identity : l.identity ≡ []

pub record AreNewOrders (o : OrderPair) : Type 0 where
  pub down : IsNewList o.down
  pub right : IsNewList o.right

-- the identities of lists that have none
abbrev pub no_lists : ListIdentities
no_lists = record { down = []; right = [] }
