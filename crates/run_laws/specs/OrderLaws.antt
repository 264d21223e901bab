-- Laws of the two orders of a list of starts, and of a run (Xu, Lee, Agrawal 2018): together they are the order of
-- the dag. The lists are order-maintenance lists (Bender et al. 2002), given by their insertion logs.
use Rattle.std.specs.Prelude.{None, if◌then◌else◌, nat_lt, List, ◌↔◌, ℕ, ◌≡◌, length, suc, ◌+◌, ◌<◌, Some, [], ◌∷◌, ◌++◌, true}
use Rattle.pipe_model.specs.Runs.Allowed.{ControlAllows}
use Rattle.pipe_model.specs.Races.Columns.{node_at, AreColumns, IsNodeOf, nodes_at, at}
use Rattle.pipe_model.specs.Races.Dag.{Precedes, CrossEdge}
use Rattle.pipe_model.specs.Orders.LeftParent.{left_parent, last_up_to, joined_at}
use Rattle.pipe_model.specs.Orders.OrderList.{insert_after, IsLog, has, list_of_log, IsBeforeIn}
use Rattle.pipe_model.specs.Orders.Starts.{AreStarts, starts_of, IsStarted, start_number, started_by}
use Rattle.pipe_model.specs.Runs.State.{State, own_columns, next_state}
use Rattle.pipe_model.specs.Orders.TwoOrders.{IsBeforeInBoth, down_element, right_element, down_first_log, log_entries, down_first_taken}
use Rattle.pipe_model.specs.Orders.TwoOrders.{right_first_log, right_first_taken}
use Rattle.pipe_model.specs.declared.event.Event.{Event}
use Rattle.pipe_model.specs.declared.node.Kind.TheVariants.{Wait, Continue}
use Rattle.pipe_model.specs.declared.node.Node.{Node}
use Rattle.pipe_model.specs.declared.node.NodeId.{NodeId}
use Rattle.run_laws.specs.EachRun.{OfEachRun}

-- the starts of a run are the instances of its own columns, each once, and each after all that have an edge to it
pub record HasStarts (events : List Event) (s : State) : Type 0 where
  pub columns : AreColumns (own_columns s)
  pub ordered : AreStarts (own_columns s) (starts_of events)
  pub nodes : (x : NodeId) → IsStarted (starts_of events) x ↔ IsNodeOf (own_columns s) x

-- the events of a run start the instances of its own columns
abbrev pub StartedNodesAreOwnNodes : Type 0
StartedNodesAreOwnNodes = OfEachRun (λ limit events s. HasStarts events s)

-- x is before y in both lists exactly when x precedes y, for any list of starts that respects the edges
abbrev pub BothOrdersOfStarts : Type 0
BothOrdersOfStarts =
    (columns : List (List Node)) (starts : List NodeId) → AreColumns columns → AreStarts columns starts
    → (x y : NodeId) → IsStarted starts x → IsStarted starts y
    → IsBeforeInBoth columns starts x y ↔ Precedes columns x y

-- x is before y in both lists exactly when x precedes y, in every run
abbrev pub BothOrdersArePrecedes : Type 0
BothOrdersArePrecedes = OfEachRun (λ limit events s.
    (x y : NodeId) → IsNodeOf (own_columns s) x → IsNodeOf (own_columns s) y
    → IsBeforeInBoth (own_columns s) (starts_of events) x y ↔ Precedes (own_columns s) x y)

-- no two instances take the same element of a list
pub record TakesEachOnce (columns : List (List Node)) (starts : List NodeId) : Type 0 where
  pub down : (x y : NodeId) → IsStarted starts x → IsStarted starts y
      → down_element starts x ≡ down_element starts y → x ≡ y
  pub right : (x y : NodeId) → IsStarted starts x → IsStarted starts y
      → right_element columns starts x ≡ right_element columns starts y → x ≡ y

-- each placeholder is taken at most once, in every run
abbrev pub PlaceholdersAreTakenOnce : Type 0
PlaceholdersAreTakenOnce = OfEachRun (λ limit events s. TakesEachOnce (own_columns s) (starts_of events))

-- the left parent is the source of the left edge, if that does not precede the instance above
abbrev pub LeftParentsAreSources : Type 0
LeftParentsAreSources = OfEachRun (λ limit events s.
    (i j k : ℕ) → i + 1 < length (own_columns s) → suc k < length (nodes_at (own_columns s) (i + 1))
    → (left_parent (own_columns s) (suc i) (suc k) ≡ Some j)
    ↔ (CrossEdge (nodes_at (own_columns s) i) (nodes_at (own_columns s) (i + 1)) j (suc k)
    × (Precedes (own_columns s) (at i j) (at (suc i) k) → ⊥)))

-- the left parent of an instance below a head, by a search of the left column: if the instance waits, the index that is
-- found, if that is after the last index that already precedes the instance above; if it continues, there is none
pub record LeftParentFound (columns : List (List Node)) (i k : ℕ) : Type 0 where
  pub wait : (j : ℕ) → (node_at (nodes_at columns (i + 1)) (suc k)).kind ≡ Wait
      → last_up_to (nodes_at columns i) (node_at (nodes_at columns (i + 1)) (suc k)).number ≡ Some j
      → left_parent columns (suc i) (suc k) ≡ (if nat_lt (joined_at columns i k) j then Some j else None)
  pub nothing : (node_at (nodes_at columns (i + 1)) (suc k)).kind ≡ Wait
      → last_up_to (nodes_at columns i) (node_at (nodes_at columns (i + 1)) (suc k)).number ≡ None
      → left_parent columns (suc i) (suc k) ≡ None
  pub continue : (node_at (nodes_at columns (i + 1)) (suc k)).kind ≡ Continue
      → left_parent columns (suc i) (suc k) ≡ None

-- a search of the left column finds the left parent, for any columns
abbrev pub LeftParentsAreFound : Type 0
LeftParentsAreFound = (columns : List (List Node)) (i k : ℕ) → LeftParentFound columns i k

-- what an event adds to both logs: two entries for each start, at the end
pub record AddsEntries (events : List Event) (s : State) (e : Event) : Type 0 where
  pub down : down_first_log (starts_of (events ++ e ∷ []))
      ≡ down_first_log (starts_of events)
      ++ log_entries (down_first_taken (start_number (starts_of events))) (length (starts_of events)) (started_by s e)
  pub right : right_first_log (own_columns (next_state s e)) (starts_of (events ++ e ∷ []))
      ≡ right_first_log (own_columns s) (starts_of events)
      ++ log_entries (right_first_taken (own_columns (next_state s e)) (start_number (starts_of events)))
      (length (starts_of events)) (started_by s e)

-- the logs of a run grow at their end
abbrev pub LogsGrowAtTheirEnd : Type 0
LogsGrowAtTheirEnd = OfEachRun (λ limit events s. (e : Event) → ControlAllows limit s e → AddsEntries events s e)

-- each entry of both logs of a run names an element that is already in the list
abbrev pub LogsNameEarlierElements : Type 0
LogsNameEarlierElements = OfEachRun (λ limit events s.
    IsLog 1 (down_first_log (starts_of events)) × IsLog 1 (right_first_log (own_columns s) (starts_of events)))

-- a longer log keeps the order of the elements that were there
abbrev pub LongerLogsKeepTheOrder : Type 0
LongerLogsKeepTheOrder =
    (log more : List ℕ) (x y : ℕ) → IsLog 1 (log ++ more)
    → has x (list_of_log log) ≡ true → has y (list_of_log log) ≡ true
    → IsBeforeIn (list_of_log (log ++ more)) x y ↔ IsBeforeIn (list_of_log log) x y

-- one more entry inserts the next element right after the element that it names
pub record InsertsNext (log : List ℕ) (x : ℕ) : Type 0 where
  pub list : list_of_log (log ++ x ∷ []) ≡ insert_after x (1 + length log) (list_of_log log)
  pub names : IsLog 1 log → x < 1 + length log → IsLog 1 (log ++ x ∷ [])

-- each entry at the end of a log inserts its element
abbrev pub EntriesInsertElements : Type 0
EntriesInsertElements = (log : List ℕ) (x : ℕ) → InsertsNext log x
