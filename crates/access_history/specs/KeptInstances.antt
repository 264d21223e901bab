-- What the history of a cell keeps, and two orders that agree with the lists in which its instances are.
use Rattle.std.specs.Prelude.{◌≡◌, ◌↔◌, ◌<◌, ◌⊎◌, ℕ, List, Option, Some, None, IfSome, option_map}
use Rattle.access_history.specs.declared.history.Found.{Found}
use Rattle.access_history.specs.declared.history.History.{History}
use Rattle.access_history.specs.declared.history.Verdict.{Verdict}
use Rattle.access_history.specs.declared.history.Verdict.TheVariants.{Clean, Race}
use Rattle.access_history.specs.declared.history.MarkedNode.{MarkedNode}
use Rattle.pipe_model.specs.declared.access.AccessKind.{AccessKind}
use Rattle.pipe_model.specs.declared.node.NodeId.{NodeId}
use Rattle.pipe_model.specs.Orders.AccessHistory.{AccessHistory, FoundRace}
use Rattle.pipe_model.specs.Orders.GrowingLists.{AreIn}
use Rattle.pipe_model.specs.Orders.HistoryStates.{history_after}
use Rattle.pipe_model.specs.Orders.OrderList.{IsBeforeIn}
use Rattle.pipe_model.specs.Races.CellRaces.{NotedAccess, access_at, noted_access}

-- the history of no accesses
abbrev pub nothing_kept : History
nothing_kept = record { writer = None; rightmost = None; downmost = None; report = None }

-- the fact holds of each kept instance
pub record AllKept (P : MarkedNode → Type 0) (h : History) : Type 0 where
  pub writer : IfSome h.writer P
  pub rightmost : IfSome h.rightmost P
  pub downmost : IfSome h.downmost P

-- the elements of the kept instances are in the two lists
abbrev pub KeptAreIn : List ℕ → List ℕ → History → Type 0
KeptAreIn down_first right_first h = AllKept (λ w. AreIn down_first right_first w.marks) h

-- the instance is the new one, or the one that was kept, with the same marks
abbrev pub IsEither : Option MarkedNode → MarkedNode → MarkedNode → Type 0
IsEither kept x y = (y ≡ x) ⊎ (kept ≡ Some y)

-- each kept instance of the new history is the new one, or was kept in the same role, with the same marks
pub record KeepsAmong (h : History) (x : MarkedNode) (h' : History) : Type 0 where
  pub writer : IfSome h'.writer (IsEither h.writer x)
  pub rightmost : IfSome h'.rightmost (IsEither h.rightmost x)
  pub downmost : IfSome h'.downmost (IsEither h.downmost x)

-- y is before x in each order exactly if y's element is before x's element in the list
pub record AgreeOn (down_first right_first : List ℕ) (down right : NodeId → ℕ) (x y : MarkedNode) : Type 0 where
  pub in_down : IsBeforeIn down_first y.marks.down_first x.marks.down_first ↔ (down y.node < down x.node)
  pub in_right : IsBeforeIn right_first y.marks.right_first x.marks.right_first ↔ (right y.node < right x.node)

-- the orders agree with the lists on x and each kept instance
abbrev pub AgreeOnKept : List ℕ → List ℕ → (NodeId → ℕ) → (NodeId → ℕ) → MarkedNode → History → Type 0
AgreeOnKept down_first right_first down right x h = AllKept (AgreeOn down_first right_first down right x) h

-- a kept instance without its marks
abbrev pub node_of : Option MarkedNode → Option NodeId
node_of kept = option_map (λ w. w.node) kept

-- what a history keeps, without marks
abbrev pub kept_of : History → AccessHistory
kept_of h = record { writer = node_of h.writer; rightmost = node_of h.rightmost; downmost = node_of h.downmost }

-- the earlier access of a race
abbrev pub earlier_access : Verdict → Option NotedAccess
earlier_access Clean = None
earlier_access (Race node kind) = Some (noted_access node kind)

-- the report after one more access: the first race is kept
abbrev pub report_after : Option Found → NodeId → AccessKind → Verdict → Option Found
report_after (Some found) x kind verdict = Some found
report_after None x kind Clean = None
report_after None x kind (Race y earlier) = Some (record { earlier = y; earlier_kind = earlier; later = x; later_kind = kind })

-- the report of a race among these accesses
abbrev pub report_of_race : List NotedAccess → Option FoundRace → Option Found
report_of_race accesses None = None
report_of_race accesses (Some race) = Some (record {
  earlier = race.earlier.who;
  earlier_kind = race.earlier.kind;
  later = (access_at accesses race.number).who;
  later_kind = (access_at accesses race.number).kind;
})

-- the history is the state after these accesses
pub record IsHistoryAfter (down right : NodeId → ℕ) (accesses : List NotedAccess) (h : History) : Type 0 where
  pub kept : kept_of h ≡ (history_after down right accesses).kept
  pub report : h.report ≡ report_of_race accesses (history_after down right accesses).found
