-- The order of instances that is known without a question to the lists.
use Rattle.std.specs.Prelude.{◌≡◌, ◌<◌, ℕ, suc, Bool, true, false, Option, Some, None, ◌==◌, ◌&&◌, ◌||◌, nat_lt, nat_le, not}
use Rattle.access_history.specs.declared.history.History.{History}
use Rattle.access_history.specs.declared.history.MarkedNode.{MarkedNode}
use Rattle.access_history.specs.KeptInstances.{AllKept}
use Rattle.pipe_model.specs.declared.access.AccessKind.{AccessKind}
use Rattle.pipe_model.specs.declared.access.AccessKind.TheVariants.{Read, Write}
use Rattle.pipe_model.specs.declared.node.NodeId.{NodeId}

-- y is above x in its column, or in the column to its left at an index of at most the joined one, if that is given
abbrev pub is_known_before : Option ℕ → NodeId → NodeId → Bool
is_known_before None x y = false
is_known_before (Some joined) x y =
    ((y.iteration == x.iteration) && nat_lt y.index x.index) || ((suc y.iteration == x.iteration) && nat_le y.index joined)

-- y is x
abbrev pub is_same : NodeId → NodeId → Bool
is_same x y = (y.iteration == x.iteration) && (y.index == x.index)

-- the order of x and a kept instance is not known without a question to the lists
abbrev pub asks_about : Option ℕ → NodeId → Option MarkedNode → Bool
asks_about joined x None = false
asks_about joined x (Some y) = not (is_same x y.node) && not (is_known_before joined x y.node)

-- an access of x may ask the lists about one of the kept instances
abbrev pub may_ask : Option ℕ → NodeId → History → Bool
may_ask joined x h = asks_about joined x h.writer || asks_about joined x h.rightmost || asks_about joined x h.downmost

-- the history after an access of x, if each kept instance is x or known to be before it
abbrev pub kept_known : History → MarkedNode → AccessKind → History
kept_known h x Read = record h { rightmost = Some x; downmost = Some x }
kept_known h x Write = record h { writer = Some x }

-- if y is known to be before x, it is before x in both orders
abbrev pub AgreeOnKnown : Option ℕ → (NodeId → ℕ) → (NodeId → ℕ) → NodeId → NodeId → Type 0
AgreeOnKnown joined down right x y = is_known_before joined x y ≡ true → (down y < down x) × (right y < right x)

-- this holds of each kept instance
abbrev pub AgreeOnKnownKept : Option ℕ → (NodeId → ℕ) → (NodeId → ℕ) → NodeId → History → Type 0
AgreeOnKnownKept joined down right x h = AllKept (λ y. AgreeOnKnown joined down right x y.node) h
