-- The access history of a cell (Xu, Lee, Agrawal 2018): the last writer and two readers are kept, and each access is
-- compared with them alone. An order of the instances is given by the index of each instance in it.
use Rattle.std.specs.Prelude.{ℕ, suc, List, [], ◌∷◌, Bool, Option, Some, None, ◌==◌, if◌then◌else◌, nat_lt, ◌&&◌, ◌||◌}
use Rattle.pipe_model.specs.declared.access.AccessKind.{AccessKind}
use Rattle.pipe_model.specs.declared.access.AccessKind.TheVariants.{Read, Write}
use Rattle.pipe_model.specs.declared.node.NodeId.{NodeId}
use Rattle.pipe_model.specs.Races.CellRaces.{NotedAccess, noted_access}

-- what is kept: the last writer, the reader that is last in down-first, and the reader that is last in right-first
pub record AccessHistory : Type 0 where
  pub writer : Option NodeId
  pub rightmost : Option NodeId
  pub downmost : Option NodeId

-- nothing was accessed
abbrev pub empty_history : AccessHistory
empty_history = record { writer = None; rightmost = None; downmost = None }

-- y is x, or before x in both orders
abbrev pub is_ordered : (NodeId → ℕ) → (NodeId → ℕ) → NodeId → NodeId → Bool
is_ordered down right y x = ((y.iteration == x.iteration) && (y.index == x.index)) ||
    (nat_lt (down y) (down x) && nat_lt (right y) (right x))

-- the access of the kept instance, if there is one that is not before x; or else `rest`
abbrev pub race_with : (NodeId → ℕ) → (NodeId → ℕ) → NodeId → AccessKind → Option NodeId → Option NotedAccess → Option NotedAccess
race_with down right x kind None rest = rest
race_with down right x kind (Some y) rest = if is_ordered down right y x then rest else Some (noted_access y kind)

-- the kept access that an access races with, if there is one; a read is compared with the writer alone
abbrev pub check_access : (NodeId → ℕ) → (NodeId → ℕ) → AccessHistory → NodeId → AccessKind → Option NotedAccess
check_access down right kept x Read = race_with down right x Write kept.writer None
check_access down right kept x Write = race_with down right x Write kept.writer
    (race_with down right x Read kept.rightmost (race_with down right x Read kept.downmost None))

-- the later of two in an order
abbrev pub later : (NodeId → ℕ) → Option NodeId → NodeId → NodeId
later order None x = x
later order (Some y) x = if nat_lt (order y) (order x) then x else y

-- what is kept after one more access
abbrev pub updated_history : (NodeId → ℕ) → (NodeId → ℕ) → AccessHistory → NodeId → AccessKind → AccessHistory
updated_history down right kept x Read = record kept
    { rightmost = Some (later down kept.rightmost x); downmost = Some (later right kept.downmost x) }
updated_history down right kept x Write = record kept { writer = Some x }

-- the first access that races: its number, and the kept access that it races with
pub record FoundRace : Type 0 where
  pub number : ℕ
  pub earlier : NotedAccess

-- the race of access n with this earlier access, if there is one; or else `rest`
abbrev pub race_or : ℕ → Option NotedAccess → Option FoundRace → Option FoundRace
race_or n None rest = rest
race_or n (Some e) rest = Some (record { number = n; earlier = e })

-- the first race of these accesses, which are numbered from n, if this history was kept before them
abbrev pub found_race_from : (NodeId → ℕ) → (NodeId → ℕ) → ℕ → AccessHistory → List NotedAccess → Option FoundRace
found_race_from down right n kept [] = None
found_race_from down right n kept (x ∷ xs) = race_or n (check_access down right kept x.who x.kind)
    (found_race_from down right (suc n) (updated_history down right kept x.who x.kind) xs)

-- the first race that the history finds in the accesses to a cell
abbrev pub found_race : (NodeId → ℕ) → (NodeId → ℕ) → List NotedAccess → Option FoundRace
found_race down right accesses = found_race_from down right 0 empty_history accesses
