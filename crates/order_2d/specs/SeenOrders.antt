-- What contracts see of passes to two shared order lists.
use Rattle.std.specs.Prelude.{◌≡◌, ℕ, List, [], ◌∷◌}
use Rattle.om_shared.specs.SharedLists.{StartsWith}
use Rattle.order_2d.specs.OrderPairs.{OrderPair}
use Rattle.pipe_frame.specs.Ties.{SeenLists}

-- the passes are of lists with these identities; of lists without an identity they may be any
abbrev pub AreOfLists : SeenLists → List ℕ → List ℕ → Type 0
AreOfLists p [] right = Unit {0}
AreOfLists p (d ∷ ds) [] = Unit {0}
AreOfLists p (d ∷ ds) (r ∷ rs) = (p.down ≡ d ∷ ds) × (p.right ≡ r ∷ rs)

abbrev pub AreOf : SeenLists → OrderPair → Type 0
AreOf p o = AreOfLists p o.down.identity o.right.identity

-- the passes are of the same two lists
pub record AreSameLists (p q : SeenLists) : Type 0 where
  pub down : p.down ≡ q.down
  pub right : p.right ≡ q.right

-- p has seen at least what q has
pub record HasSeen (p q : SeenLists) : Type 0 where
  pub down : StartsWith p.down_log q.down_log
  pub right : StartsWith p.right_log q.right_log

-- what a question does not change: the borrow of the passes, by its number, and which lists they are of
abbrev pub question_identity : ℕ → SeenLists → List (List ℕ)
question_identity borrow p = (borrow ∷ []) ∷ (p.down ∷ (p.right ∷ []))

-- the same of lists that nobody else changes: their borrow, and their logs
abbrev pub lists_identity : ℕ → OrderPair → List (List ℕ)
lists_identity borrow o = (borrow ∷ []) ∷ (o.down.log ∷ (o.right.log ∷ []))
