-- What a payload belongs to, as plain data: two order lists, as far as it has seen them, and the seat of a hall.
use Rattle.std.specs.Prelude.{◌≡◌, ◌≤◌, ℕ, ℤ, List, [], ◌∷◌, length, Option, Some, None}
use Rattle.pipe_model.specs.declared.marks.Marks.{Marks}
use Rattle.pipe_model.specs.declared.ticket.Entry.{Entry}
use Rattle.pipe_model.specs.Language.SyntaxTree.{SyntaxTree}
use Rattle.pipe_frame.specs.TokenFields.{TokenFields}

-- the identities of two order lists, and as much of their insertion logs as was seen
pub record SeenLists : Type 0 where
  pub down : List ℕ
  pub right : List ℕ
  pub down_log : List ℕ
  pub right_log : List ℕ

-- the identities of the lists of two orders; a list without an identity has the empty one
pub record ListIdentities : Type 0 where
  pub down : List ℕ
  pub right : List ℕ

-- the identity of a hall, the program, the input and the throttling limit of its book, and the identities of its order lists
pub record HallName : Type 0 where
  pub hall : List ℕ
  pub tree : SyntaxTree
  pub input : List ℤ
  pub limit : ℕ
  pub lists : ListIdentities

-- the seat of a running instance: its hall, its number there, the fields of the instance's token, the replies of the
-- iteration before the instance, and the accesses of the instance
pub record InstanceSeat : Type 0 where
  pub hall : HallName
  pub seat : ℕ
  pub fields : TokenFields
  pub replies : List (List ℤ)
  pub entries : List Entry

-- a payload without lists, or without a seat, belongs to none
pub record Tie : Type 0 where
  pub lists : Option SeenLists
  pub seat : Option InstanceSeat

-- the lists that were seen are these; lists without an identity may be any
abbrev pub AreSeenLists : Option SeenLists → List ℕ → List ℕ → Type 0
AreSeenLists lists [] right = Unit {0}
AreSeenLists lists (d ∷ ds) [] = Unit {0}
AreSeenLists None (d ∷ ds) (r ∷ rs) = ⊥
AreSeenLists (Some l) (d ∷ ds) (r ∷ rs) = (l.down ≡ d ∷ ds) × (l.right ≡ r ∷ rs)

-- the payload belongs to these lists; to lists without an identity every payload belongs
abbrev pub BelongsTo : Tie → ListIdentities → Type 0
BelongsTo tie lists = AreSeenLists tie.lists lists.down lists.right

-- the elements of the marks are in lists with these logs
pub record AreElementsOf (down_log right_log : List ℕ) (m : Marks) : Type 0 where
  pub down_first : m.down_first ≤ length down_log
  pub right_first : m.right_first ≤ length right_log
  pub down : (m.down.down_first ≤ length down_log) × (m.down.right_first ≤ length right_log)
  pub right : (m.right.down_first ≤ length down_log) × (m.right.right_first ≤ length right_log)

-- the elements of the marks are in the lists that were seen
abbrev pub AreSeen : Option SeenLists → Marks → Type 0
AreSeen None m = Unit {0}
AreSeen (Some l) m = AreElementsOf l.down_log l.right_log m

-- a payload with this tie knows the marks; one without lists knows all marks
abbrev pub KnowsMarks : Tie → Marks → Type 0
KnowsMarks tie m = AreSeen tie.lists m
