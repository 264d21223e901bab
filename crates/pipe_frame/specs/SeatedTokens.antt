-- Tokens that are out of a hall, by their fields and the ties of their payloads.
use Rattle.std.specs.Prelude.{◌≡◌, ℕ, ℤ, List, [], length, Option, Some, None}
use Rattle.pipe_model.specs.declared.ticket.Entry.{Entry}
use Rattle.pipe_model.specs.Language.SyntaxTree.{SyntaxTree}
use Rattle.pipe_frame.specs.Ties.{BelongsTo, HallName, InstanceSeat, KnowsMarks, Tie}
use Rattle.pipe_frame.specs.TokenFields.{TokenFields, fields_of}
use Rattle.pipe_frame.specs.declared.token.FrameToken.{FrameToken}

-- a token with these fields, whose payload has this tie, is out of the hall: the payload has the seat of the token's instance, with a
-- list of replies for each instance before it, belongs to the hall's lists, and knows the token's marks
pub record IsSeated (h : HallName) (f : TokenFields) (t : Tie) : Type 0 where
  pub seat : InstanceSeat
  pub is : t.seat ≡ Some seat
  pub hall : seat.hall ≡ h
  pub fields : seat.fields ≡ f
  pub parts : length seat.replies ≡ f.index
  pub knows : KnowsMarks t f.marks
  pub belongs : BelongsTo t h.lists

abbrev pub replies_of_seat : Option InstanceSeat → List (List ℤ)
replies_of_seat None = []
replies_of_seat (Some s) = s.replies

abbrev pub entries_of_seat : Option InstanceSeat → List Entry
entries_of_seat None = []
entries_of_seat (Some s) = s.entries

-- the replies that the iteration had before the instance
abbrev pub seated_replies : Tie → List (List ℤ)
seated_replies t = replies_of_seat t.seat

-- the accesses that the instance has made
abbrev pub seated_entries : Tie → List Entry
seated_entries t = entries_of_seat t.seat

-- a token that a call returns is out, its payload is at the start of its instance, and the instance has made no access
pub record IsGivenToken {M : Type 0} (ReadyAt : SyntaxTree → List ℤ → M → ℕ → List (List ℤ) → Type 0) (tie : M → Tie) (h : HallName)
    (t : FrameToken M) : Type 0 where
  pub out : IsSeated h (fields_of t) (tie t.payload)
  pub ready : ReadyAt h.tree h.input t.payload t.iteration (seated_replies (tie t.payload))
  pub fresh : seated_entries (tie t.payload) ≡ []
