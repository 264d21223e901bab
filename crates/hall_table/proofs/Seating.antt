-- Facts for the functions that step on the table.
use Rattle.std.proofs.Common.{◌≡◌, ◌+◌, arith, ℕ, List, [], ◌∷◌, refl, sym, ap, ◌∙◌, true, false, Option, Some, None}
use Rattle.atomic_table.specs.Table.{rest}
use Rattle.atomic_table.specs.Seated.{TableId}
use Rattle.hall_table.specs.declared.run_seat.RunSeat.{RunSeat}
use Rattle.frame_book.specs.BookStates.{BookState}
use Rattle.pipe_frame.specs.declared.token.FrameToken.{FrameToken}
use Rattle.hall_table.specs.SeatViews.{HallConstants, InstanceData, SeatView, SlotValue, TheBook, TheShard}
use Rattle.hall_shards.specs.ShardValues.{ShardValue}
use Rattle.hall_table.specs.HallRule.{slot_of}
use Rattle.hall_table.specs.InstanceSeats.{is_instance_badge, is_instance_view}
use Rattle.hall_table.specs.Steps.{BookSnapshot, ViewAndSlots, IsSnapshot, having}
use Rattle.hall_table.specs.declared.view.View.{View}
use Rattle.hall_table.specs.declared.slot.Slot.{Slot}
use Rattle.hall_table.specs.declared.slot.Slot.TheVariants as slots

module _ (M : Type 0) where
  -- the slot that was taken last
  pub held_slot : (m : ViewAndSlots M) (v : View) (i : ℕ) (y : Slot M) (cs : List (ℕ × Slot M)) → m ≡ (v, (i, y) ∷ cs)
      → (old : Slot M) × (m.1 ≡ (i, old) ∷ rest m.1)
  held_slot m v i y cs e = (y, ap (λ (k : ViewAndSlots M). k.1) e ∙ sym (ap (λ (k : ViewAndSlots M). (i, y) ∷ rest k.1) e))

  -- a token whose payload got a seat
  pub seated : (with : M → Option RunSeat → M) (t u : FrameToken M) (p : M) (r : RunSeat) (z : TableId) (v : View)
      → p ≡ with t.payload (Some r) → t ≡ u → r.badge.table_id ≡ z → r.badge.views ≡ v ∷ []
      → (x : RunSeat) × (record t { payload = p } ≡ record u { payload = with u.payload (Some x) }) × (x.badge.table_id ≡ z)
      × (x.badge.views ≡ v ∷ [])
  seated with t u p r z v e same a b = (
    r,
    ap (λ (q : M). record t { payload = q }) e
        ∙ ap (λ (k : FrameToken M). record k { payload = with k.payload (Some r) }) same,
    a,
    b,
  )

  -- what lock 0 protects is a book
  pub taken_book : (m n : ViewAndSlots M) (x : SlotValue) → n ≡ having m 0 x → IsSnapshot m.0.it 0 x
      → (b : BookState) × (n ≡ having m 0 (TheBook b)) × BookSnapshot m.0.it 0 b
  taken_book m n (TheBook b) e h = (b, e, h)
  taken_book m n (TheShard y) e h = (let q = h.slot in absurd (omega (arith, q)))

  -- a slot's value is a book, or a shard
  pub book_value : (x : SlotValue) (b : BookState) → ◌≡◌ {A = Slot M} (slots.Book b) (slot_of x) → x ≡ TheBook b
  book_value (TheBook c) b e = cc
  book_value (TheShard y) b e = absurd (cc)

  pub shard_value : (x : SlotValue) (y : ShardValue) → ◌≡◌ {A = Slot M} (slots.Shard y) (slot_of x) → x ≡ TheShard y
  shard_value (TheBook c) y e = absurd (cc)
  shard_value (TheShard z) y e = cc

  pub no_token : (x : SlotValue) (t : FrameToken M) → ◌≡◌ {A = Slot M} (slots.Token t) (slot_of x) → ⊥
  no_token (TheBook c) t e = cc
  no_token (TheShard z) t e = cc

  pub no_hole : (x : SlotValue) → ◌≡◌ {A = Slot M} slots.Out (slot_of x) → ⊥
  no_hole (TheBook c) e = cc
  no_hole (TheShard z) e = cc

pub no_book : (v : SeatView) (n : ℕ) (x : SlotValue) (b : BookState) → x ≡ TheBook b → IsSnapshot v (1 + n) x → ⊥
no_book v n (TheBook c) b e h = let q = h.slot in omega (arith, q)
no_book v n (TheShard z) b e h = cc

-- the seat of an instance
pub record RunBadge (views : List View) : Type 0 where
  pub view : View
  pub is : views ≡ view ∷ []
  pub constants : HallConstants
  pub knows : view.it.constants ≡ Some constants
  pub run : InstanceData
  pub run_is : view.it.run ≡ Some run
  pub held : view.it.held ≡ []

record RunView (o : Option HallConstants) (r : Option InstanceData) (held : List (ℕ × SlotValue)) : Type 0 where
  pub constants : HallConstants
  pub knows : o ≡ Some constants
  pub run : InstanceData
  pub run_is : r ≡ Some run
  pub empty : held ≡ []

run_view : (o : Option HallConstants) (r : Option InstanceData) (held : List (ℕ × SlotValue)) → is_instance_view o r held ≡ true
    → RunView o r held
run_view None r held e = absurd (let z : false ≡ true = e in cc)
run_view (Some a) None held e = absurd (let z : false ≡ true = e in cc)
run_view (Some a) (Some d) [] e = record { constants = a; knows = refl; run = d; run_is = refl; empty = refl }
run_view (Some a) (Some d) (x ∷ xs) e = absurd (let z : false ≡ true = e in cc)

pub instance_badge : (views : List View) → is_instance_badge views ≡ true → RunBadge views
instance_badge [] e = absurd (let z : false ≡ true = e in cc)
instance_badge (v ∷ []) e = let q = run_view v.it.constants v.it.run v.it.held e in
    record { view = v; is = refl; constants = q.constants; knows = q.knows; run = q.run; run_is = q.run_is; held = q.empty }
instance_badge (v ∷ (w ∷ vs)) e = absurd (let z : false ≡ true = e in cc)

pub is_badge : (v : View) (a : HallConstants) (d : InstanceData) → v.it.constants ≡ Some a → v.it.run ≡ Some d → v.it.held ≡ []
    → is_instance_badge (v ∷ []) ≡ true
is_badge v a d e f g = rw (e, f, g) refl
