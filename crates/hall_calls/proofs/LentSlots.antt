-- A seat that has taken one slot, which is lent.
use Rattle.std.proofs.Common.{◌≡◌, ◌∙◌, ℕ, List, [], ◌∷◌, ap, sym}
use Rattle.atomic_table.specs.Table.{rest}
use Rattle.hall_table.specs.Steps.{ViewAndSlots}
use Rattle.hall_table.specs.declared.slot.Slot.{Slot}
use Rattle.hall_table.specs.declared.view.View.{View}

pub same_head : {M : Type 0} (k : ℕ) (s t : Slot M) (cs ds : List (ℕ × Slot M)) → (k, s) ∷ cs ≡ (k, t) ∷ ds → s ≡ t
same_head {M} k s t cs ds e = let p : (k, s) ≡ (k, t) = cc in ap (λ (y : ℕ × Slot M). y.1) p

-- the slot that a seat took last
pub first_slot : {M : Type 0} (n : ViewAndSlots M) (v : View) (k : ℕ) (s : Slot M) (cs : List (ℕ × Slot M)) → n ≡ (v, (k, s) ∷ cs)
    → n.1 ≡ (k, s) ∷ rest n.1
first_slot {M} n v k s cs e = ap (λ (q : ViewAndSlots M). q.1) e ∙ ap (λ (q : ViewAndSlots M). (k, s) ∷ rest q.1) (sym e)

module _ (M : Type 0) (n : ViewAndSlots M) (k : ℕ) (v : Slot M) (only : n.1 ≡ (k, v) ∷ []) where
  pub there : (s : Slot M) × (n.1 ≡ (k, s) ∷ rest n.1)
  there = (v, only ∙ ap (λ (cs : List (ℕ × Slot M)). (k, v) ∷ rest cs) (sym only))

  -- what is lent is the value
  pub lent_value : (s : Slot M) → n.1 ≡ (k, s) ∷ rest n.1 → s ≡ v
  lent_value s e = same_head k s v (rest n.1) [] (sym e ∙ only)

  -- and what was made of it is in the slot then
  pub only_value : (w : Slot M) → (k, w) ∷ rest n.1 ≡ (k, w) ∷ []
  only_value w = ap (λ (cs : List (ℕ × Slot M)). (k, w) ∷ rest cs) only
