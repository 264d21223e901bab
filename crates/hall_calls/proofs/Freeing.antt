-- The slots of a table are freed in turn.
use Rattle.std.proofs.Common.{◌≡◌, ◌<◌, ◌+◌, ℕ, zero, suc, List, [], ◌∷◌, Bool, false, get_or, set, refl, sym, ap, ◌∙◌, subst, arith}
use mathlib.Core.Logic.{dite}
use native.Mathlib.Decide.{ℕ_discrete}
use Rattle.core.specs.Mem.Slots.Ownership.{Filled}
use Rattle.hall_shards.proofs.ListItems.{set_other}

taken_here : (bs : List Bool) (i : ℕ) → get_or (set bs i false) i false ≡ false
taken_here [] i = refl
taken_here (b ∷ bs) zero = refl
taken_here (b ∷ bs) (suc i) = taken_here bs i

-- the first i are free; then so is the next one
pub one_taken : (bs cs : List Bool) (i n m : ℕ) → cs ≡ set bs i false → m ≡ n → Filled bs i n
    × ((k : ℕ) → k < i → get_or bs k false ≡ false)
    → Filled cs (i + 1) m × ((k : ℕ) → k < i + 1 → get_or cs k false ≡ false)
one_taken bs cs i n m is same h = (
  (λ k l s. ap (λ xs. get_or xs k false) is ∙ (set_other bs i k false false (λ e. (omega (arith, l, e)))
      ∙ h.0 k (omega (arith, l)) (omega (arith, s, same)))),
  (λ k l. ap (λ xs. get_or xs k false) is ∙ dite (ℕ_discrete k i)
      (λ e. ap (get_or (set bs i false) k) (refl) ∙ subst (λ j. get_or (set bs i false) j false ≡ false) (sym e) (taken_here bs i))
      (λ ne. set_other bs i k false false ne ∙ h.1 k (omega (arith, l, ne)))),
)
