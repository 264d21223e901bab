-- Bytes that begin with others.
use Rattle.std.proofs.Common.{◌≡◌, ◌+◌, ℕ, List, ◌++◌, true, false, Some, None, Bor, length, take, drop}
use Rattle.std.proofs.lemmas.Bool.Decides.{Decides-eqb}
use Rattle.std.proofs.lemmas.Slice.Eq.{strip_prefix_is}
use lib.Dec.{eqb}
use lib.Pointwise.{pointwise}

pub no_prefix : (s p : List ℕ) → pointwise eqb (take (length p) s) p ≡ false → (rest : List ℕ) → s ≡ p ++ rest → ⊥
no_prefix s p e = strip_prefix_is Decides-eqb s p None e

pub has_prefix : (s p : List ℕ) (x : Bor (List ℕ)) → (pointwise eqb (take (length p) s) p ≡ true) × (x.now ≡ drop (length p) s)
    × (length x.now + length p ≡ length s)
    → s ≡ p ++ x.now
has_prefix s p x e = strip_prefix_is Decides-eqb s p (Some x) e
