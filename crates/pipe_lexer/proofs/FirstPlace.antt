-- The first index of a list at which a test passes.
use Rattle.std.proofs.Common.{◌≡◌, ℕ, ◌<◌, Bool, true, false, List, length, get_or, position, Some, None, arith, ap, cond, ltb}
use Rattle.std.specs.List.{position_or_len}
use Rattle.std.proofs.lemmas.List.Sums.{position_or_len_is}
use Rattle.std.proofs.lemmas.Bool.Decides.{nat_tests}

-- it is k if the test fails before k and passes at k
pub position_is : {X : Type 0} (p : X → Bool) (xs : List X) (k : ℕ) (d : X) → k < length xs → ((j : ℕ) → j < k → p (get_or xs j d) ≡ false)
    → p (get_or xs k d) ≡ true → position p xs ≡ Some k
position_is p xs k d within before here =
    let e : position_or_len p xs ≡ k = position_or_len_is p xs k d (omega arith) before (λ h. here) in
    rw e (let t : ltb k (length xs) ≡ true = grind (arith, nat_tests) in ap (λ b. cond b (Some k) None) t)

-- there is none if the test fails everywhere
pub position_is_none : {X : Type 0} (p : X → Bool) (xs : List X) (d : X) → ((j : ℕ) → j < length xs → p (get_or xs j d) ≡ false)
    → position p xs ≡ None
position_is_none p xs d fails =
    let e : position_or_len p xs ≡ length xs = position_or_len_is p xs (length xs) d (omega arith) fails (λ h. absurd (omega (arith, h))) in
    rw e (let t : ltb (length xs) (length xs) ≡ false = grind (arith, nat_tests) in ap (λ b. cond b (Some (length xs)) None) t)
