-- A list is divided at the first or last occurrence of an element in one way.
use Rattle.std.proofs.Common.{◌≡◌, ◌≢◌, ◌∙◌, sym, subst, refl, arith, ℕ, zero, suc, List, [], ◌∷◌, ◌++◌}
use Rattle.record_parser.specs.ByteDivisions.{IsFreeOf}

pub head_is : {x y : ℕ} {xs ys : List ℕ} → x ∷ xs ≡ y ∷ ys → x ≡ y
head_is e = cc

pub tail_is : {x y : ℕ} {xs ys : List ℕ} → x ∷ xs ≡ y ∷ ys → xs ≡ ys
tail_is e = cc

pub free_head : (b x : ℕ) (xs : List ℕ) → IsFreeOf b (x ∷ xs) → x ≢ b
free_head b x xs h = h 0 0 (omega arith)

pub free_tail : (b x : ℕ) (xs : List ℕ) → IsFreeOf b (x ∷ xs) → IsFreeOf b xs
free_tail b x xs h = λ k d l. h (suc k) d (omega (arith, l))

pub free_cons : (b x : ℕ) (xs : List ℕ) → x ≢ b → IsFreeOf b xs → IsFreeOf b (x ∷ xs)
free_cons b x xs apart h zero d l = apart
free_cons b x xs apart h (suc k) d l = h k d (omega (arith, l))

-- a list with the element is not free of it
pub not_free : (b : ℕ) (xs ys : List ℕ) → IsFreeOf b (xs ++ b ∷ ys) → ⊥
not_free b [] ys h = free_head b b ys h refl
not_free b (x ∷ xs) ys h = not_free b xs ys (free_tail b x (xs ++ b ∷ ys) h)

-- at the first occurrence
pub one_first : (b : ℕ) (xs xs' ys ys' : List ℕ) → IsFreeOf b xs → IsFreeOf b xs' → xs ++ b ∷ ys ≡ xs' ++ b ∷ ys' → (xs ≡ xs') × (ys ≡ ys')
one_first b [] [] ys ys' f f' e = (refl, tail_is e)
one_first b [] (x' ∷ xs') ys ys' f f' e = absurd (free_head b x' xs' f' (sym (head_is e)))
one_first b (x ∷ xs) [] ys ys' f f' e = absurd (free_head b x xs f (head_is e))
one_first b (x ∷ xs) (x' ∷ xs') ys ys' f f' e =
    let rest = one_first b xs xs' ys ys' (free_tail b x xs f) (free_tail b x' xs' f') (tail_is e) in
    let same : x ≡ x' = head_is e in
    let more : xs ≡ xs' = rest.0 in
    (cc, rest.1)

-- at the last occurrence
pub one_last : (b : ℕ) (xs xs' ys ys' : List ℕ) → IsFreeOf b ys → IsFreeOf b ys' → xs ++ b ∷ ys ≡ xs' ++ b ∷ ys' → (xs ≡ xs') × (ys ≡ ys')
one_last b [] [] ys ys' f f' e = (refl, tail_is e)
one_last b [] (x' ∷ xs') ys ys' f f' e = absurd (not_free b xs' ys' (subst (IsFreeOf b) (tail_is e) f))
one_last b (x ∷ xs) [] ys ys' f f' e = absurd (not_free b xs ys (subst (IsFreeOf b) (sym (tail_is e)) f'))
one_last b (x ∷ xs) (x' ∷ xs') ys ys' f f' e =
    let rest = one_last b xs xs' ys ys' f f' (tail_is e) in
    let same : x ≡ x' = head_is e in
    let more : xs ≡ xs' = rest.0 in
    (cc, rest.1)

pub free_append : (b : ℕ) (xs ys : List ℕ) → IsFreeOf b xs → IsFreeOf b ys → IsFreeOf b (xs ++ ys)
free_append b [] ys f g = g
free_append b (x ∷ xs) ys f g = free_cons b x (xs ++ ys) (free_head b x xs f) (free_append b xs ys (free_tail b x xs f) g)

-- ---- divisions of the same bytes

pub never_divided : (b : ℕ) (bytes xs ys : List ℕ) → IsFreeOf b bytes → bytes ≡ xs ++ b ∷ ys → ⊥
never_divided b bytes xs ys f e = not_free b xs ys (subst (IsFreeOf b) e f)

pub at_first : (b : ℕ) (bytes first rest xs ys : List ℕ) → bytes ≡ first ++ b ∷ rest → IsFreeOf b first → bytes ≡ xs ++ b ∷ ys
    → IsFreeOf b xs → (first ≡ xs) × (rest ≡ ys)
at_first b bytes first rest xs ys e f g h = one_first b first xs rest ys f h (sym e ∙ g)

pub at_last : (b : ℕ) (bytes rest last xs ys : List ℕ) → bytes ≡ rest ++ b ∷ last → IsFreeOf b last → bytes ≡ xs ++ b ∷ ys → IsFreeOf b ys
    → (rest ≡ xs) × (last ≡ ys)
at_last b bytes rest last xs ys e f g h = one_last b rest xs last ys f h (sym e ∙ g)
