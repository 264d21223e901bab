-- Pairs of elements of two joined lists.
use Rattle.std.proofs.Common.{◌≡◌, refl, sym, subst, ◌<◌, ◌-◌, List, ◌++◌, length, get_or, AllPairs, Contains, arith, inl, inr}
use Rattle.std.proofs.lemmas.Bool.{cases_lt}
use Rattle.std.proofs.lemmas.List.{get_or_append_left, get_or-append_right, length-append}
use Rattle.std.proofs.lemmas.List.Elements.{Contains-get_or}

-- each element of the joined list is in the relation to all after it, if that is so in both lists and from the first to the second
pub pairs_join : {A : Type 0} (R : A → A → Type 0) (xs ys : List A) → AllPairs R xs → AllPairs R ys
    → ((x y : A) → Contains xs x → Contains ys y → R x y) → AllPairs R (xs ++ ys)
pairs_join R xs ys p q across i j d l w =
    let long = length-append xs ys in
    elim (cases_lt j (length xs)) [
      | inl near ↦ (
          let a : get_or (xs ++ ys) i d ≡ get_or xs i d = get_or_append_left xs ys d i (omega (arith, l, near)) in
          let b : get_or (xs ++ ys) j d ≡ get_or xs j d = get_or_append_left xs ys d j near in
          subst (λ y. R (get_or (xs ++ ys) i d) y) (sym b) (subst (λ y. R y (get_or xs j d)) (sym a) (p i j d l near)))
      | inr far ↦ (
          let b : get_or (xs ++ ys) j d ≡ get_or ys (j - length xs) d = get_or-append_right xs ys (length xs) j d refl far in
          let there : j - length xs < length ys = omega (arith, w, long, far) in
          subst (λ y. R (get_or (xs ++ ys) i d) y) (sym b) (elim (cases_lt i (length xs)) [
            | inl near ↦ (
                let a : get_or (xs ++ ys) i d ≡ get_or xs i d = get_or_append_left xs ys d i near in
                subst (λ y. R y (get_or ys (j - length xs) d)) (sym a)
                (across (get_or xs i d) (get_or ys (j - length xs) d) (Contains-get_or xs i d near)
                (Contains-get_or ys (j - length xs) d there)))
            | inr also ↦ (
                let a : get_or (xs ++ ys) i d ≡ get_or ys (i - length xs) d = get_or-append_right xs ys (length xs) i d refl also in
                subst (λ y. R y (get_or ys (j - length xs) d)) (sym a)
                (q (i - length xs) (j - length xs) d (omega (arith, l, far, also)) there))
          ]))
    ]
