-- Bytes begin with at most one longest symbol.
use Rattle.std.proofs.Common.{◌≡◌, ◌∙◌, ap, sym, ℕ, true, List, [], ◌∷◌, ◌++◌, refl, arith, ◌⊎◌, inl, inr, Some, None, append-nil}
use Rattle.std.proofs.lemmas.Bool.Decides.{nat_tests}
use Rattle.pipe_model.specs.declared.symbol.Symbol.{Symbol}
use Rattle.pipe_model.specs.Language.Lexis.{is_blank, symbol_of, IsLongest}

-- of two prefixes of one list, the longer extends the shorter
pub record GoesOn (short long after_short after_long : List ℕ) : Type 0 where
  pub more : List ℕ
  pub front : long ≡ short ++ more
  pub rest : after_short ≡ more ++ after_long

-- of two prefixes of one list, one extends the other
pub one_goes_on : (x y u v : List ℕ) → x ++ u ≡ y ++ v → GoesOn x y u v ⊎ GoesOn y x v u
one_goes_on [] y u v h = inl (record { more = y; front = refl; rest = h })
one_goes_on (a ∷ x) [] u v h = inr (record { more = a ∷ x; front = refl; rest = sym h })
one_goes_on (a ∷ x) (b ∷ y) u v h =
    let tails : x ++ u ≡ y ++ v = cc (h) in let heads : a ≡ b = cc (h) in
    elim (one_goes_on x y u v tails) [
      | inl r ↦ inl (record { more = r.more; front = (let f = r.front in cc (heads, f)); rest = r.rest })
      | inr r ↦ inr (record { more = r.more; front = (let f = r.front in cc (heads, f)); rest = r.rest })
    ]

-- a symbol that extends the longest symbol has the same text
not_longer : (x y u v : List ℕ) (s : Symbol) → IsLongest x u → GoesOn x y u v → symbol_of y ≡ Some s → (x ≡ y) × (u ≡ v)
not_longer x y u v s l r t = by_more r.more refl
  where
    by_more : (m : List ℕ) → r.more ≡ m → (x ≡ y) × (u ≡ v)
    by_more [] e = (sym (r.front ∙ ap (λ m. x ++ m) e ∙ append-nil x), r.rest ∙ ap (λ m. m ++ v) e)
    by_more (c ∷ m) e = absurd (l.longest r.more v s r.rest (λ n. let d : c ∷ m ≡ [] = sym e ∙ n in cc (d))
        (ap symbol_of (sym r.front) ∙ t))

-- the four blanks
blank_is : (b : ℕ) → is_blank b ≡ true → (b ≡ 32) ⊎ ((b ≡ 9) ⊎ ((b ≡ 13) ⊎ (b ≡ 10)))
blank_is b g = grind (arith, nat_tests)

none_at : (k : ℕ) (bs : List ℕ) (s : Symbol) → symbol_of (k ∷ bs) ≡ None → symbol_of (k ∷ bs) ≡ Some s → ⊥
none_at k bs s none h = let e : None ≡ Some s = sym none ∙ h in cc (e)

-- no symbol begins with a space, a tab, a carriage return or a line feed
blanks_begin_none : (bs : List ℕ) → (symbol_of (32 ∷ bs) ≡ None) × (symbol_of (9 ∷ bs) ≡ None) × (symbol_of (13 ∷ bs) ≡ None)
    × (symbol_of (10 ∷ bs) ≡ None)
blanks_begin_none [] = (refl, refl, refl, refl)
blanks_begin_none (c ∷ bs) = (refl, refl, refl, refl)

-- no symbol's text begins with a blank
pub blank_begins_no_symbol : (b : ℕ) (bs : List ℕ) (s : Symbol) → is_blank b ≡ true → symbol_of (b ∷ bs) ≡ Some s → ⊥
blank_begins_no_symbol b bs s g h = by_cases (blank_is b g)
  where
    by_cases : (b ≡ 32) ⊎ ((b ≡ 9) ⊎ ((b ≡ 13) ⊎ (b ≡ 10))) → ⊥
    by_cases (inl e) = none_at 32 bs s (blanks_begin_none bs).0 (ap (λ (x : ℕ). symbol_of (x ∷ bs)) (sym e) ∙ h)
    by_cases (inr (inl e)) = none_at 9 bs s (blanks_begin_none bs).1 (ap (λ (x : ℕ). symbol_of (x ∷ bs)) (sym e) ∙ h)
    by_cases (inr (inr (inl e))) = none_at 13 bs s (blanks_begin_none bs).2 (ap (λ (x : ℕ). symbol_of (x ∷ bs)) (sym e) ∙ h)
    by_cases (inr (inr (inr e))) = none_at 10 bs s (blanks_begin_none bs).3 (ap (λ (x : ℕ). symbol_of (x ∷ bs)) (sym e) ∙ h)

-- two longest symbols at the same bytes are equal, and so are their rests
pub one_longest : (x y u v : List ℕ) (s s' : Symbol) → IsLongest x u → IsLongest y v → symbol_of x ≡ Some s → symbol_of y ≡ Some s'
    → x ++ u ≡ y ++ v → (x ≡ y) × (u ≡ v)
one_longest x y u v s s' l l' t t' h = elim (one_goes_on x y u v h) [
  | inl r ↦ not_longer x y u v s' l r t'
  | inr r ↦ (let p = not_longer y x v u s l' r t in (sym p.0, sym p.1))
]
