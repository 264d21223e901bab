-- An input is at most one list of numbers.
use Rattle.std.proofs.Common.{◌≡◌, ◌∙◌, ap, sym, subst, refl, ℕ, ℤ, ◌==◌, Bool, true, false, cond, List, [], ◌∷◌, ◌++◌, Option, Some, None}
use Rattle.std.proofs.Common.{option_map, arith, append-nil, ◌⊎◌, inl, inr}
use Rattle.std.specs.List.{list_all}
use Rattle.std.proofs.lemmas.Bool.{and_parts}
use Rattle.std.proofs.lemmas.Bool.Decides.{nat_tests}
use Rattle.pipe_model.specs.Language.Lexis.{is_blank, is_digit, number_of}
use Rattle.pipe_io.specs.InputFile.{AreNumbersOf, EndsNumber, ListsNumbers, Number, Separator, EndsHere, begins_digit, digits_value, signed}
use Rattle.pipe_io.specs.InputFile.{value_of, minus}

-- a text with a value in digits is all digits
pub all_digits : (ds : List ℕ) (n : ℕ) → digits_value ds ≡ Some n → list_all is_digit ds ≡ true
all_digits [] n e = refl
all_digits (d ∷ ds) n e = by_test (list_all is_digit (d ∷ ds)) refl e
  where
    by_test : (b : Bool) → list_all is_digit (d ∷ ds) ≡ b → cond b (Some (number_of (d ∷ ds))) None ≡ Some n
        → list_all is_digit (d ∷ ds) ≡ true
    by_test true t h = t
    by_test false t h = cc (h)

-- a mapped value has an origin
pub mapped : {A B : Type 0} (f : A → B) (o : Option A) (y : B) → option_map f o ≡ Some y → (x : A) × (o ≡ Some x)
mapped f None y e = cc (e)
mapped f (Some x) y e = (x, refl)

-- only digits come after the first byte of a number, which is no separator
pub tail_digits : (b : ℕ) (bs : List ℕ) (n : ℤ) → value_of (b ∷ bs) ≡ Some n → (list_all is_digit bs ≡ true) × (is_blank b ≡ false)
tail_digits b bs n e = by_sign (b == minus) refl e
  where
    by_sign : (s : Bool) → (b == minus) ≡ s → cond s (option_map (signed true) (digits_value bs))
        (option_map (signed false) (digits_value (b ∷ bs))) ≡ Some n
        → (list_all is_digit bs ≡ true) × (is_blank b ≡ false)
    by_sign true t h = let m = mapped (signed true) (digits_value bs) n h in (all_digits bs m.0 m.1, grind (arith, nat_tests, t))
    by_sign false t h =
        let m = mapped (signed false) (digits_value (b ∷ bs)) n h in
        let parts : (is_digit b ≡ true) × (list_all is_digit bs ≡ true) = and_parts (is_digit b) (list_all is_digit bs)
        (all_digits (b ∷ bs) m.0 m.1) in
        (parts.1, grind (arith, nat_tests, parts.0))

-- two prefixes that have all digits at the beginning are the same
one_digits : (a b x y : List ℕ) → list_all is_digit a ≡ true → list_all is_digit b ≡ true → a ++ x ≡ b ++ y → begins_digit x ≡ false
    → begins_digit y ≡ false → (a ≡ b) × (x ≡ y)
one_digits [] [] x y p q e h g = (refl, e)
one_digits [] (b ∷ bs) x y p q e h g =
    let digit : is_digit b ≡ true = (and_parts (is_digit b) (list_all is_digit bs) q).0 in
    let same : begins_digit x ≡ is_digit b = ap begins_digit e in
    let bad : false ≡ true = sym h ∙ same ∙ digit in cc (bad)
one_digits (a ∷ ts) [] x y p q e h g =
    let digit : is_digit a ≡ true = (and_parts (is_digit a) (list_all is_digit ts) p).0 in
    let same : is_digit a ≡ begins_digit y = ap begins_digit e in
    let bad : true ≡ false = sym digit ∙ same ∙ g in cc (bad)
one_digits (a ∷ ts) (b ∷ bs) x y p q e h g =
    let first : a ≡ b = cc (e) in
    let rest : ts ++ x ≡ bs ++ y = cc (e) in
    let ih = one_digits ts bs x y (and_parts (is_digit a) (list_all is_digit ts) p).1 (and_parts (is_digit b) (list_all is_digit bs) q).1
    rest h g in
    let tails : ts ≡ bs = ih.0 in
    (cc (first, tails), ih.1)

-- bytes begin with at most one number and its text
pub one_text : (t u x y : List ℕ) (n m : ℤ) → value_of t ≡ Some n → value_of u ≡ Some m → t ++ x ≡ u ++ y → begins_digit x ≡ false
    → begins_digit y ≡ false → (t ≡ u) × (x ≡ y)
one_text [] u x y n m v w e h g = cc (v)
one_text (b ∷ bs) [] x y n m v w e h g = cc (w)
one_text (b ∷ bs) (c ∷ cs) x y n m v w e h g =
    let first : b ≡ c = cc (e) in
    let rest : bs ++ x ≡ cs ++ y = cc (e) in
    let tails = one_digits bs cs x y (tail_digits b bs n v).0 (tail_digits c cs m w).0 rest h g in
    let same : bs ≡ cs = tails.0 in
    (cc (first, same), tails.1)

-- a separator is no digit
pub no_digit_after : (x : List ℕ) → EndsNumber x → begins_digit x ≡ false
no_digit_after [] s = refl
no_digit_after (b ∷ bs) s = grind (arith, nat_tests, s)

-- the second of two lists of numbers continues the first
abbrev pub Continues : (rest end : List ℕ) (ns ms : List ℤ) → Type 0
Continues rest end ns ms = (others : List ℤ) × (ms ≡ ns ++ others) × ListsNumbers rest others end

-- no number begins with a separator
blank_number : (b : ℕ) (bs text bytes : List ℕ) (n : ℤ) → is_blank b ≡ true → value_of text ≡ Some n → b ∷ bs ≡ text ++ bytes → ⊥
blank_number b bs [] bytes n blank v e = cc (v)
blank_number b bs (c ∷ cs) bytes n blank v e =
    let same : b ≡ c = cc (e) in
    let bad : true ≡ false = sym blank ∙ ap is_blank same ∙ (tail_digits c cs n v).1 in cc (bad)

-- of two lists of numbers of the same bytes one continues the other
pub one_continues : {a b rest end : List ℕ} {ns ms : List ℤ} → ListsNumbers a ns rest → ListsNumbers b ms end → a ≡ b
    → Continues rest end ns ms ⊎ Continues end rest ms ns
one_continues {end = end} {ms = ms} (EndsHere rest) d e = inl (ms, refl, subst (λ x. ListsNumbers x ms end) (sym e) d)
one_continues {rest = rest} {ns = ns} d (EndsHere end) e = inr (ns, refl, subst (λ x. ListsNumbers x ns rest) e d)
one_continues (Separator b p d) (Separator c q f) e = one_continues d f (cc (e))
one_continues (Separator b p d) (Number u m w s f) e = absurd (blank_number b _ u _ m p w e)
one_continues (Number t n v r d) (Separator c q f) e = absurd (blank_number c _ t _ n q v (sym e))
one_continues (Number t n v r d) (Number u m w s f) e =
    let same = one_text t u _ _ n m v w e (no_digit_after _ r) (no_digit_after _ s) in
    let texts : t ≡ u = same.0 in
    let value : Some n ≡ Some m = sym v ∙ ap value_of texts ∙ w in
    let number : n ≡ m = cc (value) in
    with_number number (one_continues d f same.1)
  where
    with_number : {rest end : List ℕ} {n m : ℤ} {ns ms : List ℤ} → n ≡ m → Continues rest end ns ms ⊎ Continues end rest ms ns
        → Continues rest end (n ∷ ns) (m ∷ ms) ⊎ Continues end rest (m ∷ ms) (n ∷ ns)
    with_number e (inl g) = let list : _ ≡ _ = g.1 in inl (g.0, cc (e, list), g.2)
    with_number e (inr g) = let list : _ ≡ _ = g.1 in inr (g.0, cc (e, list), g.2)

-- no bytes are no numbers
pub no_numbers : {a end : List ℕ} {ns : List ℤ} → ListsNumbers a ns end → a ≡ [] → ns ≡ []
no_numbers (EndsHere rest) e = refl
no_numbers (Separator b p d) e = cc (e)
no_numbers (Number [] n v s d) e = cc (v)
no_numbers (Number (b ∷ bs) n v s d) e = cc (e)

-- an input is at most one list of numbers
pub one_reading : (bytes : List ℕ) (ns ms : List ℤ) → AreNumbersOf bytes ns → AreNumbersOf bytes ms → ns ≡ ms
one_reading bytes ns ms a b = by_side (one_continues a.listed b.listed refl)
  where
    by_side : Continues [] [] ns ms ⊎ Continues [] [] ms ns → ns ≡ ms
    by_side (inl g) = sym (g.1 ∙ ap (λ x. ns ++ x) (no_numbers g.2 refl) ∙ append-nil ns)
    by_side (inr g) = g.1 ∙ ap (λ x. ms ++ x) (no_numbers g.2 refl) ∙ append-nil ms
