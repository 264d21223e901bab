-- An input has at most one fault, and none if it is a list of numbers.
use Rattle.std.proofs.Common.{◌≡◌, ◌∙◌, ap, sym, subst, refl, ℕ, ℤ, ◌+◌, ◌<◌, ◌≤◌, ◌==◌, true, false, List, [], ◌∷◌, ◌++◌, length}
use Rattle.std.proofs.Common.{length-append, length-drop, drop, All, Some, None, option_map, suc, arith, append-nil, ◌⊎◌, inl, inr, ◌-◌}
use Rattle.std.proofs.lemmas.Bool.{and_parts}
use Rattle.std.proofs.lemmas.Bool.Decides.{nat_tests}
use Rattle.std.specs.List.{list_all}
use Rattle.pipe_model.specs.Language.Lexis.{is_blank, is_digit}
use Rattle.pipe_io.specs.declared.input_fault.InputFault.{InputFault}
use Rattle.pipe_io.specs.declared.input_fault.InputFault.TheVariants as faults
use Rattle.pipe_io.specs.declared.numerals.Flaw.{Flaw}
use Rattle.pipe_io.specs.declared.numerals.Flaw.TheVariants as flaws
use Rattle.pipe_io.specs.declared.bounds.TheConstants.{LONGEST_INPUT, MOST_NUMBERS}
use Rattle.pipe_io.specs.InputFile.{AreNumbersOf, HasFault, HasStrayByte, HasBareMinus, HasTooMany, HasWideNumber, HasCutNumber, IsTooLong}
use Rattle.pipe_io.specs.InputFile.{IsReached, BeginsBareMinus, BeginsNothing, BeginsNumber, FitsI64, EndsNumber, ListsNumbers, Number}
use Rattle.pipe_io.specs.InputFile.{Separator, EndsHere, begins_digit, digits_value, signed, value_of, minus}
use Rattle.pipe_io.specs.Numerals.{CutNumber, IsFlaw, OneMore, WideNumber, BareMinus, StrayByte, fault_at}
use Rattle.pipe_io.proofs.OneReading.{Continues, one_continues, all_digits, mapped, no_digit_after, one_text, tail_digits}

-- a number begins with `-` or with a digit
pub number_first : (b : ℕ) (bs : List ℕ) (n : ℤ) → value_of (b ∷ bs) ≡ Some n → (b == minus) ≡ false → is_digit b ≡ true
number_first b bs n e bare =
    let plain : option_map (signed false) (digits_value (b ∷ bs)) ≡ Some n = rw bare at e in
    let m = mapped (signed false) (digits_value (b ∷ bs)) n plain in
    (and_parts (is_digit b) (list_all is_digit bs) (all_digits (b ∷ bs) m.0 m.1)).0

-- a digit comes after the `-` of a number
pub digit_after_minus : (b : ℕ) (bs following : List ℕ) (n : ℤ) → value_of (b ∷ bs) ≡ Some n → (b == minus) ≡ true
    → begins_digit (bs ++ following) ≡ true
digit_after_minus b [] following n e is_minus = let bad : None ≡ Some n = rw is_minus at e in cc (bad)
digit_after_minus b (d ∷ ds) following n e is_minus = (and_parts (is_digit d) (list_all is_digit ds) (tail_digits b (d ∷ ds) n e).0).0

-- no number begins with a stray byte
no_number_there : (rest text following : List ℕ) (n : ℤ) → BeginsNothing rest → value_of text ≡ Some n → rest ≡ text ++ following → ⊥
no_number_there rest [] following n h v e = cc (v)
no_number_there [] (b ∷ bs) following n h v e = h
no_number_there (c ∷ cs) (b ∷ bs) following n h v e =
    let same : c ≡ b = cc (e) in
    let bare : (b == minus) ≡ false = ap (λ x. x == minus) (sym same) ∙ h.2 in
    let bad : false ≡ true = sym h.1 ∙ ap is_digit same ∙ number_first b bs n v bare in cc (bad)

-- and none with a bare `-`
no_number_at_minus : (rest text following : List ℕ) (n : ℤ) → BeginsBareMinus rest → value_of text ≡ Some n → rest ≡ text ++ following → ⊥
no_number_at_minus rest [] following n h v e = cc (v)
no_number_at_minus [] (b ∷ bs) following n h v e = h
no_number_at_minus (c ∷ cs) (b ∷ bs) following n h v e =
    let same : c ≡ b = cc (e) in
    let rest : cs ≡ bs ++ following = cc (e) in
    let is_minus : (b == minus) ≡ true = ap (λ x. x == minus) (sym same) ∙ h.0 in
    let bad : false ≡ true = sym h.1 ∙ ap begins_digit rest ∙ digit_after_minus b bs following n v is_minus in cc (bad)

-- no byte is both stray and a bare `-`
not_both : (rest : List ℕ) → BeginsNothing rest → BeginsBareMinus rest → ⊥
not_both [] h g = h
not_both (b ∷ bs) h g = let bad : false ≡ true = sym h.2 ∙ g.0 in cc (bad)

-- bytes begin with at most one number
one_number : {rest t u x y : List ℕ} {n m : ℤ} → BeginsNumber rest t x n → BeginsNumber rest u y m → (t ≡ u) × (x ≡ y) × (n ≡ m)
one_number {rest} {t} {u} {x} {y} {n} {m} a b =
    let same = one_text t u x y n m a.value b.value (sym a.parts ∙ b.parts) a.whole b.whole in
    let texts : t ≡ u = same.0 in
    let value : Some n ≡ Some m = sym a.value ∙ ap value_of texts ∙ b.value in
    (texts, same.1, cc (value))

-- at most one thing is wrong at the beginning of bytes
pub one_flaw : {rest : List ℕ} {k : ℕ} {f g : Flaw} → IsFlaw rest k f → IsFlaw rest k g → f ≡ g
one_flaw (StrayByte h) (StrayByte h') = refl
one_flaw {rest = rest} (StrayByte h) (BareMinus h') = absurd (not_both rest h h')
one_flaw {rest = rest} (StrayByte h) (OneMore t b n c s) = absurd (no_number_there rest t b n h s.value s.parts)
one_flaw {rest = rest} (StrayByte h) (WideNumber t b n c s w) = absurd (no_number_there rest t b n h s.value s.parts)
one_flaw {rest = rest} (StrayByte h) (CutNumber t b n c s w u) = absurd (no_number_there rest t b n h s.value s.parts)
one_flaw {rest = rest} (BareMinus h) (StrayByte h') = absurd (not_both rest h' h)
one_flaw (BareMinus h) (BareMinus h') = refl
one_flaw {rest = rest} (BareMinus h) (OneMore t b n c s) = absurd (no_number_at_minus rest t b n h s.value s.parts)
one_flaw {rest = rest} (BareMinus h) (WideNumber t b n c s w) = absurd (no_number_at_minus rest t b n h s.value s.parts)
one_flaw {rest = rest} (BareMinus h) (CutNumber t b n c s w u) = absurd (no_number_at_minus rest t b n h s.value s.parts)
one_flaw {rest = rest} (OneMore t b n c s) (StrayByte h) = absurd (no_number_there rest t b n h s.value s.parts)
one_flaw {rest = rest} (OneMore t b n c s) (BareMinus h) = absurd (no_number_at_minus rest t b n h s.value s.parts)
one_flaw (OneMore t b n c s) (OneMore t' b' n' c' s') = refl
one_flaw (OneMore t b n c s) (WideNumber t' b' n' c' s' w) = absurd (omega (arith, c, c'))
one_flaw (OneMore t b n c s) (CutNumber t' b' n' c' s' w u) = absurd (omega (arith, c, c'))
one_flaw {rest = rest} (WideNumber t b n c s w) (StrayByte h) = absurd (no_number_there rest t b n h s.value s.parts)
one_flaw {rest = rest} (WideNumber t b n c s w) (BareMinus h) = absurd (no_number_at_minus rest t b n h s.value s.parts)
one_flaw (WideNumber t b n c s w) (OneMore t' b' n' c' s') = absurd (omega (arith, c, c'))
one_flaw (WideNumber t b n c s w) (WideNumber t' b' n' c' s' w') = refl
one_flaw (WideNumber t b n c s w) (CutNumber t' b' n' c' s' fits u) = let same : n ≡ n' = (one_number s s').2 in
    absurd (w (subst FitsI64 (sym same) fits))
one_flaw {rest = rest} (CutNumber t b n c s w u) (StrayByte h) = absurd (no_number_there rest t b n h s.value s.parts)
one_flaw {rest = rest} (CutNumber t b n c s w u) (BareMinus h) = absurd (no_number_at_minus rest t b n h s.value s.parts)
one_flaw (CutNumber t b n c s w u) (OneMore t' b' n' c' s') = absurd (omega (arith, c, c'))
one_flaw (CutNumber t b n c s fits u) (WideNumber t' b' n' c' s' w) = let same : n ≡ n' = (one_number s s').2 in
    absurd (w (subst FitsI64 same fits))
one_flaw (CutNumber t b n c s w u) (CutNumber t' b' n' c' s' w' u') = ap (λ x. flaws.BadByte (length x)) (one_number s s').0

-- a number does not begin with a separator
not_blank : (b : ℕ) (bs t x : List ℕ) (n : ℤ) → value_of t ≡ Some n → b ∷ bs ≡ t ++ x → is_blank b ≡ false
not_blank b bs [] x n v e = cc (v)
not_blank b bs (c ∷ cs) x n v e = let same : b ≡ c = cc (e) in ap is_blank same ∙ (tail_digits c cs n v).1

-- no separator begins where something is wrong
flaw_no_blank : {rest : List ℕ} {k : ℕ} {f : Flaw} (b : ℕ) (bs : List ℕ) → IsFlaw rest k f → rest ≡ b ∷ bs → is_blank b ≡ false
flaw_no_blank b bs (StrayByte h) e = (subst BeginsNothing e h).0
flaw_no_blank b bs (BareMinus h) e = let m = (subst BeginsBareMinus e h).0 in grind (arith, nat_tests, m)
flaw_no_blank b bs (OneMore t x n c s) e = not_blank b bs t x n s.value (sym e ∙ s.parts)
flaw_no_blank b bs (WideNumber t x n c s w) e = not_blank b bs t x n s.value (sym e ∙ s.parts)
flaw_no_blank b bs (CutNumber t x n c s w u) e = not_blank b bs t x n s.value (sym e ∙ s.parts)

-- no list of numbers goes on past a flaw
pub no_more_numbers : {a rest end : List ℕ} {k : ℕ} {f : Flaw} {others : List ℤ} → IsFlaw rest k f → ListsNumbers a others end → a ≡ rest
    → k + length others ≤ MOST_NUMBERS → All FitsI64 others
    → (others ≡ []) × (rest ≡ end)
no_more_numbers h (EndsHere r) e bounded narrow = (refl, sym e)
no_more_numbers h (Separator b p d) e bounded narrow = let bad : true ≡ false = sym p ∙ flaw_no_blank b _ h (sym e) in cc (bad)
no_more_numbers {rest = rest} (StrayByte h) (Number t n v s d) e bounded narrow = absurd (no_number_there rest t _ n h v (sym e))
no_more_numbers {rest = rest} (BareMinus h) (Number t n v s d) e bounded narrow = absurd (no_number_at_minus rest t _ n h v (sym e))
no_more_numbers (OneMore t' x n' c g) (Number t n v s d) e bounded narrow = absurd (omega (arith, c, bounded))
no_more_numbers (WideNumber t' x n' c g w) (Number {bytes = y} t n v s d) e bounded narrow =
    let same = one_number {u = t} {y = y} g (record { parts = sym e; value = v; whole = no_digit_after _ s }) in
    absurd (w (subst FitsI64 (sym same.2) (narrow 0 n (omega arith))))
no_more_numbers (CutNumber t' x n' c g fits u) (Number {bytes = y} t n v s d) e bounded narrow =
    let same = one_number {u = t} {y = y} g (record { parts = sym e; value = v; whole = no_digit_after _ s }) in
    absurd (u (subst EndsNumber (sym same.1) s))

-- ---- faults of a whole input

-- something is wrong at an offset that is reached
pub record IsFlawed (bytes : List ℕ) (fault : InputFault) : Type 0 where
  pub place : ℕ
  pub before : List ℤ
  pub reached : IsReached bytes place before
  pub flaw : Flaw
  pub wrong : IsFlaw (drop place bytes) (length before) flaw
  pub fault_is : fault ≡ fault_at flaw place

-- a fault is the length, or something wrong at an offset
pub flawed : {bytes : List ℕ} {fault : InputFault} → HasFault bytes fault → ((fault ≡ faults.TooLong) × (LONGEST_INPUT < length bytes)) ⊎
    IsFlawed bytes fault
flawed (IsTooLong long) = inl (refl, long)
flawed (HasStrayByte place before r h) = let none : place + 0 ≡ place = omega arith in
    inr (record {
      place = place;
      before = before;
      reached = r;
      flaw = flaws.BadByte 0;
      wrong = StrayByte h;
      fault_is =
          ap (λ n. faults.BadByte n) (sym none);
    })
flawed (HasBareMinus place before r h) = inr (record
    { place = place; before = before; reached = r; flaw = flaws.BadByte 1; wrong = BareMinus h; fault_is = refl })
flawed (HasTooMany place before t x n r c h) = inr (record
    { place = place; before = before; reached = r; flaw = flaws.TooMany; wrong = OneMore t x n c h; fault_is = refl })
flawed (HasWideNumber place before t x n r c h w) =
    inr (record { place = place; before = before; reached = r; flaw = flaws.TooWide; wrong = WideNumber t x n c h w; fault_is = refl })
flawed (HasCutNumber place before t x n r c h w u) =
    inr (record {
      place = place;
      before = before;
      reached = r;
      flaw = flaws.BadByte (length t);
      wrong = CutNumber t x n c h w u;
      fault_is =
          refl;
    })

-- equal rests have equal offsets
same_place : (bytes : List ℕ) (p q : ℕ) → p ≤ length bytes → q ≤ length bytes → drop p bytes ≡ drop q bytes → p ≡ q
same_place bytes p q within other e =
    let lengths : length bytes - p ≡ length bytes - q = sym (length-drop p bytes) ∙ ap length e ∙ length-drop q bytes in
    omega (arith, lengths, within, other)

-- a property of all items holds for those after a prefix
all_after : (xs ys : List ℤ) → All FitsI64 (xs ++ ys) → All FitsI64 ys
all_after [] ys h = h
all_after (x ∷ xs) ys h = all_after xs ys (λ k d lt. h (suc k) d (omega (arith, lt)))

-- nothing after a flaw is reached
no_further : {bytes : List ℕ} {fault : InputFault} (end : List ℕ) (numbers : List ℤ) → (h : IsFlawed bytes fault)
    → Continues (drop h.place bytes) end h.before numbers → length numbers ≤ MOST_NUMBERS → All FitsI64 numbers
    → (numbers ≡ h.before) × (drop h.place bytes ≡ end)
no_further end numbers h g bounded narrow =
    let parts : numbers ≡ h.before ++ g.0 = g.1 in
    let count : length h.before + length g.0 ≤ MOST_NUMBERS = rw (← length-append h.before g.0, ← parts) bounded in
    let fits : All FitsI64 (h.before ++ g.0) = rw parts at narrow in
    let s = no_more_numbers h.wrong g.2 refl count (all_after h.before g.0 fits) in
    (parts ∙ ap (λ x. h.before ++ x) s.0 ∙ append-nil h.before, s.1)

-- two faults at offsets are the same
pub one_fault_at : {bytes : List ℕ} {f g : InputFault} → IsFlawed bytes f → IsFlawed bytes g → f ≡ g
one_fault_at {bytes} {f} {g} a b = by_side (one_continues a.reached.listed b.reached.listed refl)
  where
    at_one : (drop a.place bytes ≡ drop b.place bytes) → length a.before ≡ length b.before → f ≡ g
    at_one rests counts =
        let place : a.place ≡ b.place = same_place bytes a.place b.place a.reached.within b.reached.within rests in
        let flaw : a.flaw ≡ b.flaw = one_flaw a.wrong (rw (← rests, ← counts) at b.wrong) in
        a.fault_is ∙ ap (λ x. fault_at x a.place) flaw ∙ ap (λ x. fault_at b.flaw x) place ∙ sym b.fault_is

    by_side : Continues (drop a.place bytes) (drop b.place bytes) a.before b.before
        ⊎ Continues (drop b.place bytes) (drop a.place bytes) b.before a.before → f ≡ g
    by_side (inl s) = let e = no_further (drop b.place bytes) b.before a s b.reached.bounded b.reached.narrow in
        at_one e.1 (ap length (sym e.0))
    by_side (inr s) = let e = no_further (drop a.place bytes) a.before b s a.reached.bounded a.reached.narrow in
        at_one (sym e.1) (ap length e.0)

-- no number is written by no bytes
no_text : (t x : List ℕ) (n : ℤ) → value_of t ≡ Some n → [] ≡ t ++ x → ⊥
no_text [] x n v e = cc (v)
no_text (b ∷ bs) x n v e = cc (e)

-- there is a byte where something is wrong
byte_there : {rest : List ℕ} {k : ℕ} {f : Flaw} → IsFlaw rest k f → rest ≡ [] → ⊥
byte_there (StrayByte h) e = subst BeginsNothing e h
byte_there (BareMinus h) e = subst BeginsBareMinus e h
byte_there (OneMore t x n c s) e = no_text t x n s.value (sym e ∙ s.parts)
byte_there (WideNumber t x n c s w) e = no_text t x n s.value (sym e ∙ s.parts)
byte_there (CutNumber t x n c s w u) e = no_text t x n s.value (sym e ∙ s.parts)

-- nothing comes after the numbers of no bytes
nothing_left : {a end : List ℕ} {ns : List ℤ} → ListsNumbers a ns end → a ≡ [] → end ≡ []
nothing_left (EndsHere rest) e = e
nothing_left (Separator b p d) e = cc (e)
nothing_left (Number [] n v s d) e = cc (v)
nothing_left (Number (b ∷ bs) n v s d) e = cc (e)

-- an input has at most one fault
pub one_fault : {bytes : List ℕ} {f g : InputFault} → HasFault bytes f → HasFault bytes g → f ≡ g
one_fault {bytes} {f} {g} a b = by_kind (flawed a) (flawed b)
  where
    by_kind : ((f ≡ faults.TooLong) × (LONGEST_INPUT < length bytes)) ⊎ IsFlawed bytes f
        → ((g ≡ faults.TooLong) × (LONGEST_INPUT < length bytes)) ⊎ IsFlawed bytes g → f ≡ g
    by_kind (inl x) (inl y) = x.0 ∙ sym y.0
    by_kind (inl x) (inr y) = let short = y.reached.short in absurd (omega (arith, x.1, short))
    by_kind (inr x) (inl y) = let short = x.reached.short in absurd (omega (arith, y.1, short))
    by_kind (inr x) (inr y) = one_fault_at x y

-- and none if it is a list of numbers
pub numbers_have_no_fault : {bytes : List ℕ} {f : InputFault} {numbers : List ℤ} → HasFault bytes f → AreNumbersOf bytes numbers → ⊥
numbers_have_no_fault {bytes} {f} {numbers} h a = by_kind (flawed h)
  where
    by_side : (x : IsFlawed bytes f) → Continues (drop x.place bytes) [] x.before numbers ⊎ Continues []
        (drop x.place bytes) numbers x.before → ⊥
    by_side x (inl s) = byte_there x.wrong (no_further [] numbers x s a.bounded a.narrow).1
    by_side x (inr s) = byte_there x.wrong (nothing_left s.2 refl)

    by_kind : ((f ≡ faults.TooLong) × (LONGEST_INPUT < length bytes)) ⊎ IsFlawed bytes f → ⊥
    by_kind (inl x) = let short = a.short in omega (arith, x.1, short)
    by_kind (inr x) = by_side x (one_continues x.reached.listed a.listed refl)
