-- The numbers found so far, and the rest of the input.
use Rattle.std.proofs.Common.{◌≡◌, ◌∙◌, ap, sym, subst, refl, ℕ, ℤ, ◌+◌, ◌-◌, ◌<◌, ◌≤◌, true, List, [], ◌∷◌, ◌++◌, length, drop, All, arith}
use Rattle.std.proofs.Common.{suc, Some, length-drop, length-append, append-nil, append_assoc}
use Rattle.std.proofs.lemmas.List.{drop-drop}
use Rattle.std.proofs.lemmas.List.Elements.{All-push}
use Rattle.pipe_model.specs.Language.Lexis.{is_blank}
use Rattle.pipe_io.specs.declared.numerals.Flaw.{Flaw}
use Rattle.pipe_io.specs.declared.numerals.Numeral.{Numeral}
use Rattle.pipe_io.specs.declared.bounds.TheConstants.{LONGEST_INPUT, MOST_NUMBERS}
use Rattle.pipe_io.specs.InputFile.{AreNumbersOf, FitsI64, HasBareMinus, HasCutNumber, HasStrayByte, HasTooMany, HasWideNumber, IsFaultOf}
use Rattle.pipe_io.specs.InputFile.{IsReached, ListsNumbers, Number, Separator, EndsHere, value_of, EndsNumber}
use Rattle.pipe_io.specs.Numerals.{CutNumber, IsFlaw, IsNumeralOf, OneMore, WideNumber, BareMinus, StrayByte, fault_at}

-- `found` are the numbers before the rest, and numbers of the rest continue them
pub record Reaches (bytes : List ℕ) (found : List ℤ) (rest : List ℕ) : Type 0 where
  pub short : length bytes ≤ LONGEST_INPUT
  pub place : ℕ
  pub within : place + length rest ≡ length bytes
  pub here : drop place bytes ≡ rest
  pub keeps : (others : List ℤ) (end : List ℕ) → ListsNumbers rest others end → ListsNumbers bytes (found ++ others) end
  pub bounded : length found ≤ MOST_NUMBERS
  pub narrow : All FitsI64 found

-- at the beginning no number is found
pub at_start : (bytes : List ℕ) → length bytes ≤ LONGEST_INPUT → Reaches bytes [] bytes
at_start bytes short = record {
  short = short;
  place = 0;
  within = omega arith;
  here = refl;
  keeps = λ others end d. d;
  bounded = omega arith;
  narrow = λ k d h. absurd (omega arith);
}

-- `Reaches` holds after a separator
pub past_separator : (bytes rest following : List ℕ) (found : List ℤ) (b : ℕ) → Reaches bytes found rest → rest ≡ b ∷ following
    → is_blank b ≡ true → Reaches bytes found following
past_separator bytes rest following found b r e blank = record {
  short = r.short;
  place = r.place + 1;
  within = omega (arith, r.within, ap length e);
  here = sym (drop-drop 1 r.place bytes) ∙ ap (λ x. drop 1 x) (r.here ∙ e);
  keeps = λ others end d. r.keeps others end (rw e (Separator b blank d));
  bounded = r.bounded;
  narrow = r.narrow;
}

-- the bytes after a text
after_text : (text following : List ℕ) → drop (length text) (text ++ following) ≡ following
after_text [] following = refl
after_text (b ∷ bs) following = after_text bs following

-- a number before a list of numbers
lists_past : (rest text following : List ℕ) (n : ℤ) (others : List ℤ) (end : List ℕ) → rest ≡ text ++ following → value_of text ≡ Some n
    → EndsNumber following → ListsNumbers following others end
    → ListsNumbers rest (n ∷ others) end
lists_past rest text following n others end e value ends d = rw e (Number text n value ends d)

-- `Reaches` holds after a number
pub past_number : (bytes rest : List ℕ) (found : List ℤ) (numeral : Numeral) → Reaches bytes found rest → IsNumeralOf rest numeral
    → length found < MOST_NUMBERS
    → Reaches bytes (found ++ numeral.value ∷ []) (drop numeral.length rest)
past_number bytes rest found numeral r p bounded =
    let n = numeral.length in
    let long : n ≤ length rest = parts_within rest p.text (drop n rest) p.number.parts p.measured in
    record {
      short = r.short;
      place = r.place + n;
      within = omega (arith, r.within, length-drop n rest, long);
      here = sym (drop-drop n r.place bytes) ∙ ap (λ x. drop n x) r.here;
      keeps = λ others end d. rw (append_assoc found (numeral.value ∷ []) others)
          (r.keeps (numeral.value ∷ others) end (lists_past rest p.text (drop n rest) numeral.value others end p.number.parts p.number.value
          p.ends d));
      bounded = rw (one_longer found numeral.value) bounded;
      narrow = All-push FitsI64 found numeral.value r.narrow p.narrow;
    }
  where
    parts_within : (rest text following : List ℕ) → rest ≡ text ++ following → numeral.length ≡ length text → numeral.length ≤ length rest
    parts_within rest text following e m = rw (m, e, length-append text following) (omega arith)

    one_longer : (found : List ℤ) (n : ℤ) → length (found ++ n ∷ []) ≡ suc (length found)
    one_longer [] n = refl
    one_longer (x ∷ xs) n = ap suc (one_longer xs n)

-- at the end all numbers are found
pub at_end : (bytes : List ℕ) (found : List ℤ) → Reaches bytes found [] → AreNumbersOf bytes found
at_end bytes found r = record {
  short = r.short;
  listed = subst (λ x. ListsNumbers bytes x []) (append-nil found) (r.keeps [] [] (EndsHere []));
  bounded = r.bounded;
  narrow = r.narrow;
}

-- the input is reached up to the offset of the rest
reached : (bytes rest : List ℕ) (found : List ℤ) → (r : Reaches bytes found rest) → IsReached bytes r.place found
reached bytes rest found r = record {
  short = r.short;
  within = omega (arith, r.within);
  listed = rw r.here (subst (λ x. ListsNumbers bytes x rest) (append-nil found) (r.keeps [] rest (EndsHere rest)));
  bounded = r.bounded;
  narrow = r.narrow;
}

-- a flaw at the beginning of the rest is the fault of the input
pub at_flaw : (bytes rest : List ℕ) (found : List ℤ) (flaw : Flaw) (place : ℕ) → Reaches bytes found rest → IsFlaw rest (length found) flaw
    → place ≡ length bytes - length rest
    → IsFaultOf bytes (fault_at flaw place)
at_flaw bytes rest found flaw place r f e = let same : place ≡ r.place = omega (arith, e, r.within) in rw same (by_flaw f)
  where
    by_flaw : {flaw : Flaw} → IsFlaw rest (length found) flaw → IsFaultOf bytes (fault_at flaw r.place)
    by_flaw (StrayByte h) = let none : r.place + 0 ≡ r.place = omega arith in
        rw none (HasStrayByte r.place found (reached bytes rest found r) (rw r.here h))
    by_flaw (BareMinus h) = HasBareMinus r.place found (reached bytes rest found r) (rw r.here h)
    by_flaw (OneMore text following n full h) = HasTooMany r.place found text following n (reached bytes rest found r) full (rw r.here h)
    by_flaw (WideNumber text following n bounded h never) =
        HasWideNumber r.place found text following n (reached bytes rest found r) bounded
        (rw r.here h) never
    by_flaw (CutNumber text following n bounded h fits never) =
        HasCutNumber r.place found text following n (reached bytes rest found r) bounded (rw r.here h) fits never
