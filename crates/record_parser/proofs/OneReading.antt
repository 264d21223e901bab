-- A text is a record or has a first bad line, and not both.
use Rattle.std.proofs.Common.{◌≡◌, ◌∙◌, ap, sym, subst, refl, arith, inl, inr, ℕ, ◌-◌, ◌<◌, ◌≤◌, List, [], ◌∷◌, ◌++◌, All, length, take}
use Rattle.std.proofs.Common.{get_or}
use Rattle.std.specs.List.{AllZip}
use Rattle.std.proofs.lemmas.Bool.{cases_lt}
use Rattle.std.proofs.lemmas.List.{get_or_append_left, get_or-take, length-append, length-take-le, take-take}
use Rattle.std.proofs.Math.Seq.{get_or-append_right, get_or-append_seam}
use Rattle.pipe_model.specs.declared.event.Event.{Event}
use Rattle.pipe_model.specs.declared.tree.Declaration.{Declaration}
use Rattle.record_parser.specs.ReadingLaws.{RecordsHaveNoBadLine, TextsHaveOneBadLine}
use Rattle.record_parser.specs.RecordLines.{CannotFollow, IsFirstBadLine, IsLogLine, IsOutcomeLine, IsRecord}
use Rattle.record_parser.proofs.OneEvent.{no_outcome}
use Rattle.record_parser.proofs.ReadBack.{line_at}

-- a line that is passed over
passed_line : (cells : List Declaration) (lines passed log : List (List ℕ)) (n : ℕ) → lines ≡ passed ++ log
    → All (IsOutcomeLine cells) passed → n < length passed
    → IsOutcomeLine cells (get_or lines n [])
passed_line cells lines passed log n e o l =
    subst (IsOutcomeLine cells) (sym (ap (λ ls. get_or ls n []) e ∙ get_or_append_left passed log [] n l)) (o n [] l)

-- the first of the lines that are read as events
first_read : (cells : List Declaration) (lines : List (List ℕ)) (n : ℕ) (bad : IsFirstBadLine cells lines n) (passed log : List (List ℕ))
    (before : List Event)
    → take n lines ≡ passed ++ log → AllZip (IsLogLine cells) log before → (before ≡ [] → ⊥)
    → (k : ℕ) × (k < n) × (e : Event) × IsLogLine cells (get_or lines k []) e
first_read cells lines n bad passed [] [] e h some = absurd (some refl)
first_read cells lines n bad passed [] (x ∷ xs) e h some = absurd h
first_read cells lines n bad passed (l ∷ ls) [] e h some = absurd h
first_read cells lines n bad passed (l ∷ ls) (x ∷ xs) e h some =
    let within = bad.within in
    let size = length-take-le n lines (omega (arith, within)) in
    let total = ap length e in
    let less : length passed < n = omega (arith, size, total, length-append passed (l ∷ ls)) in
    let here : get_or lines (length passed) [] ≡ l =
    sym (get_or-take n lines (length passed) [] less) ∙ ap (λ xs. get_or xs (length passed) []) e ∙ get_or-append_seam passed l ls [] in
    (length passed, less, x, subst (λ y. IsLogLine cells y x) (sym here) h.0)

none_before : (cells : List Declaration) (lines : List (List ℕ)) (n : ℕ) (bad : IsFirstBadLine cells lines n) (before : List Event)
    → bad.before ≡ before
    → ((k : ℕ) (e : Event) → k < n → IsLogLine cells (get_or lines k []) e → ⊥) → bad.before ≡ []
none_before cells lines n bad [] is none = is
none_before cells lines n bad (x ∷ xs) is none =
    let r = bad.record_before in
    let found = first_read cells lines n bad r.passed r.log bad.before r.parts r.read
    (λ empty. (let z = ap length (sym is ∙ empty) in omega (arith, z))) in
    absurd (none found.0 found.2 found.1 found.3)

pub records_have_no_bad_line : RecordsHaveNoBadLine
records_have_no_bad_line cells lines es n r bad = elim (cases_lt n (length r.passed)) [
  | inl less ↦ bad.bad.no_outcome
      (none_before cells lines n bad bad.before refl
      (λ k e l h. no_outcome cells (get_or lines k []) e h
      (passed_line cells lines r.passed r.log k r.parts r.outcome (omega (arith, l, less)))))
      (passed_line cells lines r.passed r.log n r.parts r.outcome less)
  | inr past ↦ (
      let within = bad.within in
      let size = ap length r.parts in
      let place : n - length r.passed < length r.log = omega (arith, within, size, past, length-append r.passed r.log) in
      let here : get_or lines n [] ≡ get_or r.log (n - length r.passed) [] =
      ap (λ ls. get_or ls n []) r.parts ∙ get_or-append_right r.passed r.log n [] past in
      let found = line_at cells r.log es (n - length r.passed) r.read place in
      bad.bad.no_event found.0 (subst (λ l. IsLogLine cells l found.0) (sym here) found.1))
]

-- the same bad line, of a prefix of the lines
of_prefix : (cells : List Declaration) (lines : List (List ℕ)) (n m : ℕ) → n < m → m ≤ length lines → IsFirstBadLine cells lines n
    → IsFirstBadLine cells (take m lines) n
of_prefix cells lines n m l within bad =
    let size = length-take-le m lines within in
    record {
      within = omega (arith, size, l);
      before = bad.before;
      record_before = subst (λ ls. IsRecord cells ls bad.before) (sym (take-take n m lines (omega (arith, l)))) bad.record_before;
      bad = subst (CannotFollow cells bad.before) (sym (get_or-take m lines n [] l)) bad.bad;
    }

later_is_none : (cells : List Declaration) (lines : List (List ℕ)) (n m : ℕ) → n < m → IsFirstBadLine cells lines n
    → IsFirstBadLine cells lines m → ⊥
later_is_none cells lines n m l first other =
    let within = other.within in
    records_have_no_bad_line cells (take m lines) other.before n other.record_before
    (of_prefix cells lines n m l (omega (arith, within)) first)

pub texts_have_one_bad_line : TextsHaveOneBadLine
texts_have_one_bad_line cells lines n m first other = elim (cases_lt n m) [
  | inl less ↦ absurd (later_is_none cells lines n m less first other)
  | inr past ↦ elim (cases_lt m n) [
    | inl more ↦ absurd (later_is_none cells lines m n more other first)
    | inr below ↦ omega (arith, past, below)
  ]
]
