-- A line is the text of one event, and of no outcome.
use Rattle.std.proofs.Common.{◌≡◌, ◌∙◌, ap, ap₂, sym, subst, refl, arith, inl, inr, ℕ, ℤ, ◌<◌, List, ◌∷◌, ◌++◌, true, FitsSigned, length}
use Rattle.std.proofs.Common.{get_or, if◌then◌else◌}
use Rattle.std.specs.Prelude.{codes}
use Rattle.std.specs.Fmt.{decimal, signed_decimal}
use Rattle.std.specs.Str.{bytes_eq}
use Rattle.std.proofs.lemmas.Fmt.{signed_decimal_injective}
use mir.Syntax.{w64}
use Rattle.pipe_model.specs.declared.access.Access.{Access as Cell_access}
use Rattle.pipe_model.specs.declared.access.AccessKind.TheVariants as kinds
use Rattle.pipe_model.specs.declared.column.ColumnEnd.TheVariants as ends
use Rattle.pipe_model.specs.declared.event.Event.{Event}
use Rattle.pipe_model.specs.declared.event.Event.TheVariants as events
use Rattle.pipe_model.specs.declared.trap.Trap.{Trap as Trap_name}
use Rattle.pipe_model.specs.declared.trap.Trap.TheVariants as traps
use Rattle.pipe_model.specs.declared.tree.Declaration.{Declaration}
use Rattle.pipe_model.specs.declared.tree.StageKind.TheVariants as stages
use Rattle.pipe_model.specs.Language.SyntaxTree.{kind_of_stage}
use Rattle.pipe_model.specs.Texts.{trap_name}
use Rattle.race_report.specs.CellNames.{cell_name}
use Rattle.record_parser.specs.ByteDivisions.{IsFreeOf}
use Rattle.record_parser.specs.LogForms.{Accesses, Advances, Begins, Closes, Ends, Enters, HasFields, Traps, space, word_text}
use Rattle.record_parser.specs.OutcomeForms.{IsOutcomeTrapText, IsWordedOutcome, RaceLine, TrapLine}
use Rattle.record_parser.proofs.PlainNames.{HasPlainNames}
use Rattle.record_parser.specs.RecordLines.{IsIteration, IsLogLine, IsOutcomeLine}
use Rattle.record_parser.specs.declared.log_word.LogWord.{LogWord}
use Rattle.record_parser.specs.declared.log_word.LogWord.TheVariants as words
use Rattle.record_parser.proofs.Divisions.{at_first, at_last, never_divided}
use Rattle.record_parser.proofs.FreeFields.{free_by_test, iteration_free, no_digit, no_sign, signed_free, trap_free, word_free}
use Rattle.record_parser.proofs.LogLines.{divided, one_word}
use Rattle.record_parser.proofs.OutcomeLines.{worded}
use Rattle.record_parser.proofs.PlainDecimals.{value_is}
use Rattle.pipe_model.specs.Language.Lexis.{number_of}

-- ---- fields

one_iteration : (i j : ℕ) → IsIteration i → IsIteration j → decimal i ≡ decimal j → i ≡ j
one_iteration i j h g e =
    let a = value_is i (omega (arith, h)) in
    let b = value_is j (omega (arith, g)) in
    sym a ∙ ap number_of e ∙ b

one_number : (m n : ℤ) → FitsSigned w64 m → FitsSigned w64 n → signed_decimal m ≡ signed_decimal n → m ≡ n
one_number m n f g e = signed_decimal_injective m n (let small = f.sfits in omega (arith, small))
    (let small = g.sfits in omega (arith, small)) e

-- the trap with this name
abbrev trap_of : List ℕ → Trap_name
trap_of bs =
    if bytes_eq bs (codes "Overflow") then traps.Overflow else (if bytes_eq bs (codes "DivZero") then traps.DivZero else (
    if bytes_eq bs (codes "Index") then traps.Index else (if bytes_eq bs (codes "Budget") then traps.Budget else (
    if bytes_eq bs (codes "StageOrder") then traps.StageOrder else (if bytes_eq bs (codes "StageLimit") then traps.StageLimit else (
    if bytes_eq bs (codes "InputEnd") then traps.InputEnd
    else (if bytes_eq bs (codes "IterLimit") then traps.IterLimit else traps.OutputLimit)))))))

trap_back : (t : Trap_name) → trap_of (trap_name t) ≡ t
trap_back traps.Overflow = refl
trap_back traps.DivZero = refl
trap_back traps.Index = refl
trap_back traps.Budget = refl
trap_back traps.StageOrder = refl
trap_back traps.StageLimit = refl
trap_back traps.InputEnd = refl
trap_back traps.IterLimit = refl
trap_back traps.OutputLimit = refl

one_trap : (s t : Trap_name) → trap_name s ≡ trap_name t → s ≡ t
one_trap s t e = sym (trap_back s) ∙ ap trap_of e ∙ trap_back t

-- ---- events

-- fields after an iteration
after_iteration : (fields xs ys : List ℕ) (i j : ℕ) → IsIteration i → IsIteration j → fields ≡ decimal i ++ space ∷ xs
    → fields ≡ decimal j ++ space ∷ ys → (i ≡ j) × (xs ≡ ys)
after_iteration fields xs ys i j h g e f =
    let parts = at_first space fields (decimal i) xs (decimal j) ys e (iteration_free space i h no_digit) f
    (iteration_free space j g no_digit) in
    (one_iteration i j h g parts.0, parts.1)

one_fields : (cells : List Declaration) (fields : List ℕ) (w : LogWord) (e f : Event) → HasPlainNames cells → HasFields cells fields w e
    → HasFields cells fields w f → e ≡ f
one_fields cells fields w e f plain (Begins i r p) (Begins j q o) = ap events.Begin (one_iteration i j r q (sym p ∙ o))
one_fields cells fields w e f plain (Enters i r p) (Enters j q o) = ap events.Enter (one_iteration i j r q (sym p ∙ o))
one_fields cells fields w e f plain (Ends i r p) (Ends j q o) = ap (λ n. events.Finish n ends.End) (one_iteration i j r q (sym p ∙ o))
one_fields cells fields w e f plain (Closes i r p) (Closes j q o) = ap (λ n. events.Finish n ends.Closed)
    (one_iteration i j r q (sym p ∙ o))
one_fields cells fields w e f plain (Traps i t h) (Traps j u g) =
    let parts = after_iteration fields (trap_name t) (trap_name u) i j h.0 g.0 h.1 g.1 in
    ap₂ (λ n (x : Trap_name). events.Finish n (ends.Trapped x)) parts.0 (one_trap t u parts.1)
one_fields cells fields w e f plain (Accesses kind i c v h) (Accesses same j d x g) =
    let rest = cell_name cells c ++ space ∷ signed_decimal v in
    let parts = after_iteration fields rest (cell_name cells d ++ space ∷ signed_decimal x) i j h.0 g.0 h.1.1.1 g.1.1.1 in
    let more = at_last space rest (cell_name cells c) (signed_decimal v) (cell_name cells d) (signed_decimal x) refl
    (signed_free space v h.1.1.0 no_digit no_sign)
    parts.1 (signed_free space x g.1.1.0 no_digit no_sign) in
    let cell : c ≡ d = plain.distinct c d h.1.0 g.1.0 more.0 in
    let value : v ≡ x = one_number v x h.1.1.0 g.1.1.0 more.1 in
    let iteration : i ≡ j = parts.0 in
    ap₂ (λ n (a : Cell_access). events.Access n a) iteration
    (ap₂ (λ (k : ℕ) (z : ℤ). record { cell = record { 0 = k }; kind = kind; value = z }) cell value)
one_fields cells fields w e f plain (Advances kind i n h) (Advances same j m g) =
    let parts = after_iteration fields (signed_decimal n) (signed_decimal m) i j h.0 g.0 h.1.1 g.1.1 in
    ap₂ (λ k (z : ℤ). events.Advance k (kind_of_stage kind) z) parts.0 (one_number n m h.1.0 g.1.0 parts.1)

stop_free : IsFreeOf space (codes "stop")
stop_free = free_by_test space (codes "stop") refl

-- a line that is one word is not divided
not_stop : (line word fields : List ℕ) → line ≡ codes "stop" → line ≡ word ++ space ∷ fields → ⊥
not_stop line word fields s e = never_divided space (codes "stop") word fields stop_free (sym s ∙ e)

pub one_event : (cells : List Declaration) (line : List ℕ) (e f : Event) → HasPlainNames cells → IsLogLine cells line e
    → IsLogLine cells line f → e ≡ f
one_event cells line e f plain h g = elim (divided cells line e h) [
  | inl s ↦ elim (divided cells line f g) [
    | inl t ↦ s.0 ∙ sym t.0
    | inr d ↦ absurd (not_stop line (word_text d.word) d.fields s.1 d.text)
  ]
  | inr d ↦ elim (divided cells line f g) [
    | inl t ↦ absurd (not_stop line (word_text d.word) d.fields t.1 d.text)
    | inr b ↦ (
        let parts = at_first space line (word_text d.word) d.fields (word_text b.word) b.fields d.text (word_free space d.word refl) b.text
        (word_free space b.word refl) in
        let word : d.word ≡ b.word = one_word d.word b.word parts.0 in
        one_fields cells b.fields b.word e f plain
        (subst (λ w. HasFields cells b.fields w e) word (subst (λ x. HasFields cells x d.word e) parts.1 d.has)) b.has)
  ]
]

-- ---- no outcome

no_race_word : (w : LogWord) → word_text w ≡ codes "race" → ⊥
no_race_word w e = by w (ap (λ l. bytes_eq l (codes "race")) e)
  where
    by : (w : LogWord) → bytes_eq (word_text w) (codes "race") ≡ true → ⊥
    by words.Begin z = absurd (cc)
    by words.Enter z = absurd (cc)
    by words.End z = absurd (cc)
    by words.Closed z = absurd (cc)
    by words.Trap z = absurd (cc)
    by (words.Access kinds.Read) z = absurd (cc)
    by (words.Access kinds.Write) z = absurd (cc)
    by (words.Stage stages.Wait) z = absurd (cc)
    by (words.Stage stages.Continue) z = absurd (cc)

-- no number begins with a letter
no_number : (b i : ℕ) (text : List ℕ) → IsIteration i → 57 < b → get_or text 0 0 ≡ b → 0 < length text → decimal i ≡ text → ⊥
no_number b i text h letter first some e =
    (subst (IsFreeOf b) e (iteration_free b i h (λ r. (let high = r.1 in omega (arith, high, letter))))) 0 0 some first

no_trap_number : (i : ℕ) (t : Trap_name) → IsIteration i → decimal i ≡ trap_name t → ⊥
no_trap_number i traps.Overflow h e = no_number 79 i (trap_name traps.Overflow) h (omega arith) refl (omega arith) e
no_trap_number i traps.DivZero h e = no_number 68 i (trap_name traps.DivZero) h (omega arith) refl (omega arith) e
no_trap_number i traps.Index h e = no_number 73 i (trap_name traps.Index) h (omega arith) refl (omega arith) e
no_trap_number i traps.Budget h e = no_number 66 i (trap_name traps.Budget) h (omega arith) refl (omega arith) e
no_trap_number i traps.StageOrder h e = no_number 83 i (trap_name traps.StageOrder) h (omega arith) refl (omega arith) e
no_trap_number i traps.StageLimit h e = no_number 83 i (trap_name traps.StageLimit) h (omega arith) refl (omega arith) e
no_trap_number i traps.InputEnd h e = no_number 73 i (trap_name traps.InputEnd) h (omega arith) refl (omega arith) e
no_trap_number i traps.IterLimit h e = no_number 73 i (trap_name traps.IterLimit) h (omega arith) refl (omega arith) e
no_trap_number i traps.OutputLimit h e = no_number 79 i (trap_name traps.OutputLimit) h (omega arith) refl (omega arith) e

no_trap_fields : (cells : List Declaration) (fields : List ℕ) (e : Event) → HasFields cells fields words.Trap e → IsOutcomeTrapText fields
    → ⊥
no_trap_fields cells fields e (Traps i t h) g =
    let parts = at_first space fields (decimal i) (trap_name t) (trap_name g.trap) g.place h.1 (iteration_free space i h.0 no_digit) g.is
    (trap_free space g.trap refl) in
    no_trap_number i g.trap h.0 parts.0

no_output : (cells : List Declaration) (line : List ℕ) (e : Event) (v : ℤ) → IsLogLine cells line e → FitsSigned w64 v
    → line ≡ signed_decimal v → ⊥
no_output cells line e v h f is = elim (divided cells line e h) [
  | inl s ↦ (subst (IsFreeOf 115) (sym is ∙ s.1) (signed_free 115 v f (λ r. (let high = r.1 in omega (arith, high)))
      (λ z. omega (arith, z)))) 0 0 (omega arith) refl
  | inr d ↦ never_divided space (signed_decimal v) (word_text d.word) d.fields (signed_free space v f no_digit no_sign) (sym is ∙ d.text)
]

no_worded : (cells : List Declaration) (line : List ℕ) (e : Event) → IsLogLine cells line e → IsWordedOutcome cells line → ⊥
no_worded cells line e h (RaceLine text r is) = elim (divided cells line e h) [
  | inl s ↦ not_stop line (codes "race") text s.1 is
  | inr d ↦ no_race_word d.word
      (at_first space line (word_text d.word) d.fields (codes "race") text d.text (word_free space d.word refl) is
      (free_by_test space (codes "race") refl)).0
]
no_worded cells line e h (TrapLine text t is) = elim (divided cells line e h) [
  | inl s ↦ not_stop line (codes "trap") text s.1 is
  | inr d ↦ (
      let parts = at_first space line (word_text d.word) d.fields (codes "trap") text d.text (word_free space d.word refl) is
      (free_by_test space (codes "trap") refl) in
      let word : d.word ≡ words.Trap = one_word d.word words.Trap parts.0 in
      no_trap_fields cells d.fields e (subst (λ w. HasFields cells d.fields w e) word d.has) (subst IsOutcomeTrapText (sym parts.1) t))
]

-- the line of an event is no line of an outcome
pub no_outcome : (cells : List Declaration) (line : List ℕ) (e : Event) → IsLogLine cells line e → IsOutcomeLine cells line → ⊥
no_outcome cells line e h o = no_worded cells line e h (worded cells line (λ v f is. no_output cells line e v h f is) o)
