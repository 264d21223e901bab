-- The names of the cells of an accepted source: words that are not reserved, each declared once.
use Rattle.std.proofs.Common.{◌≡◌, ◌∙◌, ap, sym, subst, refl, arith, inl, inr, ℕ, ℤ, pos, zero, suc, ◌-◌, ◌<◌, ◌≤◌, ◌^◌, List, [], ◌∷◌}
use Rattle.std.proofs.Common.{◌++◌, Bool, true, false, Option, Some, None, nat_lt, if◌then◌else◌}
use Rattle.std.specs.Prelude.{codes, is_some, position}
use Rattle.std.specs.Fmt.{decimal}
use Rattle.std.specs.List.{list_all}
use Rattle.std.specs.Str.{bytes_eq}
use Rattle.std.proofs.lemmas.Bool.{cases_lt}
use Rattle.std.proofs.lemmas.Fmt.{decimal_injective}
use Rattle.std.proofs.lemmas.List.{append_cancel_right}
use Rattle.std.proofs.lemmas.Slice.Eq.{bytes_eq-Decides}
use mathlib.Core.List.{append-nil}
use Rattle.pipe_model.specs.declared.symbol.Symbol.TheVariants as symbols
use Rattle.pipe_model.specs.declared.tree.Declaration.{Declaration}
use Rattle.pipe_model.specs.Language.CheckingRules.{cell_total, is_cell, size_in}
use Rattle.pipe_model.specs.Language.Lexis.{is_digit, is_letter, is_name_byte, number_of, operators, punctuation_symbol, symbol_of}
use Rattle.pipe_model.specs.Language.Lexis.{word_symbol}
use Rattle.pipe_model.specs.Language.Programs.{declared_size}
use Rattle.pipe_model.specs.Language.SourceRefusals.{IsAccepted}
use Rattle.pipe_model.specs.Language.SyntaxTree.{SyntaxTree}
use Rattle.pipe_model.specs.Language.Tokens.{symbols_in}
use Rattle.grammar_laws.proofs.CanonicalSymbols.{AreWritableCells, IsName}
use Rattle.grammar_laws.proofs.TokenLaws.{no_name}
use Rattle.grammar_laws.proofs.WritablePrograms.{writable_program}
use Rattle.grammar_laws.proofs.Writings.{IsWritingOf}
use Rattle.language_laws.proofs.SpellablePrograms.{spelled_is_spellable}
use Rattle.stage_code.specs.CellRanges.{AreNew}
use Rattle.stage_code.proofs.Lowering.{ready}
use Rattle.race_report.specs.CellNames.{cell_name, declared_name, element_index, element_name}
use Rattle.record_parser.specs.ByteDivisions.{IsFreeOf}
use Rattle.record_parser.proofs.PlainNames.{HasPlainNames}
use Rattle.record_parser.specs.RecordLines.{IsCell, line_feed}
use Rattle.record_parser.proofs.DeclaredNames.{own_name}
use Rattle.record_parser.proofs.Divisions.{free_append, free_cons, never_divided, one_first}
use Rattle.record_parser.proofs.FreeFields.{decimal_free, free_by, free_by_test}

-- ---- names of a source

name_bytes : (x : List ℕ) → symbol_of x ≡ Some (symbols.Name x) → list_all is_name_byte x ≡ true
name_bytes [] t = refl
name_bytes (b ∷ bs) t = by (is_letter b) refl (list_all is_name_byte bs) refl (is_digit b) (list_all is_digit bs) t
  where
    by : (letter : Bool) → is_letter b ≡ letter → (named : Bool) → list_all is_name_byte bs ≡ named → (digit numbered : Bool)
        → (if letter then (if named then Some (word_symbol (b ∷ bs)) else None)
        else (if digit then (if numbered then Some (symbols.Number (pos (number_of (b ∷ bs)))) else None) else punctuation_symbol (b ∷ bs)))
        ≡ Some (symbols.Name (b ∷ bs))
        → list_all is_name_byte (b ∷ bs) ≡ true
    by true e true f d n h = rw (e, f) refl
    by true e false f d n h = absurd (cc)
    by false e named f true true h = absurd (cc)
    by false e named f true false h = absurd (cc)
    by false e named f false n h = absurd (no_name (position (λ operator. bytes_eq operator (b ∷ bs)) operators) (b ∷ bs) (b ∷ bs) h)

no_input : (x : List ℕ) → symbol_of x ≡ Some (symbols.Name x) → x ≡ codes "input" → ⊥
no_input x h e = (let word : symbol_of (codes "input") ≡ Some (symbols.Word 20) = refl in let z : Some (symbols.Word 20) ≡ Some
    (symbols.Name x) = sym word ∙ ap symbol_of (sym e) ∙ h in absurd (cc))

no_output : (x : List ℕ) → symbol_of x ≡ Some (symbols.Name x) → x ≡ codes "output" → ⊥
no_output x h e = (let word : symbol_of (codes "output") ≡ Some (symbols.Word 21) = refl in
    let z : Some (symbols.Word 21) ≡ Some (symbols.Name x) = sym word ∙ ap symbol_of (sym e) ∙ h in absurd (cc))

name_free : (b : ℕ) (x : List ℕ) → is_name_byte b ≡ false → IsName x → IsFreeOf b x
name_free b x other h = free_by is_name_byte b x other (name_bytes x h.symbol)

-- ---- elements

element_free : (d : Declaration) (k : ℕ) → k < 2 ^ 64 → IsName d.name → IsFreeOf line_feed (element_name d k)
element_free d k small h = free_append line_feed d.name (element_index d.size k) (name_free line_feed d.name refl h) (by d.size)
  where
    by : (size : Option ℤ) → IsFreeOf line_feed (element_index size k)
    by None = free_by_test line_feed [] refl
    by (Some n) = free_cons line_feed 91 (decimal k ++ codes "]") (λ e. omega (arith, e))
        (free_append line_feed (decimal k) (codes "]") (decimal_free line_feed k small (λ r. (let low = r.0 in omega (arith, low))))
        (free_by_test line_feed (codes "]") refl))

-- no element is named by a reserved word
no_word : (word : List ℕ) → IsFreeOf 91 word → (x : List ℕ) → (x ≡ word → ⊥) → (size : Option ℤ) (k : ℕ) → x ++ element_index size k ≡ word
    → ⊥
no_word word free x apart None k e = apart (sym (append-nil x) ∙ e)
no_word word free x apart (Some n) k e = never_divided 91 word x (decimal k ++ codes "]") free (sym e)

record SameElement (x y : List ℕ) (k l : ℕ) : Type 0 where
  names : x ≡ y
  places : k ≡ l

one_element : (x y : List ℕ) (s t : Option ℤ) (k l : ℕ) → IsFreeOf 91 x → IsFreeOf 91 y → k < declared_size s → l < declared_size t
    → k < 2 ^ 64 → l < 2 ^ 64
    → x ++ element_index s k ≡ y ++ element_index t l → SameElement x y k l
one_element x y None None k l f g w v p q e = record { names = sym (append-nil x) ∙ e ∙ append-nil y; places = omega (arith, w, v) }
one_element x y None (Some n) k l f g w v p q e = absurd (never_divided 91 x y (decimal l ++ codes "]") f (sym (append-nil x) ∙ e))
one_element x y (Some m) None k l f g w v p q e = absurd (never_divided 91 y x (decimal k ++ codes "]") g (sym (e ∙ append-nil y)))
one_element x y (Some m) (Some n) k l f g w v p q e =
    let parts = one_first 91 x y (decimal k ++ codes "]") (decimal l ++ codes "]") f g e in
    record { names = parts.0; places = decimal_injective k l p q (append_cancel_right (decimal k) (decimal l) (codes "]") parts.1) }

-- ---- declarations

later_name : (d : Declaration) (ds : List Declaration) (k : ℕ) → declared_size d.size ≤ k → declared_name (d ∷ ds) k ≡ declared_name ds
    (k - declared_size d.size)
later_name d ds k l =
    let t : nat_lt k (declared_size d.size) ≡ false = grind (arith, l) in
    rw t refl

is_cell_more : (before : List Declaration) (d : Declaration) (x : List ℕ) → is_cell before x ≡ true → is_cell (before ++ d ∷ []) x ≡ true
is_cell_more [] d x h = absurd (cc)
is_cell_more (b ∷ bs) d x h = by (bytes_eq b.name x) (is_cell_more bs d x) h
  where
    by : (t : Bool) → (is_cell bs x ≡ true → is_cell (bs ++ d ∷ []) x ≡ true) → is_some (if t then Some b.size else size_in bs x) ≡ true
        → is_some (if t then Some b.size else size_in (bs ++ d ∷ []) x) ≡ true
    by true more h = refl
    by false more h = more h

is_cell_own : (before : List Declaration) (d : Declaration) → is_cell (before ++ d ∷ []) d.name ≡ true
is_cell_own [] d = rw (same d.name) refl
  where
    same : (x : List ℕ) → bytes_eq x x ≡ true
    same x = (bytes_eq-Decides x x).1 refl
is_cell_own (b ∷ bs) d = by (bytes_eq b.name d.name) (is_cell_own bs d)
  where
    by : (t : Bool) → is_cell (bs ++ d ∷ []) d.name ≡ true → is_some (if t then Some b.size else size_in (bs ++ d ∷ []) d.name) ≡ true
    by true more = refl
    by false more = more

-- no later cell has the name of an element of an earlier declaration
no_later : (before ds : List Declaration) (d : Declaration) (k l : ℕ) → AreNew before ds → AreWritableCells ds → IsName d.name
    → is_cell before d.name ≡ true
    → k < declared_size d.size → k < 2 ^ 64 → l < cell_total ds → cell_total ds < 2 ^ 64 → element_name d k ≡ declared_name ds l → ⊥
no_later before [] d k l new names h own w small v bounded e = omega (arith, v)
no_later before (x ∷ ds) d k l new names h own w small v bounded e = elim (cases_lt l (declared_size x.size)) [
  | inl less ↦ (
      let same = one_element d.name x.name d.size x.size k l (name_free 91 d.name refl h) (name_free 91 x.name refl names.0) w less small
      (omega (arith, v, bounded))
      (e ∙ own_name x ds l less) in
      let z : true ≡ false = sym own ∙ ap (is_cell before) same.names ∙ new.0 in
      absurd (cc))
  | inr past ↦ no_later (before ++ x ∷ []) ds d k (l - declared_size x.size) new.1 names.3 h (is_cell_more before x d.name own) w small
      (omega (arith, v, past)) (omega (arith, bounded)) (e ∙ later_name x ds l past)
]

one_declared : (before ds : List Declaration) (k l : ℕ) → AreNew before ds → AreWritableCells ds → k < cell_total ds → l < cell_total ds
    → cell_total ds < 2 ^ 64
    → declared_name ds k ≡ declared_name ds l → k ≡ l
one_declared before [] k l new names w v bounded e = absurd (omega (arith, w))
one_declared before (d ∷ ds) k l new names w v bounded e = elim (cases_lt k (declared_size d.size)) [
  | inl less ↦ elim (cases_lt l (declared_size d.size)) [
    | inl also ↦ (one_element d.name d.name d.size d.size k l (name_free 91 d.name refl names.0)
        (name_free 91 d.name refl names.0) less also
        (omega (arith, w, bounded)) (omega (arith, v, bounded)) (sym (own_name d ds k less) ∙ e ∙ own_name d ds l also)).places
    | inr past ↦ absurd (no_later (before ++ d ∷ []) ds d k (l - declared_size d.size) new.1 names.3 names.0 (is_cell_own before d) less
        (omega (arith, w, bounded))
        (omega (arith, v, past)) (omega (arith, bounded)) (sym (own_name d ds k less) ∙ e ∙ later_name d ds l past))
  ]
  | inr past ↦ elim (cases_lt l (declared_size d.size)) [
    | inl also ↦ absurd (no_later (before ++ d ∷ []) ds d l (k - declared_size d.size) new.1 names.3 names.0 (is_cell_own before d) also
        (omega (arith, v, bounded))
        (omega (arith, w, past)) (omega (arith, bounded)) (sym (own_name d ds l also) ∙ sym e ∙ later_name d ds k past))
    | inr beyond ↦ (
        let rest = one_declared (before ++ d ∷ []) ds (k - declared_size d.size) (l - declared_size d.size) new.1 names.3
        (omega (arith, w, past)) (omega (arith, v, beyond))
        (omega (arith, bounded)) (sym (later_name d ds k past) ∙ e ∙ later_name d ds l beyond) in
        omega (arith, rest, past, beyond))
  ]
]

declared_free : (ds : List Declaration) (k : ℕ) → AreWritableCells ds → k < cell_total ds → cell_total ds < 2 ^ 64
    → IsFreeOf line_feed (declared_name ds k)
declared_free [] k names w bounded = absurd (omega (arith, w))
declared_free (d ∷ ds) k names w bounded = elim (cases_lt k (declared_size d.size)) [
  | inl less ↦ subst (IsFreeOf line_feed) (sym (own_name d ds k less)) (element_free d k (omega (arith, w, bounded)) names.0)
  | inr past ↦ subst (IsFreeOf line_feed) (sym (later_name d ds k past))
      (declared_free ds (k - declared_size d.size) names.3 (omega (arith, w, past)) (omega (arith, bounded)))
]

no_reserved : (word : List ℕ) → IsFreeOf 91 word → ((x : List ℕ) → symbol_of x ≡ Some (symbols.Name x) → x ≡ word → ⊥)
    → (ds : List Declaration) (k : ℕ) → AreWritableCells ds
    → k < cell_total ds → declared_name ds k ≡ word → ⊥
no_reserved word free apart [] k names w e = omega (arith, w)
no_reserved word free apart (d ∷ ds) k names w e = elim (cases_lt k (declared_size d.size)) [
  | inl less ↦ no_word word free d.name (apart d.name names.0.symbol) d.size k (sym (own_name d ds k less) ∙ e)
  | inr past ↦ no_reserved word free apart ds (k - declared_size d.size) names.3 (omega (arith, w, past)) (sym (later_name d ds k past) ∙ e)
]

-- ---- cells

plain_names : (ds : List Declaration) → AreNew [] ds → AreWritableCells ds → cell_total ds ≤ 65536 → HasPlainNames ds
plain_names ds new names bounded = record { distinct = distinct; free = free }
  where
    input_free : IsFreeOf 91 (codes "input")
    input_free = free_by_test 91 (codes "input") refl

    output_free : IsFreeOf 91 (codes "output")
    output_free = free_by_test 91 (codes "output") refl

    input_differs : codes "input" ≡ codes "output" → ⊥
    input_differs e = (let z : true ≡ false = ap (λ l. bytes_eq l (codes "input")) e in absurd (cc))

    distinct : (c d : ℕ) → IsCell ds c → IsCell ds d → cell_name ds c ≡ cell_name ds d → c ≡ d
    distinct zero zero p q e = refl
    distinct zero (suc zero) p q e = absurd (input_differs e)
    distinct zero (suc (suc l)) p q e = absurd (no_reserved (codes "input") input_free no_input ds l names (omega (arith, q)) (sym e))
    distinct (suc zero) zero p q e = absurd (input_differs (sym e))
    distinct (suc zero) (suc zero) p q e = refl
    distinct (suc zero) (suc (suc l)) p q e = absurd (no_reserved (codes "output") output_free no_output ds l names (omega (arith, q))
        (sym e))
    distinct (suc (suc k)) zero p q e = absurd (no_reserved (codes "input") input_free no_input ds k names (omega (arith, p)) e)
    distinct (suc (suc k)) (suc zero) p q e = absurd (no_reserved (codes "output") output_free no_output ds k names (omega (arith, p)) e)
    distinct (suc (suc k)) (suc (suc l)) p q e =
        ap (λ n. suc (suc n)) (one_declared [] ds k l new names (omega (arith, p)) (omega (arith, q)) (omega (arith, bounded)) e)

    free : (c : ℕ) → IsCell ds c → IsFreeOf line_feed (cell_name ds c)
    free zero p = free_by_test line_feed (codes "input") refl
    free (suc zero) p = free_by_test line_feed (codes "output") refl
    free (suc (suc k)) p = declared_free ds k names (omega (arith, p)) (omega (arith, bounded))

pub accepted_names : (source : List ℕ) (tree : SyntaxTree) → IsAccepted source tree → HasPlainNames tree.cells
accepted_names source tree h =
    let s = h.spelled in
    let of : IsWritingOf source (symbols_in source s.tokens) = record { tokens = s.tokens; lexed = s.lexed; same = refl } in
    let written = writable_program source (symbols_in source s.tokens) s.spelled.pieces tree of s.spelled.split s.spelled.derived in
    let prepared = ready tree (spelled_is_spellable source tree s) h.obeys in
    let bounded = prepared.bounded in
    plain_names tree.cells prepared.new written.cells (omega (arith, bounded))
