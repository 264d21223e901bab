-- If symbols derive a program, the marked symbols are the marks of the program, one by one.
use Rattle.std.proofs.Common.{◌≡◌, ◌∙◌, ap, sym, refl, ℕ, ◌≤◌, ℤ, Bool, true, false, List, [], ◌∷◌, ◌++◌, append_assoc, append-nil, length}
use Rattle.std.proofs.Common.{length-append, map, arith, if◌then◌else◌, ◌==◌, ◌||◌, Option}
use Rattle.std.proofs.lemmas.List.{map-append, length-map}
use Rattle.pipe_model.specs.declared.symbol.Symbol.{Symbol}
use Rattle.pipe_model.specs.declared.symbol.Symbol.TheVariants as symbols
use Rattle.pipe_model.specs.declared.region.Region.TheVariants as regions
use Rattle.pipe_model.specs.declared.tree.Declaration.{Declaration}
use Rattle.pipe_model.specs.Language.Marks as marks
use Rattle.pipe_model.specs.Language.Marks.{Scope, Occurrence, Mark, opening, after_statement, after_block, marks_of_expression}
use Rattle.pipe_model.specs.Language.Marks.{marks_of_statement, marks_of_statements, marks_of_cells, marks_of}
use Rattle.pipe_model.specs.Language.SyntaxTree.{Expression, And, Or, Binary, binary_expression, Statement, Statements, SyntaxTree}
use Rattle.pipe_model.specs.Language.Grammar.{any_expression, Derives, Numeral, Named, Indexed, CallsMore, CallsTake, CallsIter, Negative}
use Rattle.pipe_model.specs.Language.Grammar.{Not, Bracketed, Tighter, Joined, Piece, Single, flat, DerivesStatement, LetIs, AssignIs}
use Rattle.pipe_model.specs.Language.Grammar.{AssignElementIs, EmitIs, IfIs, WhileIs, WaitIs, WaitNextIs, ContinueIs, ContinueNextIs}
use Rattle.pipe_model.specs.Language.Grammar.{DerivesStatements, NoStatement, OneMore, DerivesBlock, BlockIs, DerivesPart, NoPart, PartIs}
use Rattle.pipe_model.specs.Language.Grammar.{DerivesSize, NoSize, SizeIs, DerivesValue, ValueIs, NegativeValueIs, declaration}
use Rattle.pipe_model.specs.Language.Grammar.{DerivesCells, NoCell, CellIs, DerivesProgram, ProgramIs}
use Rattle.pipe_model.specs.Language.Words.{semicolon, equals, close_round, close_square, close_brace}
use Rattle.grammar_laws.proofs.Pieces.{flat_append}

-- ---- the text at a mark

-- a name, `iter`, or the word of a stage statement
pub data MarkText : Type 0 where
  NameText : List ℕ → MarkText
  IterText : MarkText
  StageText : MarkText

-- the text at such an occurrence
abbrev pub text_at : Occurrence → MarkText
text_at (marks.DeclaredCell x size) = NameText x
text_at (marks.DeclaredLocal x) = NameText x
text_at (marks.Plain x) = NameText x
text_at (marks.Indexed x) = NameText x
text_at marks.IterWord = IterText
text_at marks.StageWord = StageText

-- the texts at these marks
abbrev pub texts_of : List Mark → List MarkText
texts_of ms = map (λ (m : Mark). text_at m.occurrence) ms

-- the text of the symbol, if it is a mark
abbrev pub marked_text : Symbol → List MarkText
marked_text (symbols.Name x) = NameText x ∷ []
marked_text (symbols.Word k) = if k == 19 then IterText ∷ [] else (if (k == 9) || (k == 10) then StageText ∷ [] else [])
marked_text (symbols.Number n) = []
marked_text (symbols.Operator code) = []
marked_text (symbols.Sign b) = []

-- the texts of the marked symbols, in order
abbrev pub texts_in : List Symbol → List MarkText
texts_in [] = []
texts_in (t ∷ ts) = marked_text t ++ texts_in ts

-- ---- symbols in order

texts_append : (ts us : List Symbol) → texts_in (ts ++ us) ≡ texts_in ts ++ texts_in us
texts_append [] us = refl
texts_append (t ∷ ts) us = ap (λ x. marked_text t ++ x) (texts_append ts us)
    ∙ sym (append_assoc (marked_text t) (texts_in ts) (texts_in us))

texts_flat : (ps qs : List Piece) → texts_in (flat (ps ++ qs)) ≡ texts_in (flat ps) ++ texts_in (flat qs)
texts_flat ps qs = ap texts_in (flat_append ps qs) ∙ texts_append (flat ps) (flat qs)

-- marks in order
texts_both : (ms ns : List Mark) → texts_of (ms ++ ns) ≡ texts_of ms ++ texts_of ns
texts_both ms ns = map-append (λ (m : Mark). text_at m.occurrence) ms ns

-- symbols without marks at the end
quiet_end : (ts us : List Symbol) → texts_in us ≡ [] → texts_in (ts ++ us) ≡ texts_in ts
quiet_end ts us h = texts_append ts us ∙ ap (λ x. texts_in ts ++ x) h ∙ append-nil (texts_in ts)

-- the marks of two parts are the marks of their symbols
of_both : (ms ns : List Mark) (ts us : List Symbol) → texts_of ms ≡ texts_in ts → texts_of ns ≡ texts_in us
    → texts_of (ms ++ ns) ≡ texts_in (ts ++ us)
of_both ms ns ts us h i = texts_both ms ns ∙ ap (λ x. x ++ texts_of ns) h ∙ ap (λ x. texts_in ts ++ x) i ∙ sym (texts_append ts us)

of_pieces : (ms ns : List Mark) (ps qs : List Piece) → texts_of ms ≡ texts_in (flat ps) → texts_of ns ≡ texts_in (flat qs)
    → texts_of (ms ++ ns) ≡ texts_in (flat (ps ++ qs))
of_pieces ms ns ps qs h i = of_both ms ns (flat ps) (flat qs) h i ∙ ap texts_in (sym (flat_append ps qs))

-- ---- expressions

joined_texts : (code : ℕ) (scope : Scope) (a b : Expression)
    → texts_of (marks_of_expression scope (binary_expression code a b)) ≡ texts_of
    (marks_of_expression scope a ++ marks_of_expression scope b)
joined_texts code scope a b = by_code (code == 1) (code == 2)
  where
    by_code : (p q : Bool) → texts_of (marks_of_expression scope (if p then Or a b else (if q then And a b else Binary code a b)))
        ≡ texts_of (marks_of_expression scope a ++ marks_of_expression scope b)
    by_code true q = refl
    by_code false true = refl
    by_code false false = refl

-- an expression has the marks of its symbols
expression_texts : {level : ℕ} {ts : List Symbol} {e : Expression} (scope : Scope) → Derives level ts e
    → texts_of (marks_of_expression scope e) ≡ texts_in ts
expression_texts scope (Numeral n) = refl
expression_texts scope (Named x) = refl
expression_texts scope (Indexed {inside} x d) = ap (λ r. NameText x ∷ r)
    (expression_texts scope d ∙ sym (quiet_end inside (close_square ∷ []) refl))
expression_texts scope CallsMore = refl
expression_texts scope CallsTake = refl
expression_texts scope CallsIter = refl
expression_texts scope (Negative d) = expression_texts scope d
expression_texts scope (Not d) = expression_texts scope d
expression_texts scope (Bracketed {inside} d) = expression_texts scope d ∙ sym (quiet_end inside (close_round ∷ []) refl)
expression_texts scope (Tighter d) = expression_texts scope d
expression_texts scope (Joined {level} {left} {right} {a} {b} code e x y) =
    joined_texts code scope a b
    ∙ of_both (marks_of_expression scope a) (marks_of_expression scope b) left (symbols.Operator code ∷ right)
    (expression_texts scope x) (expression_texts scope y)

-- an expression followed by symbols without marks, or by other marks
last_texts : {ts : List Symbol} {e : Expression} (scope : Scope) (us : List Symbol) → Derives any_expression ts e → texts_in us ≡ []
    → texts_of (marks_of_expression scope e) ≡ texts_in (ts ++ us)
last_texts {ts} scope us d h = expression_texts scope d ∙ sym (quiet_end ts us h)

front_texts : {ts : List Symbol} {e : Expression} (scope : Scope) (ms : List Mark) (us : List Symbol) → Derives any_expression ts e
    → texts_of ms ≡ texts_in us
    → texts_of (marks_of_expression scope e ++ ms) ≡ texts_in (ts ++ us)
front_texts {ts} {e} scope ms us d h = of_both (marks_of_expression scope e) ms ts us (expression_texts scope d) h

-- ---- statements

mutual
  statement_texts : {ps : List Piece} {s : Statement} (scope : Scope) → DerivesStatement ps s
      → texts_of (marks_of_statement scope s) ≡ texts_in (flat ps)
  statement_texts scope (LetIs x d) = ap (λ r. NameText x ∷ r) (last_texts scope (semicolon ∷ []) d refl)
  statement_texts scope (AssignIs x d) = ap (λ r. NameText x ∷ r) (last_texts scope (semicolon ∷ []) d refl)
  statement_texts scope (AssignElementIs {us} {ts} {index} {e} x i d) =
      ap (λ r. NameText x ∷ r) (front_texts scope (marks_of_expression scope e) (close_square ∷ equals ∷ (ts ++ semicolon ∷ [])) i
      (last_texts scope (semicolon ∷ []) d refl))
  statement_texts scope (EmitIs d) = last_texts scope (semicolon ∷ []) d refl
  statement_texts scope (IfIs {ts} {ps} {qs} {e} {a} {b} d x y) =
      front_texts scope (marks_of_statements scope a ++ marks_of_statements (after_block scope a) b) (close_round ∷ flat (ps ++ qs)) d
      (of_pieces (marks_of_statements scope a) (marks_of_statements (after_block scope a) b) ps qs
      (block_texts scope x) (part_texts (after_block scope a) refl y))
  statement_texts scope (WhileIs {ts} {ps} {e} {a} d x) =
      front_texts scope (marks_of_statements scope a) (close_round ∷ flat ps) d (block_texts scope x)
  statement_texts scope (WaitIs d) = ap (λ r. StageText ∷ r) (last_texts scope (close_round ∷ semicolon ∷ []) d refl)
  statement_texts scope WaitNextIs = refl
  statement_texts scope (ContinueIs d) = ap (λ r. StageText ∷ r) (last_texts scope (close_round ∷ semicolon ∷ []) d refl)
  statement_texts scope ContinueNextIs = refl

  statements_texts : {ps : List Piece} {ss : Statements} (scope : Scope) → DerivesStatements ps ss
      → texts_of (marks_of_statements scope ss) ≡ texts_in (flat ps)
  statements_texts scope NoStatement = refl
  statements_texts scope (OneMore {ps} {qs} {s} {ss} d ds) =
      of_pieces (marks_of_statement scope s) (marks_of_statements (after_statement scope s) ss) ps qs (statement_texts scope d)
      (statements_texts (after_statement scope s) ds)

  block_texts : {ps : List Piece} {ss : Statements} (scope : Scope) → DerivesBlock ps ss → texts_of
      (marks_of_statements scope ss) ≡ texts_in (flat ps)
  block_texts scope (BlockIs {ps} d) =
      statements_texts scope d ∙ sym (ap texts_in (flat_append ps (Single close_brace ∷ [])) ∙ quiet_end (flat ps) (close_brace ∷ []) refl)

  part_texts : {word : ℕ} {ps : List Piece} {ss : Statements} (scope : Scope) → marked_text (symbols.Word word) ≡ []
      → DerivesPart (symbols.Word word) ps ss
      → texts_of (marks_of_statements scope ss) ≡ texts_in (flat ps)
  part_texts scope h NoPart = refl
  part_texts scope h (PartIs {ps = ps} d) = block_texts scope d ∙ sym (ap (λ x. x ++ texts_in (flat ps)) h)

-- ---- programs

size_texts : {ps : List Piece} {size : Option ℤ} → DerivesSize ps size → texts_in (flat ps) ≡ []
size_texts NoSize = refl
size_texts (SizeIs n) = refl

value_texts : {ps : List Piece} {value : ℤ} → DerivesValue ps value → texts_in (flat ps) ≡ []
value_texts (ValueIs n) = refl
value_texts (NegativeValueIs n) = refl

-- pieces without marks at the beginning
quiet_front : (ps qs : List Piece) → texts_in (flat ps) ≡ [] → texts_in (flat qs) ≡ texts_in (flat (ps ++ qs))
quiet_front ps qs h = sym (texts_flat ps qs ∙ ap (λ x. x ++ texts_in (flat qs)) h)

cells_texts : {ps : List Piece} {ds : List Declaration} (before : List Declaration) → DerivesCells ps ds
    → texts_of (marks_of_cells before ds) ≡ texts_in (flat ps)
cells_texts before NoCell = refl
cells_texts before (CellIs {ps} {qs} {rs} {size} {value} x s v c) =
    ap (λ r. NameText x ∷ r)
    (cells_texts (before ++ declaration x size value ∷ []) c ∙ quiet_front qs (Single semicolon ∷ rs) (value_texts v)
    ∙ quiet_front ps (Single equals ∷ (qs ++ Single semicolon ∷ rs)) (size_texts s))

-- a program has the marks of its symbols
pub program_texts : {ps : List Piece} {tree : SyntaxTree} → DerivesProgram ps tree → texts_of (marks_of tree) ≡ texts_in (flat ps)
program_texts (ProgramIs {cs} {is} {bs} {ls} {ts} {cells} {init} {body} {last} {test} iterations stages steps emits c i t b l) =
    of_pieces declared _ cs _ (cells_texts [] c)
    (of_pieces started _ is _ (part_texts (opening regions.Init cells) refl i)
    (front_texts (opening regions.Test cells) (looped ++ ended) (close_round ∷ flat (bs ++ ls)) t
    (of_pieces looped ended bs ls (block_texts (opening regions.Body cells) b) (part_texts (opening regions.Last cells) refl l))))
  where
    declared : List Mark
    declared = marks_of_cells [] cells

    started : List Mark
    started = marks_of_statements (opening regions.Init cells) init

    looped : List Mark
    looped = marks_of_statements (opening regions.Body cells) body

    ended : List Mark
    ended = marks_of_statements (opening regions.Last cells) last

-- ---- the number of marks

few_texts : (ts : List Symbol) → length (texts_in ts) ≤ length ts
few_texts [] = omega arith
few_texts (t ∷ ts) =
    let bounded = few_texts ts in
    let here = at_most_one t in
    let many = length-append (marked_text t) (texts_in ts) in
    omega (arith, bounded, here, many)
  where
    by_word : (p q : Bool) → length (if p then IterText ∷ [] else (if q then StageText ∷ [] else [])) ≤ 1
    by_word true q = omega arith
    by_word false true = omega arith
    by_word false false = omega arith

    at_most_one : (t : Symbol) → length (marked_text t) ≤ 1
    at_most_one (symbols.Name x) = omega arith
    at_most_one (symbols.Word k) = by_word (k == 19) ((k == 9) || (k == 10))
    at_most_one (symbols.Number n) = omega arith
    at_most_one (symbols.Operator code) = omega arith
    at_most_one (symbols.Sign b) = omega arith

-- a program has no more marks than symbols
pub marks_within : {ps : List Piece} {tree : SyntaxTree} → DerivesProgram ps tree → length (marks_of tree) ≤ length (flat ps)
marks_within {ps} {tree} d =
    let same : length (texts_of (marks_of tree)) ≡ length (texts_in (flat ps)) = ap length (program_texts d) in
    let mapped : length (texts_of (marks_of tree)) ≡ length (marks_of tree) = length-map (marks_of tree)
    (λ (m : Mark). text_at m.occurrence) in
    let bounded = few_texts (flat ps) in
    omega (arith, same, mapped, bounded)
