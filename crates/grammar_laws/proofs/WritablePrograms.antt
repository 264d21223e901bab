-- A program that some source spells can be written: each of its names, numbers and operators belongs to a symbol.
use Rattle.std.proofs.Common.{◌≡◌, ◌∙◌, ap, sym, refl, subst, ℕ, zero, suc, ◌-◌, ◌<◌, ◌≤◌, ◌^◌, ◌≤ℤ◌, ℤ, pos, Bool, true, false, List, []}
use Rattle.std.proofs.Common.{◌∷◌, ◌++◌, ◌==◌, inl, inr, Option, Some, None, arith, cond, position, if◌then◌else◌, All, drop}
use Rattle.std.proofs.Math.IntN.{neg_ℤ}
use Rattle.std.specs.List.{list_all}
use Rattle.std.specs.Str.{bytes_eq}
use Rattle.std.proofs.lemmas.Bool.Decides.{nat_tests}
use Rattle.std.proofs.lemmas.Int.{ints}
use Rattle.std.proofs.lemmas.List.Elements.{All-head, All-tail}
use Rattle.pipe_model.specs.declared.symbol.Symbol.{Symbol}
use Rattle.pipe_model.specs.declared.symbol.Symbol.TheVariants as symbols
use Rattle.pipe_model.specs.declared.token.Token.{Token}
use Rattle.pipe_model.specs.declared.tree.Declaration.{Declaration}
use Rattle.grammar_laws.proofs.CanonicalSymbols.{IsName, IsNumeral, Numeral, IsDeclaredValue, Positive, Negative, IsWritable}
use Rattle.grammar_laws.proofs.CanonicalSymbols.{IsWritableStatement, AreWritable, IsWritableSize, AreWritableCells, IsWritableProgram}
use Rattle.pipe_model.specs.Language.Lexis.{is_letter, is_digit, is_name_byte, number_of, reserved_words, operators, is_sign, word_or_name}
use Rattle.pipe_model.specs.Language.Lexis.{operator_or_sign, word_symbol, punctuation_symbol, symbol_of}
use Rattle.pipe_model.specs.Language.SyntaxTree.{Expression, Or, And, Binary, binary_expression, Statement, Statements, SyntaxTree}
use Rattle.pipe_model.specs.Language.Tokens.{Scans, Stops, Blank, Comment, Taken, IsTokenWithinBounds, token_at, symbols_in}
use Rattle.pipe_model.specs.Language.Grammar as grammar
use Rattle.pipe_model.specs.Language.Grammar.{any_expression, level_of, Derives, Piece, Single, FullExpression, flat, DerivesStatement}
use Rattle.pipe_model.specs.Language.Grammar.{DerivesStatements, DerivesBlock, DerivesPart, DerivesSize, DerivesValue, DerivesCells}
use Rattle.pipe_model.specs.Language.Grammar.{DerivesProgram}
use Rattle.grammar_laws.proofs.Pieces.{flat_append}
use Rattle.grammar_laws.proofs.TokenLaws.{IsWithinBounds, after_front, bounded_symbol, name_is_text}
use Rattle.grammar_laws.proofs.Writings.{IsWritingOf, token_is_symbol}

-- ---- symbols

-- if the symbol is a name or a number, it can be written
abbrev pub IsGood : Symbol → Type 0
IsGood (symbols.Name x) = IsName x
IsGood (symbols.Word k) = Unit {0}
IsGood (symbols.Number z) = IsNumeral z
IsGood (symbols.Operator code) = Unit {0}
IsGood (symbols.Sign b) = Unit {0}

pub data AreGood : List Symbol → Type 0 where
  None' : AreGood []
  OneMore' : {t : Symbol} {ts : List Symbol} → IsGood t → AreGood ts → AreGood (t ∷ ts)

first : {t : Symbol} {ts : List Symbol} → AreGood (t ∷ ts) → IsGood t
first (OneMore' g gs) = g

others : {t : Symbol} {ts : List Symbol} → AreGood (t ∷ ts) → AreGood ts
others (OneMore' g gs) = gs

front : (ts us : List Symbol) → AreGood (ts ++ us) → AreGood ts
front [] us g = None'
front (t ∷ ts) us g = OneMore' (first g) (front ts us (others g))

back : (ts us : List Symbol) → AreGood (ts ++ us) → AreGood us
back [] us g = g
back (t ∷ ts) us g = back ts us (others g)

-- the text of a number gives a natural number
is_natural : (text : List ℕ) (z : ℤ) → symbol_of text ≡ Some (symbols.Number z) → (n : ℕ) × (z ≡ pos n)
is_natural [] z e = (let none : None ≡ Some (symbols.Number z) = e in cc (none))
is_natural (b ∷ bs) z e = by_kind (is_letter b) (list_all is_name_byte bs) (is_digit b) (list_all is_digit bs) e
  where
    no_word : (o : Option ℕ) → Some (word_or_name o (b ∷ bs)) ≡ Some (symbols.Number z) → (n : ℕ) × (z ≡ pos n)
    no_word (Some k) h = cc (h)
    no_word None h = cc (h)

    no_sign : (t : Bool) (c : ℕ) → cond t (Some (symbols.Sign c)) None ≡ Some (symbols.Number z) → (n : ℕ) × (z ≡ pos n)
    no_sign true c h = cc (h)
    no_sign false c h = cc (h)

    no_punctuation : (o : Option ℕ) (text : List ℕ) → operator_or_sign o text ≡ Some (symbols.Number z) → (n : ℕ) × (z ≡ pos n)
    no_punctuation (Some k) text h = cc (h)
    no_punctuation None [] h = cc (h)
    no_punctuation None (c ∷ []) h = no_sign (is_sign c) c h
    no_punctuation None (c ∷ d ∷ cs) h = cc (h)

    by_kind : (letter named digit numbered : Bool)
        → cond letter (cond named (Some (word_symbol (b ∷ bs))) None)
        (cond digit (cond numbered (Some (symbols.Number (pos (number_of (b ∷ bs))))) None) (punctuation_symbol (b ∷ bs)))
        ≡ Some (symbols.Number z)
        → (n : ℕ) × (z ≡ pos n)
    by_kind true true digit numbered h = no_word (position (λ word. bytes_eq word (b ∷ bs)) reserved_words) h
    by_kind true false digit numbered h = cc (h)
    by_kind false named true true h = (
      number_of (b ∷ bs),
      (let same : symbols.Number (pos (number_of (b ∷ bs))) ≡ symbols.Number z = cc (h) in cc (same)),
    )
    by_kind false named true false h = cc (h)
    by_kind false named false numbered h = no_punctuation (position (λ operator. bytes_eq operator (b ∷ bs)) operators) (b ∷ bs) h

small : (n : ℕ) → pos n ≤ℤ pos (2 ^ 63 - 1) → n < 2 ^ 63
small n h = omega (arith, ints)

-- a symbol of a text is good if it is within its bounds
good_symbol : (text : List ℕ) (s : Symbol) → symbol_of text ≡ Some s → IsWithinBounds s → IsGood s
good_symbol text (symbols.Name x) e w = record { symbol = ap symbol_of (name_is_text text x e) ∙ e; short = w }
good_symbol text (symbols.Word k) e w = tt
good_symbol text (symbols.Number z) e w =
    let p = is_natural text z e in
    subst IsNumeral (sym p.1) (Numeral p.0 (small p.0 (subst (λ x. x ≤ℤ pos (2 ^ 63 - 1)) p.1 w)))
good_symbol text (symbols.Operator code) e w = tt
good_symbol text (symbols.Sign b) e w = tt

-- the symbols of a scan within the bounds are good
good_scan : {place : ℕ} {bytes rest : List ℕ} {tokens : List Token} (source : List ℕ) → Scans place bytes tokens rest
    → drop place source ≡ bytes
    → All IsTokenWithinBounds tokens → AreGood (symbols_in source tokens)
good_scan source (Stops place rest) e w = None'
good_scan source (Blank {place} {bytes} b g d) e w = good_scan source d (after_front source (b ∷ []) bytes place e) w
good_scan source (Comment {place} {bytes} text h d) e w = good_scan source d (after_front source text bytes place e) w
good_scan source (Taken {place} {bytes} {rest} {tokens} text s t d) e w =
    let here = bounded_symbol place text s t.symbol (All-head IsTokenWithinBounds (token_at place text s) tokens w) in
    OneMore' (subst IsGood (sym (token_is_symbol source text bytes place s e t.symbol)) (good_symbol text s t.symbol here))
    (good_scan source d (after_front source text bytes place e) (All-tail IsTokenWithinBounds (token_at place text s) tokens w))

good_source : (source : List ℕ) (found : List Symbol) → IsWritingOf source found → AreGood found
good_source source found s = subst AreGood s.same (good_scan source s.lexed.scanned refl s.lexed.bounded)

-- ---- expressions

-- an operator that has a level has a code from 1 to 13
code_range : (code level : ℕ) → level_of code ≡ level → 1 ≤ level → (1 ≤ code) × (code ≤ 13)
code_range zero level e l = absurd (omega (arith, e, l))
code_range (suc zero) level e l = (omega arith, omega arith)
code_range (suc (suc zero)) level e l = (omega arith, omega arith)
code_range (suc (suc (suc zero))) level e l = (omega arith, omega arith)
code_range (suc (suc (suc (suc zero)))) level e l = (omega arith, omega arith)
code_range (suc (suc (suc (suc (suc zero))))) level e l = (omega arith, omega arith)
code_range (suc (suc (suc (suc (suc (suc zero)))))) level e l = (omega arith, omega arith)
code_range (suc (suc (suc (suc (suc (suc (suc zero))))))) level e l = (omega arith, omega arith)
code_range (suc (suc (suc (suc (suc (suc (suc (suc zero)))))))) level e l = (omega arith, omega arith)
code_range (suc (suc (suc (suc (suc (suc (suc (suc (suc zero))))))))) level e l = (omega arith, omega arith)
code_range (suc (suc (suc (suc (suc (suc (suc (suc (suc (suc zero)))))))))) level e l = (omega arith, omega arith)
code_range (suc (suc (suc (suc (suc (suc (suc (suc (suc (suc (suc zero))))))))))) level e l = (omega arith, omega arith)
code_range (suc (suc (suc (suc (suc (suc (suc (suc (suc (suc (suc (suc zero)))))))))))) level e l = (omega arith, omega arith)
code_range (suc (suc (suc (suc (suc (suc (suc (suc (suc (suc (suc (suc (suc zero))))))))))))) level e l = (omega arith, omega arith)
code_range (suc (suc (suc (suc (suc (suc (suc (suc (suc (suc (suc (suc (suc (suc n)))))))))))))) level e l = absurd (omega (arith, e, l))

joined_writable : (code : ℕ) (a b : Expression) → 1 ≤ code → code ≤ 13 → IsWritable a → IsWritable b
    → IsWritable (binary_expression code a b)
joined_writable code a b l h x y = by_code (code == 1) (code == 2) (λ e. grind (arith, nat_tests, e)) (λ e. grind (arith, nat_tests, e))
  where
    by_code : (p q : Bool) → (p ≡ false → 1 < code) → (q ≡ false → 1 < code → 2 < code)
        → IsWritable (if p then Or a b else (if q then And a b else Binary code a b))
    by_code true q f g = (x, y)
    by_code false true f g = (x, y)
    by_code false false f g = (let m = g refl (f refl) in omega (arith, m), h, x, y)

-- expressions that good symbols derive can be written
writable : {level : ℕ} {ts : List Symbol} {e : Expression} → 1 ≤ level → Derives level ts e → AreGood ts → IsWritable e
writable l (grammar.Numeral n) g = first g
writable l (grammar.Named x) g = first g
writable l (grammar.Indexed {inside} x d) g = (first g, writable (omega arith) d (front inside _ (others (others g))))
writable l grammar.CallsMore g = tt
writable l grammar.CallsTake g = tt
writable l grammar.CallsIter g = tt
writable l (grammar.Negative d) g = (inl refl, writable (omega arith) d (others g))
writable l (grammar.Not d) g = (inr refl, writable (omega arith) d (others g))
writable l (grammar.Bracketed {inside} d) g = writable (omega arith) d (front inside _ (others g))
writable l (grammar.Tighter d) g = writable (omega (arith, l)) d g
writable l (grammar.Joined {level} {left} {right} {a} {b} code e x y) g =
    let c = code_range code level e l in
    joined_writable code a b c.0 c.1 (writable l x (front left _ g)) (writable (omega (arith, l)) y (others (back left _ g)))

full : {ts : List Symbol} {e : Expression} → Derives any_expression ts e → AreGood ts → IsWritable e
full d g = writable (omega arith) d g

-- ---- statements

pieces_front : (ps qs : List Piece) → AreGood (flat (ps ++ qs)) → AreGood (flat ps)
pieces_front ps qs g = front (flat ps) (flat qs) (subst AreGood (flat_append ps qs) g)

pieces_back : (ps qs : List Piece) → AreGood (flat (ps ++ qs)) → AreGood (flat qs)
pieces_back ps qs g = back (flat ps) (flat qs) (subst AreGood (flat_append ps qs) g)

mutual
  writable_statement : {ps : List Piece} {s : Statement} → DerivesStatement ps s → AreGood (flat ps) → IsWritableStatement s
  writable_statement (grammar.LetIs {ts} x d) g = (first (others g), full d (front ts _ (others (others (others g)))))
  writable_statement (grammar.AssignIs {ts} x d) g = (first g, full d (front ts _ (others (others g))))
  writable_statement (grammar.AssignElementIs {us} {ts} x i d) g =
      (first g, full i (front us _ (others (others g))), full d (front ts _ (others (others (back us _ (others (others g)))))))
  writable_statement (grammar.EmitIs {ts} d) g = full d (front ts _ (others g))
  writable_statement (grammar.IfIs {ts} {ps} {qs} d a b) g =
      let following = others (back ts _ (others (others g))) in (
        full d (front ts _ (others (others g))),
        writable_block a (pieces_front ps qs following),
        writable_part b
            (pieces_back ps qs following),
      )
  writable_statement (grammar.WhileIs {ts} {ps} d a) g =
      (full d (front ts _ (others (others g))), writable_block a (others (back ts _ (others (others g)))))
  writable_statement (grammar.WaitIs {ts} d) g = full d (front ts _ (others (others g)))
  writable_statement grammar.WaitNextIs g = tt
  writable_statement (grammar.ContinueIs {ts} d) g = full d (front ts _ (others (others g)))
  writable_statement grammar.ContinueNextIs g = tt

  writable_statements : {ps : List Piece} {ss : Statements} → DerivesStatements ps ss → AreGood (flat ps) → AreWritable ss
  writable_statements grammar.NoStatement g = tt
  writable_statements (grammar.OneMore {ps} {qs} d ds) g =
      (writable_statement d (pieces_front ps qs g), writable_statements ds (pieces_back ps qs g))

  writable_block : {ps : List Piece} {ss : Statements} → DerivesBlock ps ss → AreGood (flat ps) → AreWritable ss
  writable_block (grammar.BlockIs {ps} d) g = writable_statements d (pieces_front ps _ (others g))

  writable_part : {word : ℕ} {ps : List Piece} {ss : Statements} → DerivesPart (symbols.Word word) ps ss → AreGood (flat ps)
      → AreWritable ss
  writable_part grammar.NoPart g = tt
  writable_part (grammar.PartIs d) g = writable_block d (others g)

-- ---- programs

writable_size : {ps : List Piece} {size : Option ℤ} → DerivesSize ps size → AreGood (flat ps) → IsWritableSize size
writable_size grammar.NoSize g = tt
writable_size (grammar.SizeIs n) g = first (others g)

positive : (z : ℤ) → IsNumeral z → IsDeclaredValue z
positive z (Numeral n h) = Positive n h

negative : (n : ℕ) → IsNumeral (pos n) → IsDeclaredValue (neg_ℤ (pos n))
negative zero (Numeral n h) = Positive 0 (omega arith)
negative (suc n) (Numeral m h) = Negative n h

writable_value : {ps : List Piece} {value : ℤ} → DerivesValue ps value → AreGood (flat ps) → IsDeclaredValue value
writable_value (grammar.ValueIs n) g = positive n (first g)
writable_value (grammar.NegativeValueIs n) g = negative n (first (others g))

writable_cells : {ps : List Piece} {ds : List Declaration} → DerivesCells ps ds → AreGood (flat ps) → AreWritableCells ds
writable_cells grammar.NoCell g = tt
writable_cells (grammar.CellIs {ps} {qs} {rs} x s v c) g =
    let sized = others (others g) in
    let valued = others (pieces_back ps _ sized) in (
      first (others g),
      writable_size s (pieces_front ps _ sized),
      writable_value v (pieces_front qs _ valued),
      writable_cells c
          (others (pieces_back qs _ valued)),
    )

-- a program that good symbols derive can be written
program_of_good : {ps : List Piece} {tree : SyntaxTree} → DerivesProgram ps tree → AreGood (flat ps) → IsWritableProgram tree
program_of_good (grammar.ProgramIs {cs} {is} {bs} {ls} {ts} iterations stages steps emits cells init test body last) g =
    let three = others (others g) in
    let six = others (others (others three)) in
    let nine = others (others (others six)) in
    let twelve = others (others (others nine)) in
    let declared = others (others twelve) in
    let started = pieces_back cs _ declared in
    let looped = others (others (pieces_back is _ started)) in
    let ended = others (back ts _ looped) in
    record {
      iterations = first three;
      stages = first six;
      steps = first nine;
      emits = first twelve;
      cells = writable_cells cells (pieces_front cs _ declared);
      init = writable_part init (pieces_front is _ started);
      test = full test (front ts _ looped);
      body = writable_block body (pieces_front bs ls ended);
      last = writable_part last (pieces_back bs ls ended);
    }

-- a program that a source spells can be written
pub writable_program : (source : List ℕ) (found : List Symbol) (ps : List Piece) (tree : SyntaxTree) → IsWritingOf source found
    → found ≡ flat ps
    → DerivesProgram ps tree
    → IsWritableProgram tree
writable_program source found ps tree s e d = program_of_good d (subst AreGood e (good_source source found s))
