-- The machine of programs walks over the pieces of a program, and so counts the symbols of each full expression.
use Rattle.std.proofs.Common.{◌≡◌, ◌≢◌, ℕ, ℤ, List, [], ◌∷◌, ◌++◌, refl, sym, ap, ◌∙◌, append_assoc, append-nil, arith, subst, Option, true}
use Rattle.std.proofs.Common.{false, ◌==◌}
use Rattle.pipe_model.specs.declared.sign_bytes.TheConstants as signs
use Rattle.pipe_model.specs.declared.word_codes.TheConstants as words
use Rattle.pipe_model.specs.declared.symbol.Symbol.{Symbol}
use Rattle.pipe_model.specs.declared.symbol.Symbol.TheVariants as symbols
use Rattle.pipe_model.specs.declared.tree.Declaration.{Declaration}
use Rattle.pipe_model.specs.Language.SyntaxTree.{Expression, Statement, Statements, SyntaxTree}
use Rattle.pipe_model.specs.Language.Grammar.{any_expression, Derives, Piece, Single, FullExpression, DerivesStatement, LetIs, AssignIs}
use Rattle.pipe_model.specs.Language.Grammar.{AssignElementIs, EmitIs, IfIs, WhileIs, WaitIs, WaitNextIs, ContinueIs, ContinueNextIs}
use Rattle.pipe_model.specs.Language.Grammar.{DerivesStatements, NoStatement, OneMore, DerivesBlock, BlockIs, DerivesPart, NoPart, PartIs}
use Rattle.pipe_model.specs.Language.Grammar.{DerivesSize, NoSize, SizeIs, DerivesValue, ValueIs, NegativeValueIs, DerivesCells, NoCell}
use Rattle.pipe_model.specs.Language.Grammar.{CellIs, DerivesProgram, ProgramIs}
use Rattle.pipe_model.specs.Language.Words.{word_pipe_while, open_round, close_round, semicolon, equals, close_brace}
use Rattle.grammar_laws.specs.ProgramMachine as machine
use Rattle.grammar_laws.specs.ProgramMachine.{Want, Sign, Word, AnyName, AnyNumber, StageNumber, Target, Part, Cells, Size, Value, Takes}
use Rattle.grammar_laws.specs.ProgramMachine.{Skips, move, program}

-- ---- going over pieces
pub data Walks : List Want → List Piece → Type 0 where
  Stays : (wants : List Want) → Walks wants []
  Begins : {want : Want} {wants more : List Want} {t : Symbol} {ps : List Piece} → move want t ≡ Takes more → Walks (more ++ wants) ps
      → Walks (want ∷ wants) (Single t ∷ ps)
  LeavesOut : {want : Want} {wants : List Want} {t : Symbol} {ps : List Piece} → move want t ≡ Skips → Walks wants (Single t ∷ ps)
      → Walks (want ∷ wants) (Single t ∷ ps)
  OverFull : {wants : List Want} {ts : List Symbol} {e : Expression} {ps : List Piece} (sign : ℕ) → sign ≢ signs.OPEN_SQUARE
      → Derives any_expression ts e
      → Walks wants ps
      → Walks (machine.FullExpression ∷ Sign sign ∷ wants) (FullExpression ts ∷ Single (symbols.Sign sign) ∷ ps)
  OverStage : {wants : List Want} {ts : List Symbol} {e : Expression} {ps : List Piece} → Derives any_expression ts e → Walks wants ps
      → Walks (StageNumber ∷ Sign signs.CLOSE_ROUND ∷ wants) (FullExpression ts ∷ Single close_round ∷ ps)

-- the pieces begin with a symbol that is not this word, or there are none
abbrev BeginsWithout : ℕ → List Piece → Type 0
BeginsWithout word [] = Unit {0}
BeginsWithout word (FullExpression ts ∷ ps) = ⊥
BeginsWithout word (Single (symbols.Name name) ∷ ps) = Unit {0}
BeginsWithout word (Single (symbols.Word k) ∷ ps) = k ≢ word
BeginsWithout word (Single (symbols.Number n) ∷ ps) = Unit {0}
BeginsWithout word (Single (symbols.Operator code) ∷ ps) = Unit {0}
BeginsWithout word (Single (symbols.Sign b) ∷ ps) = Unit {0}

moved : {wants : List Want} {ps qs : List Piece} → ps ≡ qs → Walks wants qs → Walks wants ps
moved {wants} h w = subst (Walks wants) (sym h) w

-- a symbol that is wanted
comes : {want : Want} {wants : List Want} {t : Symbol} {ps : List Piece} → move want t ≡ Takes [] → Walks wants ps
    → Walks (want ∷ wants) (Single t ∷ ps)
comes h w = Begins {more = []} h w

skips_part : (word k : ℕ) → k ≢ word → move (Part word) (symbols.Word k) ≡ Skips
skips_part word k h = let e : (k == word) ≡ false = grind (arith, h) in rw e refl

takes_part : (word : ℕ) → move (Part word) (symbols.Word word) ≡ Takes machine.block
takes_part word = let e : (word == word) ≡ true = grind arith in rw e refl

-- a part that is missing
without_part : {wants : List Want} (word : ℕ) (ps : List Piece) → BeginsWithout word ps → Walks wants ps → Walks (Part word ∷ wants) ps
without_part word [] h w = Stays _
without_part word (FullExpression ts ∷ ps) h w = absurd h
without_part word (Single (symbols.Name name) ∷ ps) h w = LeavesOut refl w
without_part word (Single (symbols.Word k) ∷ ps) h w = LeavesOut (skips_part word k h) w
without_part word (Single (symbols.Number n) ∷ ps) h w = LeavesOut refl w
without_part word (Single (symbols.Operator code) ∷ ps) h w = LeavesOut refl w
without_part word (Single (symbols.Sign b) ∷ ps) h w = LeavesOut refl w

-- no statement begins with `else`
statement_begins : {ps : List Piece} {s : Statement} → DerivesStatement ps s → (qs : List Piece) → BeginsWithout 14 (ps ++ qs)
statement_begins (LetIs name d) qs = λ x. absurd (omega (arith, x))
statement_begins (AssignIs name d) qs = tt
statement_begins (AssignElementIs name d d') qs = tt
statement_begins (EmitIs d) qs = λ x. absurd (omega (arith, x))
statement_begins (IfIs d a b) qs = λ x. absurd (omega (arith, x))
statement_begins (WhileIs d a) qs = λ x. absurd (omega (arith, x))
statement_begins (WaitIs d) qs = λ x. absurd (omega (arith, x))
statement_begins WaitNextIs qs = λ x. absurd (omega (arith, x))
statement_begins (ContinueIs d) qs = λ x. absurd (omega (arith, x))
statement_begins ContinueNextIs qs = λ x. absurd (omega (arith, x))

statements_begin : {ps : List Piece} {ss : Statements} → DerivesStatements ps ss → (qs : List Piece)
    → BeginsWithout 14 (ps ++ Single close_brace ∷ qs)
statements_begin NoStatement qs = tt
statements_begin (OneMore {ps} {qs = ps'} d ds) qs =
    subst (BeginsWithout 14) (sym (append_assoc ps ps' (Single close_brace ∷ qs))) (statement_begins d (ps' ++ Single close_brace ∷ qs))

abbrev before_semicolon : {wants : List Want} {ts : List Symbol} {e : Expression} {ps : List Piece} → Derives any_expression ts e
    → Walks wants ps
    → Walks (machine.FullExpression ∷ Sign signs.SEMICOLON ∷ wants) (FullExpression ts ∷ Single semicolon ∷ ps)
before_semicolon d w = OverFull signs.SEMICOLON (λ x. absurd (omega (arith, x))) d w

abbrev before_round : {wants : List Want} {ts : List Symbol} {e : Expression} {ps : List Piece} → Derives any_expression ts e
    → Walks wants ps
    → Walks (machine.FullExpression ∷ Sign signs.CLOSE_ROUND ∷ wants) (FullExpression ts ∷ Single close_round ∷ ps)
before_round d w = OverFull signs.CLOSE_ROUND (λ x. absurd (omega (arith, x))) d w

abbrev before_square : {wants : List Want} {ts : List Symbol} {e : Expression} {ps : List Piece} → Derives any_expression ts e
    → Walks wants ps
    → Walks (machine.FullExpression ∷ Sign signs.CLOSE_SQUARE ∷ wants) (FullExpression ts ∷ Single (symbols.Sign signs.CLOSE_SQUARE) ∷ ps)
before_square d w = OverFull signs.CLOSE_SQUARE (λ x. absurd (omega (arith, x))) d w

mutual
  walks_statement : {ps : List Piece} {s : Statement} → DerivesStatement ps s → (wants : List Want) (qs : List Piece) → BeginsWithout 14 qs
      → Walks (machine.Statements ∷ wants) qs
      → Walks (machine.Statements ∷ wants) (ps ++ qs)
  walks_statement (LetIs name d) wants qs h w = Begins refl (comes refl (comes refl (before_semicolon d w)))
  walks_statement (AssignIs name d) wants qs h w = Begins refl (Begins refl (before_semicolon d w))
  walks_statement (AssignElementIs name d d') wants qs h w =
      Begins refl (Begins refl (before_square d (comes refl (before_semicolon d' w))))
  walks_statement (EmitIs d) wants qs h w = Begins refl (before_semicolon d w)
  walks_statement (IfIs {ts} {ps} {qs = qs'} d a b) wants qs h w =
      Begins refl (comes refl (before_round d (moved (append_assoc ps qs' qs)
      (walks_block a (Part words.ELSE ∷ machine.Statements ∷ wants) (qs' ++ qs) (walks_part b (machine.Statements ∷ wants) qs h w)))))
  walks_statement (WhileIs d a) wants qs h w =
      Begins refl (comes refl (before_round d (walks_block a (machine.Statements ∷ wants) qs w)))
  walks_statement (WaitIs d) wants qs h w = Begins refl (comes refl (OverStage d (comes refl w)))
  walks_statement WaitNextIs wants qs h w =
      Begins refl (comes refl (LeavesOut refl (comes refl (comes refl w))))
  walks_statement (ContinueIs d) wants qs h w = Begins refl (comes refl (OverStage d (comes refl w)))
  walks_statement ContinueNextIs wants qs h w =
      Begins refl (comes refl (LeavesOut refl (comes refl (comes refl w))))

  walks_statements : {ps : List Piece} {ss : Statements} → DerivesStatements ps ss → (wants : List Want) (qs : List Piece)
      → Walks (machine.Statements ∷ wants) (Single close_brace ∷ qs)
      → Walks (machine.Statements ∷ wants) (ps ++ Single close_brace ∷ qs)
  walks_statements NoStatement wants qs w = w
  walks_statements (OneMore {ps} {qs = ps'} d ds) wants qs w =
      moved (append_assoc ps ps' (Single close_brace ∷ qs))
      (walks_statement d wants (ps' ++ Single close_brace ∷ qs) (statements_begin ds qs) (walks_statements ds wants qs w))

  walks_block : {ps : List Piece} {ss : Statements} → DerivesBlock ps ss → (wants : List Want) (qs : List Piece) → Walks wants qs
      → Walks (Sign signs.OPEN_BRACE ∷ machine.Statements ∷ Sign signs.CLOSE_BRACE ∷ wants) (ps ++ qs)
  walks_block (BlockIs {ps} d) wants qs w =
      comes refl (moved (append_assoc ps (Single close_brace ∷ []) qs)
      (walks_statements d (Sign signs.CLOSE_BRACE ∷ wants) qs (LeavesOut refl (comes refl w))))

  walks_part : {word : ℕ} {ps : List Piece} {ss : Statements} → DerivesPart (symbols.Word word) ps ss
      → (wants : List Want) (qs : List Piece)
      → BeginsWithout word qs
      → Walks wants qs
      → Walks (Part word ∷ wants) (ps ++ qs)
  walks_part {word} NoPart wants qs h w = without_part word qs h w
  walks_part {word} (PartIs b) wants qs h w = Begins (takes_part word) (walks_block b wants qs w)

walks_size : {ps : List Piece} {size : Option ℤ} → DerivesSize ps size → (wants : List Want) (qs : List Piece)
    → Walks wants (Single equals ∷ qs)
    → Walks (Size ∷ wants) (ps ++ Single equals ∷ qs)
walks_size NoSize wants qs w = LeavesOut refl w
walks_size (SizeIs n) wants qs w = Begins refl (comes refl (comes refl w))

walks_value : {ps : List Piece} {value : ℤ} → DerivesValue ps value → (wants : List Want) (qs : List Piece) → Walks wants qs
    → Walks (Value ∷ wants) (ps ++ qs)
walks_value (ValueIs n) wants qs w = comes refl w
walks_value (NegativeValueIs n) wants qs w = Begins refl (comes refl w)

-- the pieces of declarations, joined
cells_split : (ps qs rs rest : List Piece) → (ps ++ Single equals ∷ (qs ++ Single semicolon ∷ rs)) ++ rest
    ≡ ps ++ Single equals ∷ (qs ++ Single semicolon ∷ (rs ++ rest))
cells_split ps qs rs rest =
    append_assoc ps (Single equals ∷ (qs ++ Single semicolon ∷ rs)) rest
    ∙ ap (λ x. ps ++ Single equals ∷ x) (append_assoc qs (Single semicolon ∷ rs) rest)

walks_cells : {ps : List Piece} {ds : List Declaration} → DerivesCells ps ds → (wants : List Want) (qs : List Piece)
    → Walks (Cells ∷ wants) qs
    → Walks (Cells ∷ wants) (ps ++ qs)
walks_cells NoCell wants qs w = w
walks_cells (CellIs {ps} {qs = ps'} {rs} name s v ds) wants qs w =
    Begins refl (comes refl (moved (cells_split ps ps' rs qs)
    (walks_size s (Sign signs.EQUALS ∷ Value ∷ Sign signs.SEMICOLON ∷ Cells ∷ wants) (ps' ++ Single semicolon ∷ (rs ++ qs)) (comes refl
    (walks_value v (Sign signs.SEMICOLON ∷ Cells ∷ wants) (Single semicolon ∷ (rs ++ qs)) (comes refl (walks_cells ds wants qs w)))))))

-- the want for declarations is skipped before `init` and of the loop
without_cells : {ps : List Piece} {ss : Statements} → DerivesPart (symbols.Word words.INIT) ps ss → (wants : List Want) (qs : List Piece)
    → Walks wants (ps ++ Single word_pipe_while ∷ qs)
    → Walks (Cells ∷ wants) (ps ++ Single word_pipe_while ∷ qs)
without_cells NoPart wants qs w = LeavesOut refl w
without_cells (PartIs b) wants qs w = LeavesOut refl w

walks_last : {ps : List Piece} {ss : Statements} → DerivesPart (symbols.Word words.FINAL) ps ss → Walks (Part words.FINAL ∷ []) ps
walks_last {ps} d = moved (sym (append-nil ps)) (walks_part d [] [] tt (Stays []))

pub walks_program : {ps : List Piece} {p : SyntaxTree} → DerivesProgram ps p → Walks program ps
walks_program (ProgramIs {cs} {is} {bs} {ls} {ts} iterations stages steps emits c i e b l) =
    let loop = Single open_round ∷ FullExpression ts ∷ Single close_round ∷ (bs ++ ls) in
    let wants = Word words.PIPE_WHILE ∷ Sign signs.OPEN_ROUND ∷ machine.FullExpression ∷ Sign signs.CLOSE_ROUND ∷ Sign signs.OPEN_BRACE ∷
    machine.Statements ∷ Sign signs.CLOSE_BRACE ∷ Part words.FINAL ∷ [] in
    let from_loop = comes refl (comes refl (before_round e (walks_block b (Part words.FINAL ∷ []) ls (walks_last l)))) in
    let from_cells =
    walks_cells c (Part words.INIT ∷ wants) (is ++ Single word_pipe_while ∷ loop) (without_cells i (Part words.INIT ∷ wants) loop
    (walks_part i wants (Single word_pipe_while ∷ loop) (λ x. absurd (omega (arith, x))) from_loop)) in
    comes refl (comes refl (comes refl (comes refl (comes refl
    (comes refl (comes refl (comes refl (comes refl (comes refl (comes refl (comes refl
    (comes refl from_cells))))))))))))
