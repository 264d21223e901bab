-- The pieces of the canonical text derive the program.
use Rattle.std.proofs.Common.{◌≡◌, ℕ, zero, suc, ◌+◌, ◌≤◌, ℤ, pos, negsuc, List, [], ◌∷◌, ◌++◌, refl, arith, subst, Bool, true, false}
use Rattle.std.proofs.Common.{nat_le, if◌then◌else◌, inl, inr, ◌⊎◌, Option, Some, None, ◌==◌}
use Rattle.std.proofs.lemmas.Bool.Decides.{nat_tests}
use Rattle.pipe_model.specs.declared.sign_bytes.TheConstants as signs
use Rattle.pipe_model.specs.declared.tree.StageKind.{StageKind}
use Rattle.pipe_model.specs.declared.tree.StageKind.TheVariants as kinds
use Rattle.pipe_model.specs.declared.symbol.Symbol.{Symbol}
use Rattle.pipe_model.specs.declared.symbol.Symbol.TheVariants as symbols
use Rattle.pipe_model.specs.declared.tree.Declaration.{Declaration}
use Rattle.grammar_laws.proofs.CanonicalSymbols.{unary_symbol, symbols_at_level, binary_symbols, expression_symbols, part_pieces}
use Rattle.grammar_laws.proofs.CanonicalSymbols.{statement_pieces, statements_pieces, size_pieces, value_pieces, cells_pieces}
use Rattle.grammar_laws.proofs.CanonicalSymbols.{program_pieces, IsWritable, IsWritableStatement, AreWritable, IsWritableProgram}
use Rattle.pipe_model.proofs.LevelLaws.{below_operands, looser}
use Rattle.pipe_model.specs.Language.CanonicalText.{level_in}
use Rattle.pipe_model.specs.Language.SyntaxTree.{Expression, Number, Name, Element, And, Or, Binary, Unary, More, Take, Iter}
use Rattle.pipe_model.specs.Language.SyntaxTree.{binary_expression, Statement, Let, Assign, AssignElement, Emit, If, While, Stage}
use Rattle.pipe_model.specs.Language.SyntaxTree.{NextStage, Statements, Empty, Then, SyntaxTree}
use Rattle.pipe_model.specs.Language.Grammar.{any_expression, operand_level, level_of, Derives, Numeral, Named, Indexed, CallsMore}
use Rattle.pipe_model.specs.Language.Grammar.{CallsTake, CallsIter, Negative, Not, Bracketed, Joined, Piece, DerivesStatement, LetIs}
use Rattle.pipe_model.specs.Language.Grammar.{AssignIs, AssignElementIs, EmitIs, IfIs, WhileIs, WaitIs, WaitNextIs, ContinueIs}
use Rattle.pipe_model.specs.Language.Grammar.{ContinueNextIs, DerivesStatements, NoStatement, OneMore, BlockIs, DerivesPart, NoPart, PartIs}
use Rattle.pipe_model.specs.Language.Grammar.{DerivesSize, NoSize, SizeIs, DerivesValue, ValueIs, NegativeValueIs, DerivesCells, NoCell}
use Rattle.pipe_model.specs.Language.Grammar.{CellIs, DerivesProgram, ProgramIs}

-- ---- expressions

-- each binary operator has a level of at least 1
level_from_one : (code : ℕ) → 1 ≤ code → code ≤ 13 → 1 ≤ level_of code
level_from_one zero l h = absurd (omega (arith, l))
level_from_one (suc zero) l h = omega arith
level_from_one (suc (suc zero)) l h = omega arith
level_from_one (suc (suc (suc zero))) l h = omega arith
level_from_one (suc (suc (suc (suc zero)))) l h = omega arith
level_from_one (suc (suc (suc (suc (suc zero))))) l h = omega arith
level_from_one (suc (suc (suc (suc (suc (suc zero)))))) l h = omega arith
level_from_one (suc (suc (suc (suc (suc (suc (suc zero))))))) l h = omega arith
level_from_one (suc (suc (suc (suc (suc (suc (suc (suc zero)))))))) l h = omega arith
level_from_one (suc (suc (suc (suc (suc (suc (suc (suc (suc zero))))))))) l h = omega arith
level_from_one (suc (suc (suc (suc (suc (suc (suc (suc (suc (suc zero)))))))))) l h = omega arith
level_from_one (suc (suc (suc (suc (suc (suc (suc (suc (suc (suc (suc zero))))))))))) l h = omega arith
level_from_one (suc (suc (suc (suc (suc (suc (suc (suc (suc (suc (suc (suc zero)))))))))))) l h = omega arith
level_from_one (suc (suc (suc (suc (suc (suc (suc (suc (suc (suc (suc (suc (suc zero))))))))))))) l h = omega arith
level_from_one (suc (suc (suc (suc (suc (suc (suc (suc (suc (suc (suc (suc (suc (suc n)))))))))))))) l h = absurd (omega (arith, h))

-- the level of an expression is at least 1
pub level_from : (e : Expression) → IsWritable e → 1 ≤ level_in e
level_from (Number n) h = omega arith
level_from (Name x) h = omega arith
level_from (Element x i) h = omega arith
level_from (Or a b) h = omega arith
level_from (And a b) h = omega arith
level_from (Binary code a b) h = level_from_one code (omega (arith, h.0)) h.1
level_from (Unary code a) h = omega arith
level_from More h = omega arith
level_from Take h = omega arith
level_from Iter h = omega arith

bracketed_by : (b : Bool) (needed own : ℕ) (e : Expression) (ts : List Symbol) → (b ≡ true → needed ≤ own) → needed ≤ operand_level
    → 1 ≤ own → Derives own ts e
    → Derives needed (if b then ts else symbols.Sign signs.OPEN_ROUND ∷ (ts ++ symbols.Sign signs.CLOSE_ROUND ∷ [])) e
bracketed_by true needed own e ts h k l d = looser needed (h refl) d
bracketed_by false needed own e ts h k l d = looser needed k (Bracketed (looser any_expression l d))

-- symbols at a needed level
at_level_derives : (needed own : ℕ) (e : Expression) (ts : List Symbol) → needed ≤ operand_level → 1 ≤ own → Derives own ts e
    → Derives needed (symbols_at_level needed own ts) e
at_level_derives needed own e ts k l d = bracketed_by (nat_le needed own) needed own e ts (λ h. grind (arith, nat_tests, h)) k l d

unary_derived : (code : ℕ) (e : Expression) (ts : List Symbol) → ((code ≡ 1) ⊎ (code ≡ 2)) → Derives operand_level ts e
    → Derives operand_level (unary_symbol code ∷ ts) (Unary code e)
unary_derived code e ts (inl h) d = rw h (Negative d)
unary_derived code e ts (inr h) d = rw h (Not d)

binary_derived : (code : ℕ) (a b : Expression) (left right : List Symbol) → 1 ≤ level_in a → 1 ≤ level_in b
    → Derives (level_in a) left a → Derives (level_in b) right b
    → Derives (level_of code) (binary_symbols code (level_in a) (level_in b) left right) (binary_expression code a b)
binary_derived code a b left right la lb d d' =
    let high = below_operands code in
    let l = at_level_derives (level_of code) (level_in a) a left (omega (arith, high)) la d in
    let r = at_level_derives (level_of code + 1) (level_in b) b right (omega (arith, high)) lb d' in
    Joined code refl l (subst (λ k. Derives k (symbols_at_level (level_of code + 1) (level_in b) right) b) (omega arith) r)

-- operators with codes of at least 3 are `Binary` nodes
joined_as : (code : ℕ) (a b : Expression) → 3 ≤ code → binary_expression code a b ≡ Binary code a b
joined_as code a b h =
    let one : (code == 1) ≡ false = grind (arith, nat_tests, h) in
    let two : (code == 2) ≡ false = grind (arith, nat_tests, h) in
    rw (one, two) refl

-- the canonical symbols of an expression derive it at its level
pub expression_derived : (e : Expression) → IsWritable e → Derives (level_in e) (expression_symbols e) e
expression_derived (Number n) h = Numeral n
expression_derived (Name x) h = Named x
expression_derived (Element x i) h = let l = level_from i h.1 in Indexed x (looser any_expression l (expression_derived i h.1))
expression_derived (Or a b) h =
    let la = level_from a h.0 in let lb = level_from b h.1 in
    binary_derived 1 a b _ _ la lb (expression_derived a h.0) (expression_derived b h.1)
expression_derived (And a b) h =
    let la = level_from a h.0 in let lb = level_from b h.1 in
    binary_derived 2 a b _ _ la lb (expression_derived a h.0) (expression_derived b h.1)
expression_derived (Binary code a b) h =
    let la = level_from a h.2 in let lb = level_from b h.3 in
    subst (λ x. Derives (level_of code) (expression_symbols (Binary code a b)) x) (joined_as code a b h.0)
    (binary_derived code a b (expression_symbols a) (expression_symbols b) la lb (expression_derived a h.2) (expression_derived b h.3))
expression_derived (Unary code a) h =
    let l = level_from a h.1 in unary_derived code a _ h.0
    (at_level_derives operand_level (level_in a) a (expression_symbols a) (omega arith) l
    (expression_derived a h.1))
expression_derived More h = CallsMore
expression_derived Take h = CallsTake
expression_derived Iter h = CallsIter

full : (e : Expression) → IsWritable e → Derives any_expression (expression_symbols e) e
full e h = let l = level_from e h in looser any_expression l (expression_derived e h)

-- ---- statements

part_derived : (word : ℕ) (ss : Statements) (ps : List Piece) → DerivesStatements ps ss → DerivesPart (symbols.Word word)
    (part_pieces word ss ps) ss
part_derived word Empty ps d = NoPart
part_derived word (Then s ss) ps d = PartIs (BlockIs d)

stage_derived : (kind : StageKind) (e : Expression) → IsWritable e → DerivesStatement (statement_pieces (Stage kind e)) (Stage kind e)
stage_derived kinds.Wait e h = WaitIs (full e h)
stage_derived kinds.Continue e h = ContinueIs (full e h)

next_stage_derived : (kind : StageKind) → DerivesStatement (statement_pieces (NextStage kind)) (NextStage kind)
next_stage_derived kinds.Wait = WaitNextIs
next_stage_derived kinds.Continue = ContinueNextIs

mutual
  -- the canonical pieces of a statement derive it
  pub statement_derived : (s : Statement) → IsWritableStatement s → DerivesStatement (statement_pieces s) s
  statement_derived (Let x e) h = LetIs x (full e h.1)
  statement_derived (Assign x e) h = AssignIs x (full e h.1)
  statement_derived (AssignElement x i e) h = AssignElementIs x (full i h.1) (full e h.2)
  statement_derived (Emit e) h = EmitIs (full e h)
  statement_derived (If e a b) h =
      IfIs (full e h.0) (BlockIs (statements_derived a h.1)) (part_derived 14 b (statements_pieces b) (statements_derived b h.2))
  statement_derived (While e a) h = WhileIs (full e h.0) (BlockIs (statements_derived a h.1))
  statement_derived (Stage kind e) h = stage_derived kind e h
  statement_derived (NextStage kind) h = next_stage_derived kind

  -- the same for statements in order
  pub statements_derived : (ss : Statements) → AreWritable ss → DerivesStatements (statements_pieces ss) ss
  statements_derived Empty h = NoStatement
  statements_derived (Then s ss) h = OneMore (statement_derived s h.0) (statements_derived ss h.1)

-- ---- programs

size_derived : (size : Option ℤ) → DerivesSize (size_pieces size) size
size_derived None = NoSize
size_derived (Some n) = SizeIs n

value_derived : (value : ℤ) → DerivesValue (value_pieces value) value
value_derived (pos n) = ValueIs (pos n)
value_derived (negsuc n) = NegativeValueIs (suc n)

cells_derived : (ds : List Declaration) → DerivesCells (cells_pieces ds) ds
cells_derived [] = NoCell
cells_derived (d ∷ ds) = CellIs d.name (size_derived d.size) (value_derived d.value) (cells_derived ds)

-- the canonical pieces of a program derive it
pub program_derived : (tree : SyntaxTree) → IsWritableProgram tree → DerivesProgram (program_pieces tree) tree
program_derived tree h =
    ProgramIs tree.limits.iterations tree.limits.stages tree.limits.steps tree.limits.emits (cells_derived tree.cells)
    (part_derived 7 tree.init (statements_pieces tree.init) (statements_derived tree.init h.init)) (full tree.test h.test)
    (BlockIs (statements_derived tree.body h.body)) (part_derived 11 tree.last (statements_pieces tree.last)
    (statements_derived tree.last h.last))
