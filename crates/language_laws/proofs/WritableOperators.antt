-- A program that can be written has only known operators, and no negative number where the grammar has no sign.
use Rattle.std.proofs.Common.{◌≡◌, refl, ℕ, ◌≤◌, ◌≤ℤ◌, ℤ, pos, true, List, [], ◌∷◌, ◌++◌, ◌&&◌, inl, inr, ◌⊎◌, Option, Some, None, nat_le}
use Rattle.std.proofs.Common.{arith, All}
use Rattle.std.proofs.lemmas.Bool.{and_from}
use Rattle.std.proofs.lemmas.Bool.Decides.{nat_tests}
use Rattle.std.proofs.lemmas.Int.{ints}
use Rattle.std.proofs.lemmas.List.Elements.{All-nil, All-cons, All-append}
use Rattle.pipe_model.specs.declared.tree.Declaration.{Declaration}
use Rattle.pipe_model.specs.Language.SpellablePrograms.{has_known_operators, expressions_of_statement, expressions_of_statements}
use Rattle.pipe_model.specs.Language.SpellablePrograms.{expressions_of, HasNoNegativeSize}
use Rattle.pipe_model.specs.Language.SyntaxTree.{Expression, Number, Name, Element, And, Or, Binary, Unary, More, Take, Iter, Statement}
use Rattle.pipe_model.specs.Language.SyntaxTree.{Let, Assign, AssignElement, Emit, If, While, Stage, NextStage, Statements, Empty, Then}
use Rattle.pipe_model.specs.Language.SyntaxTree.{SyntaxTree}
use Rattle.grammar_laws.proofs.CanonicalSymbols.{IsNumeral, Numeral, IsWritable, IsWritableStatement, AreWritable, IsWritableSize}
use Rattle.grammar_laws.proofs.CanonicalSymbols.{AreWritableCells, IsWritableProgram}

-- ---- operators

binary_known : (code : ℕ) → 3 ≤ code → code ≤ 13 → (nat_le 1 code && nat_le code 13) ≡ true
binary_known code h i = grind (arith, nat_tests)

unary_known : (code : ℕ) → (code ≡ 1) ⊎ (code ≡ 2) → (nat_le 1 code && nat_le code 2) ≡ true
unary_known code (inl h) = rw h refl
unary_known code (inr h) = rw h refl

known_operators : (e : Expression) → IsWritable e → has_known_operators e ≡ true
known_operators (Number n) w = refl
known_operators (Name x) w = refl
known_operators (Element x i) w = known_operators i w.1
known_operators (And a b) w = and_from (has_known_operators a) (has_known_operators b) (known_operators a w.0) (known_operators b w.1)
known_operators (Or a b) w = and_from (has_known_operators a) (has_known_operators b) (known_operators a w.0) (known_operators b w.1)
known_operators (Binary code a b) w =
    and_from (nat_le 1 code && nat_le code 13) (has_known_operators a && has_known_operators b) (binary_known code w.0 w.1)
    (and_from (has_known_operators a) (has_known_operators b) (known_operators a w.2) (known_operators b w.3))
known_operators (Unary code a) w = and_from (nat_le 1 code && nat_le code 2) (has_known_operators a) (unary_known code w.0)
    (known_operators a w.1)
known_operators More w = refl
known_operators Take w = refl
known_operators Iter w = refl

-- each expression has known operators
abbrev HaveKnown : List Expression → Type 0
HaveKnown es = All (λ e. has_known_operators e ≡ true) es

none_known : HaveKnown []
none_known = All-nil (λ e. has_known_operators e ≡ true)

more_known : (e : Expression) (es : List Expression) → IsWritable e → HaveKnown es → HaveKnown (e ∷ es)
more_known e es w h = All-cons (λ e. has_known_operators e ≡ true) e es (known_operators e w) h

both_known : (es fs : List Expression) → HaveKnown es → HaveKnown fs → HaveKnown (es ++ fs)
both_known es fs h i = All-append (λ e. has_known_operators e ≡ true) es fs h i

mutual
  statement_known : (s : Statement) → IsWritableStatement s → HaveKnown (expressions_of_statement s)
  statement_known (Let x e) w = more_known e [] w.1 none_known
  statement_known (Assign x e) w = more_known e [] w.1 none_known
  statement_known (AssignElement x i e) w = more_known i (e ∷ []) w.1 (more_known e [] w.2 none_known)
  statement_known (Emit e) w = more_known e [] w none_known
  statement_known (If e a b) w =
      more_known e _ w.0
      (both_known (expressions_of_statements a) (expressions_of_statements b) (statements_known a w.1) (statements_known b w.2))
  statement_known (While e a) w = more_known e (expressions_of_statements a) w.0 (statements_known a w.1)
  statement_known (Stage kind e) w = more_known e [] w none_known
  statement_known (NextStage kind) w = none_known

  statements_known : (ss : Statements) → AreWritable ss → HaveKnown (expressions_of_statements ss)
  statements_known Empty w = none_known
  statements_known (Then s ss) w =
      both_known (expressions_of_statement s) (expressions_of_statements ss) (statement_known s w.0) (statements_known ss w.1)

-- the operators of a program are known
pub program_known : (tree : SyntaxTree) → IsWritableProgram tree → All (λ e. has_known_operators e ≡ true) (expressions_of tree)
program_known tree w =
    both_known (expressions_of_statements tree.init) _ (statements_known tree.init w.init)
    (more_known tree.test (expressions_of_statements tree.body ++ expressions_of_statements tree.last) w.test
    (both_known (expressions_of_statements tree.body) (expressions_of_statements tree.last)
    (statements_known tree.body w.body) (statements_known tree.last w.last)))

-- ---- numbers

-- a number of the grammar is not negative
pub not_negative : (z : ℤ) → IsNumeral z → pos 0 ≤ℤ z
not_negative z (Numeral n h) = omega (arith, ints)

known_size : (size : Option ℤ) → IsWritableSize size → HasNoNegativeSize size
known_size None w = tt
known_size (Some n) w = not_negative n w

-- no array has a negative size
pub no_negative_size : (ds : List Declaration) → AreWritableCells ds → All (λ (d : Declaration). HasNoNegativeSize d.size) ds
no_negative_size [] w = All-nil (λ (d : Declaration). HasNoNegativeSize d.size)
no_negative_size (d ∷ ds) w = All-cons (λ (d : Declaration). HasNoNegativeSize d.size) d ds (known_size d.size w.1)
    (no_negative_size ds w.3)
