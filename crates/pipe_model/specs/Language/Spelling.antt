-- Which symbols spell which program, within the bounds on brackets and full expressions, and the first fault of symbols that spell none.
use Rattle.std.specs.Prelude.{◌≡◌, ◌<◌, ◌≤◌, ◌-◌, ◌+◌, ℕ, Bool, List, [], ◌∷◌, ◌++◌, length, ◌==◌, ◌||◌, false}
use Rattle.pipe_model.specs.declared.bounds.TheConstants.{MOST_OPEN_BRACKETS, LONGEST_EXPRESSION}
use Rattle.pipe_model.specs.declared.sign_bytes.TheConstants as signs
use Rattle.std.specs.List.{count_by}
use Rattle.pipe_model.specs.declared.symbol.Symbol.{Symbol}
use Rattle.pipe_model.specs.declared.symbol.Symbol.TheVariants as symbols
use Rattle.pipe_model.specs.Language.Grammar.{Piece, Single, FullExpression, flat, DerivesProgram}
use Rattle.pipe_model.specs.Language.SyntaxTree.{SyntaxTree}

-- `(`, `[` or `{`
abbrev pub is_opening_bracket : Symbol → Bool
is_opening_bracket (symbols.Sign b) = (b == signs.OPEN_ROUND) || ((b == signs.OPEN_SQUARE) || (b == signs.OPEN_BRACE))
is_opening_bracket (symbols.Name name) = false
is_opening_bracket (symbols.Word k) = false
is_opening_bracket (symbols.Number n) = false
is_opening_bracket (symbols.Operator code) = false

-- `)`, `]` or `}`
abbrev pub is_closing_bracket : Symbol → Bool
is_closing_bracket (symbols.Sign b) = (b == signs.CLOSE_ROUND) || ((b == signs.CLOSE_SQUARE) || (b == signs.CLOSE_BRACE))
is_closing_bracket (symbols.Name name) = false
is_closing_bracket (symbols.Word k) = false
is_closing_bracket (symbols.Number n) = false
is_closing_bracket (symbols.Operator code) = false

-- the number of brackets that are still open after the symbols
abbrev pub open_brackets : List Symbol → ℕ
open_brackets ts = count_by is_opening_bracket ts - count_by is_closing_bracket ts

-- no prefix leaves too many brackets open
pub record IsShallow (ts : List Symbol) : Type 0 where
  pub shallow : (before after : List Symbol) → ts ≡ before ++ after → open_brackets before ≤ MOST_OPEN_BRACKETS

-- each full expression has at most `longest` symbols
abbrev pub AreShort : ℕ → List Piece → Type 0
AreShort longest [] = Unit {0}
AreShort longest (Single t ∷ ps) = AreShort longest ps
AreShort longest (FullExpression ts ∷ ps) = (length ts ≤ longest) × AreShort longest ps

pub record Spells (ts : List Symbol) (tree : SyntaxTree) : Type 0 where
  pub pieces : List Piece
  pub split : ts ≡ flat pieces
  pub derived : DerivesProgram pieces tree
  pub short : AreShort LONGEST_EXPRESSION pieces
  pub shallow : IsShallow ts

-- the symbols are a prefix of the symbols of some program, by the grammar alone
pub record IsProgramPrefix (before : List Symbol) : Type 0 where
  pub after : List Symbol
  pub pieces : List Piece
  pub tree : SyntaxTree
  pub derived : DerivesProgram pieces tree
  pub split : before ++ after ≡ flat pieces

-- the last of the symbols is number LONGEST_EXPRESSION + 1 of a full expression
pub record EndsTooLong (ts : List Symbol) : Type 0 where
  pub before : List Piece
  pub inside : List Symbol
  pub more : List Symbol
  pub after : List Piece
  pub tree : SyntaxTree
  pub derived : DerivesProgram (before ++ FullExpression (inside ++ more) ∷ after) tree
  pub many : length inside ≡ LONGEST_EXPRESSION + 1
  pub split : ts ≡ flat before ++ inside

-- none of the symbols breaks a rule
pub record BreaksNoGrammarRule (ts : List Symbol) : Type 0 where
  pub front : IsProgramPrefix ts
  pub shallow : IsShallow ts
  pub short : (before after : List Symbol) → ts ≡ before ++ after → EndsTooLong before → ⊥

-- the rules that a symbol may break
pub data GrammarRule : Type 0 where
  Unexpected : GrammarRule
  TooDeep : GrammarRule
  TooLong : GrammarRule

-- the rule that is broken first, with the number of symbols before the one that breaks it; at one symbol the rules count in their order
pub data FirstFault : List Symbol → GrammarRule → ℕ → Type 0 where
  UnexpectedSymbol : (before : List Symbol) (t : Symbol) (after : List Symbol) → BreaksNoGrammarRule before
      → (IsProgramPrefix (before ++ t ∷ []) → ⊥)
      → FirstFault (before ++ t ∷ after) Unexpected (length before)
  UnexpectedEnd : (ts : List Symbol) → BreaksNoGrammarRule ts
      → ((pieces : List Piece) (tree : SyntaxTree) → DerivesProgram pieces tree → ts ≡ flat pieces → ⊥)
      → FirstFault ts Unexpected (length ts)
  FirstTooDeep : (before : List Symbol) (t : Symbol) (after : List Symbol) → BreaksNoGrammarRule before → IsProgramPrefix (before ++ t ∷ [])
      → MOST_OPEN_BRACKETS < open_brackets (before ++ t ∷ []) → FirstFault (before ++ t ∷ after) TooDeep (length before)
  FirstTooLong : (before : List Symbol) (t : Symbol) (after : List Symbol) → BreaksNoGrammarRule before
      → open_brackets (before ++ t ∷ []) ≤ MOST_OPEN_BRACKETS
      → EndsTooLong (before ++ t ∷ []) → FirstFault (before ++ t ∷ after) TooLong (length before)
