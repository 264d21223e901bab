-- Readings of expressions and the faults of their readers, by the first symbols.
use Rattle.std.proofs.Common.{◌≡◌, ℕ, ℤ, suc, List, [], ◌∷◌, ◌++◌, ap, ◌∙◌, ◌≤◌, arith}
use Rattle.pipe_model.specs.declared.operator_codes.TheConstants as operator_codes
use Rattle.pipe_model.specs.declared.sign_bytes.TheConstants as signs
use Rattle.pipe_model.specs.declared.word_codes.TheConstants as words
use Rattle.pipe_model.specs.declared.symbol.Symbol.{Symbol}
use Rattle.pipe_model.specs.declared.symbol.Symbol.TheVariants as symbols
use Rattle.pipe_model.specs.Language.SyntaxTree.{Expression, Number, Name, Element, More, Take, Iter, binary_expression}
use Rattle.pipe_model.specs.Language.Grammar.{any_expression, operand_level, level_of}
use Rattle.grammar_laws.specs.Reading.{Reads, ReadsNumeral, ReadsName, ReadsElement, ReadsMore, ReadsTake, ReadsIter, ReadsNegative}
use Rattle.grammar_laws.specs.Reading.{ReadsNot, ReadsBracketed, Extends, Joins, NoSign}
use Rattle.grammar_laws.specs.ExpressionMachine.{Want, Sign, Tail, ending}
use Rattle.grammar_laws.proofs.ExpressionPassing.{passes, passes_expression, tail_joins, is_op}
use Rattle.pipe_parser.specs.declared.fault.SyntaxFault.{SyntaxFault}
use Rattle.pipe_parser.specs.declared.fault.SyntaxFault.TheVariants as faults
use Rattle.pipe_parser.specs.ExpressionFaults.{ExpressionStops, whole, closed, ReadsUnary}

-- ---- faults

-- a fault after the symbols that were read is the fault of the whole
pub fault_after : (wants others : List Want) (ts us : List Symbol)
    → ((below : List Want) → ending ts (wants ++ below) ≡ ending us (others ++ below)) → (f : SyntaxFault) → ExpressionStops others us f
    → ExpressionStops wants ts f
fault_after wants others ts us h faults.NoMemory x = tt
fault_after wants others ts us h (faults.TooDeep left) x = x
fault_after wants others ts us h (faults.TooLong left) x = x
fault_after wants others ts us h (faults.Unexpected left) x = record { stuck = λ below. h below ∙ x.stuck below }

-- a fault of what may follow an expression of a level
pub fault_chained : (level : ℕ) (a : Expression) (ts mid : List Symbol) → 1 ≤ level → Reads level ts a mid → (f : SyntaxFault)
    → ExpressionStops (Tail ∷ []) mid f
    → ExpressionStops whole ts f
fault_chained level a ts mid l r = fault_after whole (Tail ∷ []) ts mid (λ below. passes level r l below)

-- a fault of the sign that closes an expression
pub fault_closed : (sign : ℕ) (e : Expression) (ts mid : List Symbol) → Reads any_expression ts e mid → (f : SyntaxFault)
    → ExpressionStops (Sign sign ∷ []) mid f
    → ExpressionStops (closed sign) ts f
fault_closed sign e ts mid r = fault_after (closed sign) (Sign sign ∷ []) ts mid (λ below. passes_expression r (Sign sign ∷ below))

-- ---- operators that extend an expression

-- an operator and its operand extend an expression, and so does what follows them
pub joins : (level code : ℕ) (a b e : Expression) (ts following mid rest : List Symbol) → ts ≡ symbols.Operator code ∷ following
    → level_of code ≡ level
    → Reads (suc level) following b mid → Extends level (binary_expression code a b) mid e rest
    → Extends level a ts e rest
joins level code a b e ts following mid rest h i r g = rw h (Joins code i r g)

-- the machine passes them
pub passes_join : (level code : ℕ) (b : Expression) (ts following mid : List Symbol) → 1 ≤ level → ts ≡ symbols.Operator code ∷ following
    → level_of code ≡ level
    → Reads (suc level) following b mid → (below : List Want) → ending ts (Tail ∷ below) ≡ ending mid (Tail ∷ below)
passes_join level code b ts following mid l h i r below =
    ap (λ x. ending x (Tail ∷ below)) h ∙ tail_joins code following below (is_op code level i l)
    ∙ passes (suc level) r (omega (arith, l)) below

-- ---- operands
-- a name without an index
pub name_read : (name : List ℕ) (ts : List Symbol) → NoSign signs.OPEN_SQUARE ts
    → Reads operand_level (symbols.Name name ∷ ts) (Name name) ts
name_read name ts h = ReadsName name ts h

-- a name with an index
pub element_read : (name : List ℕ) (e : Expression) (ts inside rest : List Symbol) → ts ≡ symbols.Sign signs.OPEN_SQUARE ∷ inside
    → Reads any_expression inside e (symbols.Sign signs.CLOSE_SQUARE ∷ rest)
    → Reads operand_level (symbols.Name name ∷ ts) (Element name e) rest
element_read name e ts inside rest h r = rw h (ReadsElement name r)

-- a number
pub number_read : (ts : List Symbol) (n : ℤ) (rest : List Symbol) → ts ≡ symbols.Number n ∷ rest → Reads operand_level ts (Number n) rest
number_read ts n rest h = rw h (ReadsNumeral n rest)

-- the word `more` and its brackets
pub more_read : (ts rest left : List Symbol) → ts ≡ symbols.Word words.MORE ∷ rest
    → rest ≡ symbols.Sign signs.OPEN_ROUND ∷ symbols.Sign signs.CLOSE_ROUND ∷ left
    → Reads operand_level ts More left
more_read ts rest left h i = rw (h, i) (ReadsMore left)

-- the word `take` and its brackets
pub take_read : (ts rest left : List Symbol) → ts ≡ symbols.Word words.TAKE ∷ rest
    → rest ≡ symbols.Sign signs.OPEN_ROUND ∷ symbols.Sign signs.CLOSE_ROUND ∷ left
    → Reads operand_level ts Take left
take_read ts rest left h i = rw (h, i) (ReadsTake left)

-- the word `iter` and its brackets
pub iter_read : (ts rest left : List Symbol) → ts ≡ symbols.Word words.ITER ∷ rest
    → rest ≡ symbols.Sign signs.OPEN_ROUND ∷ symbols.Sign signs.CLOSE_ROUND ∷ left
    → Reads operand_level ts Iter left
iter_read ts rest left h i = rw (h, i) (ReadsIter left)

-- a minus and its operand
pub negative_read : (ts rest left : List Symbol) (e : Expression) → ts ≡ symbols.Operator operator_codes.MINUS ∷ rest
    → ReadsUnary 1 rest e left
    → Reads operand_level ts e left
negative_read ts rest left e h u = rw (h, u.is) (ReadsNegative u.reads)

-- a `!` and its operand
pub not_read : (ts rest left : List Symbol) (e : Expression) → ts ≡ symbols.Sign signs.EXCLAMATION ∷ rest → ReadsUnary 2 rest e left
    → Reads operand_level ts e left
not_read ts rest left e h u = rw (h, u.is) (ReadsNot u.reads)

-- an expression in round brackets
pub bracket_read : (ts inside rest : List Symbol) (e : Expression) → ts ≡ symbols.Sign signs.OPEN_ROUND ∷ inside
    → Reads any_expression inside e (symbols.Sign signs.CLOSE_ROUND ∷ rest)
    → Reads operand_level ts e rest
bracket_read ts inside rest e h r = rw h (ReadsBracketed r)
