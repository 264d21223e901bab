-- The machine of expressions passes each expression that is read.
use Rattle.std.proofs.Common.{◌≡◌, ℕ, suc, ◌<◌, ◌≤◌, List, [], ◌∷◌, refl, ◌∙◌, arith, subst, true, false, ◌==◌}
use Rattle.pipe_model.specs.declared.sign_bytes.TheConstants as signs
use Rattle.pipe_model.specs.declared.symbol.Symbol.{Symbol}
use Rattle.pipe_model.specs.declared.symbol.Symbol.TheVariants as symbols
use Rattle.pipe_model.specs.Language.SyntaxTree.{Expression}
use Rattle.pipe_model.specs.Language.Grammar.{any_expression, operand_level, level_of}
use Rattle.grammar_laws.specs.Reading.{Reads, ReadsNumeral, ReadsName, ReadsElement, ReadsMore, ReadsTake, ReadsIter, ReadsNegative}
use Rattle.grammar_laws.specs.Reading.{ReadsNot, ReadsBracketed, ReadsChain, Extends, Ends, Joins, NoSign, next_level}
use Rattle.grammar_laws.proofs.ExpressionReading.{level_at_front, no_next_level}
use Rattle.grammar_laws.specs.ExpressionMachine.{Want, Sign, Operand, Index, Tail, ending, is_operator}

no_index : (ts : List Symbol) (wants : List Want) → NoSign signs.OPEN_SQUARE ts → ending ts (Index ∷ wants) ≡ ending ts wants
no_index [] wants h = refl
no_index (symbols.Name n ∷ ts) wants h = refl
no_index (symbols.Word n ∷ ts) wants h = refl
no_index (symbols.Number n ∷ ts) wants h = refl
no_index (symbols.Operator n ∷ ts) wants h = refl
no_index (symbols.Sign n ∷ ts) wants h = let e : (n == signs.OPEN_SQUARE) ≡ false = grind (arith, h) in rw e refl

-- a level of at least 1 belongs to an operator
pub is_op : (code level : ℕ) → level_of code ≡ level → 1 ≤ level → is_operator code ≡ true
is_op code level h l = grind (arith, h, l)

pub tail_joins : (code : ℕ) (ts : List Symbol) (wants : List Want) → is_operator code ≡ true
    → ending (symbols.Operator code ∷ ts) (Tail ∷ wants) ≡ ending ts (Operand ∷ Tail ∷ wants)
tail_joins code ts wants h = rw h refl

-- the machine passes the symbols of a reading of the level
record Passes (level : ℕ) (ts rest : List Symbol) : Type 0 where
  operand : level ≡ operand_level → (wants : List Want) → ending ts (Operand ∷ wants) ≡ ending rest wants
  chain : 1 ≤ level → (wants : List Want) → ending ts (Operand ∷ Tail ∷ wants) ≡ ending rest (Tail ∷ wants)

-- an operand, whatever follows
operand_passes : {ts rest : List Symbol} → ((wants : List Want) → ending ts (Operand ∷ wants) ≡ ending rest wants)
    → Passes operand_level ts rest
operand_passes p = record { operand = λ e. p; chain = λ l wants. p (Tail ∷ wants) }

mutual
  passes_at : {level : ℕ} {ts rest : List Symbol} {e : Expression} → Reads level ts e rest → Passes level ts rest
  passes_at (ReadsNumeral n rest) = operand_passes (λ wants. refl)
  passes_at (ReadsName n rest h) = operand_passes (λ wants. no_index rest wants h)
  passes_at (ReadsElement name r) = operand_passes (λ wants. (passes_at r).chain (omega arith) (Sign signs.CLOSE_SQUARE ∷ wants))
  passes_at (ReadsMore rest) = operand_passes (λ wants. refl)
  passes_at (ReadsTake rest) = operand_passes (λ wants. refl)
  passes_at (ReadsIter rest) = operand_passes (λ wants. refl)
  passes_at (ReadsNegative r) = operand_passes ((passes_at r).operand refl)
  passes_at (ReadsNot r) = operand_passes ((passes_at r).operand refl)
  passes_at (ReadsBracketed r) = operand_passes (λ wants. (passes_at r).chain (omega arith) (Sign signs.CLOSE_ROUND ∷ wants))
  passes_at (ReadsChain {level} {ts} {mid} {a = a} r g) = record {
    operand = λ e. absurd (no_next_level (subst (λ x. Reads (suc x) ts a mid) e r));
    chain = λ l wants. (passes_at r).chain (omega (arith, l)) wants ∙ passes_extension g wants l;
  }

  -- operators with their right operands
  pub passes_extension : {level : ℕ} {ts rest : List Symbol} {a e : Expression} → Extends level a ts e rest → (wants : List Want)
      → 1 ≤ level
      → ending ts (Tail ∷ wants) ≡ ending rest (Tail ∷ wants)
  passes_extension (Ends ts h) wants l = refl
  passes_extension (Joins {level} {ts = ts} {mid = mid} code h r g) wants l =
      tail_joins code ts wants (is_op code level h l) ∙ (passes_at r).chain (omega (arith, l)) wants ∙ passes_extension g wants l

-- an expression of a level; more operators may follow
pub passes : (level : ℕ) {ts rest : List Symbol} {e : Expression} → Reads level ts e rest → 1 ≤ level → (wants : List Want)
    → ending ts (Operand ∷ Tail ∷ wants) ≡ ending rest (Tail ∷ wants)
passes level r l = (passes_at r).chain l

mutual
  -- no operator that could extend the expression follows it
  pub reads_end : {level : ℕ} {ts rest : List Symbol} {e : Expression} → Reads level ts e rest → next_level rest < level
  reads_end (ReadsNumeral n rest) = level_at_front rest
  reads_end (ReadsName n rest h) = level_at_front rest
  reads_end (ReadsElement {rest = rest} name r) = level_at_front rest
  reads_end (ReadsMore rest) = level_at_front rest
  reads_end (ReadsTake rest) = level_at_front rest
  reads_end (ReadsIter rest) = level_at_front rest
  reads_end (ReadsNegative {rest = rest} r) = level_at_front rest
  reads_end (ReadsNot {rest = rest} r) = level_at_front rest
  reads_end (ReadsBracketed {rest = rest} r) = level_at_front rest
  reads_end (ReadsChain r g) = extension_ends g (reads_end r)

  extension_ends : {level : ℕ} {ts rest : List Symbol} {a e : Expression} → Extends level a ts e rest → next_level ts < suc level
      → next_level rest < level
  extension_ends (Ends {level} ts h) l = omega (arith, h, l)
  extension_ends (Joins code h r g) l = extension_ends g (reads_end r)

not_operator : (code : ℕ) → level_of code < any_expression → is_operator code ≡ false
not_operator code l = grind (arith, l)

-- if no operator follows, no further operand is wanted
pub no_tail : (ts : List Symbol) (wants : List Want) → next_level ts < any_expression → ending ts (Tail ∷ wants) ≡ ending ts wants
no_tail [] wants h = refl
no_tail (symbols.Name n ∷ ts) wants h = refl
no_tail (symbols.Word n ∷ ts) wants h = refl
no_tail (symbols.Number n ∷ ts) wants h = refl
no_tail (symbols.Operator n ∷ ts) wants h = rw (not_operator n h) refl
no_tail (symbols.Sign n ∷ ts) wants h = refl

pub passes_expression : {ts rest : List Symbol} {e : Expression} → Reads any_expression ts e rest → (wants : List Want)
    → ending ts (Operand ∷ Tail ∷ wants) ≡ ending rest wants
passes_expression {rest = rest} r wants = passes any_expression r (omega arith) wants ∙ no_tail rest wants (reads_end r)
