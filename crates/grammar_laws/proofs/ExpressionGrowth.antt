-- An expression followed by one more operator and operand derives an expression again.
use Rattle.std.proofs.Common.{◌≡◌, ℕ, suc, ◌≤◌, List, ◌∷◌, ◌++◌, sym, append_assoc, arith, subst, inl, inr}
use Rattle.std.proofs.lemmas.Bool.{cases_lt}
use Rattle.pipe_model.specs.declared.symbol.Symbol.{Symbol}
use Rattle.pipe_model.specs.declared.symbol.Symbol.TheVariants as symbols
use Rattle.pipe_model.specs.Language.SyntaxTree.{Expression, binary_expression}
use Rattle.pipe_model.specs.Language.Grammar.{operand_level, Derives, Numeral, Named, Indexed, CallsMore, CallsTake, CallsIter, Negative}
use Rattle.pipe_model.specs.Language.Grammar.{Not, Bracketed, Tighter, Joined, level_of}
use Rattle.pipe_model.proofs.LevelLaws.{below_operands, looser}

-- symbols followed by more symbols derive some expression
pub record Grown (ts more : List Symbol) (level : ℕ) : Type 0 where
  pub e : Expression
  pub derived : Derives level (ts ++ more) e

tighter_grown : (level : ℕ) {ts more : List Symbol} → Grown ts more (suc level) → Grown ts more level
tighter_grown level x = record { e = x.e; derived = Tighter x.derived }

right_grown : (level : ℕ) {left right more : List Symbol} {a : Expression} (code : ℕ) → level_of code ≡ level → Derives level left a
    → Grown right more (suc level)
    → Grown (left ++ symbols.Operator code ∷ right) more level
right_grown level {left} {right} {more} {a} code h d x = record {
  e = binary_expression code a x.e;
  derived =
      subst (λ us. Derives level us (binary_expression code a x.e)) (sym (append_assoc left (symbols.Operator code ∷ right) more))
      (Joined code h d x.derived);
}

grown_here : (level code : ℕ) {ts us : List Symbol} {a b : Expression} → level_of code ≡ level → Derives level ts a
    → Derives operand_level us b
    → Grown ts (symbols.Operator code ∷ us) level
grown_here level code {a = a} {b = b} h d d' =
    record {
      e = binary_expression code a b;
      derived =
          Joined code h d (looser (suc level) (let l = below_operands code in omega (arith, h, l)) d');
    }

-- the operator has this level or a higher one
chosen : (level code : ℕ) {ts us : List Symbol} {a b : Expression} → level ≤ level_of code → Derives level ts a → Derives operand_level us b
    → (suc level ≤ level_of code → Grown ts (symbols.Operator code ∷ us) level)
    → Grown ts (symbols.Operator code ∷ us) level
chosen level code l d d' go =
    elim (cases_lt level (level_of code)) [ inl h ↦ go (omega (arith, h)) | inr h ↦ grown_here level code (omega (arith, h, l)) d d' ]

-- no operator has the level of operands
no_operand : {A : Type 0} (code : ℕ) → operand_level ≤ level_of code → A
no_operand code l = let h = below_operands code in absurd (omega (arith, l, h))

-- with an operator of the expression's level or a higher one, and an operand, after it
pub grown : (code : ℕ) {us : List Symbol} {b : Expression} → Derives operand_level us b → {level : ℕ} {ts : List Symbol} {a : Expression}
    → Derives level ts a → level ≤ level_of code → Grown ts (symbols.Operator code ∷ us) level
grown code o (Numeral n) l = no_operand code l
grown code o (Named name) l = no_operand code l
grown code o (Indexed name d) l = no_operand code l
grown code o CallsMore l = no_operand code l
grown code o CallsTake l = no_operand code l
grown code o CallsIter l = no_operand code l
grown code o (Negative d) l = no_operand code l
grown code o (Not d) l = no_operand code l
grown code o (Bracketed d) l = no_operand code l
grown code o (Tighter {level} d) l = chosen level code l (Tighter d) o (λ h. tighter_grown level (grown code o d h))
grown code o (Joined {level} code' e d d') l = chosen level code l (Joined code' e d d') o
    (λ h. right_grown level code' e d (grown code o d' h))
