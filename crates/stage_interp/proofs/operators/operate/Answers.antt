use Rattle.std.proofs.Common.{◌≡◌, ◌==◌, ℕ, ℤ, arith, false, pos, refl}
use Rattle.std.proofs.lemmas.Bool.Decides.{nat_tests}
use Rattle.pipe_model.specs.Language.Evaluation as evaluation
use Rattle.pipe_model.specs.Language.Interaction.{Return}
use Rattle.stage_interp.proofs.operators.operate.Goals as goal

-- the test of two numbers that differ
differs : (n k : ℕ) → (n ≡ k → ⊥) → (n == k) ≡ false
differs n k h = grind (arith, nat_tests)

-- the value where no operator has the code
no_operator : (code : ℕ) (a b : ℤ) → (code ≡ 3 → ⊥) → (code ≡ 4 → ⊥) → (code ≡ 5 → ⊥) → (code ≡ 6 → ⊥) → (code ≡ 7 → ⊥) → (code ≡ 8 → ⊥)
    → (code ≡ 9 → ⊥) → (code ≡ 10 → ⊥) → (code ≡ 11 → ⊥) → (code ≡ 12 → ⊥) → (code ≡ 13 → ⊥)
    → evaluation.operate code a b ≡ Return (pos 0)
no_operator code a b h3 h4 h5 h6 h7 h8 h9 h10 h11 h12 h13 =
    rw (
      differs code 3 h3,
      differs code 4 h4,
      differs code 5 h5,
      differs code 6 h6,
      differs code 7 h7,
      differs code 8 h8,
      differs code 9 h9,
      differs code 10 h10,
      differs code 11 h11,
      differs code 12 h12,
      differs code 13 h13,
    ) refl

pub returns-in_default : goal.returns-in_default
returns-in_default c =
    no_operator c.args.code c.args.a c.args.b (omega arith) (omega arith) (omega arith) (omega arith) (omega arith) (omega arith)
    (omega arith) (omega arith) (omega arith) (omega arith) (omega arith)
