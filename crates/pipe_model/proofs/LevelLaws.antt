-- Levels of operators and of what derives at them.
use Rattle.std.proofs.Common.{◌≡◌, ℕ, zero, suc, ◌+◌, ◌-◌, ◌<◌, ◌≤◌, List, arith, subst}
use Rattle.pipe_model.specs.declared.symbol.Symbol.{Symbol}
use Rattle.pipe_model.specs.Language.SyntaxTree.{Expression}
use Rattle.pipe_model.specs.Language.Grammar.{level_of, operand_level, Derives, Tighter}

-- each binary operator has a lower level than operands
pub below_operands : (code : ℕ) → level_of code < operand_level
below_operands zero = omega arith
below_operands (suc zero) = omega arith
below_operands (suc (suc zero)) = omega arith
below_operands (suc (suc (suc zero))) = omega arith
below_operands (suc (suc (suc (suc zero)))) = omega arith
below_operands (suc (suc (suc (suc (suc zero))))) = omega arith
below_operands (suc (suc (suc (suc (suc (suc zero)))))) = omega arith
below_operands (suc (suc (suc (suc (suc (suc (suc zero))))))) = omega arith
below_operands (suc (suc (suc (suc (suc (suc (suc (suc zero)))))))) = omega arith
below_operands (suc (suc (suc (suc (suc (suc (suc (suc (suc zero))))))))) = omega arith
below_operands (suc (suc (suc (suc (suc (suc (suc (suc (suc (suc zero)))))))))) = omega arith
below_operands (suc (suc (suc (suc (suc (suc (suc (suc (suc (suc (suc zero))))))))))) = omega arith
below_operands (suc (suc (suc (suc (suc (suc (suc (suc (suc (suc (suc (suc zero)))))))))))) = omega arith
below_operands (suc (suc (suc (suc (suc (suc (suc (suc (suc (suc (suc (suc (suc zero))))))))))))) = omega arith
below_operands (suc (suc (suc (suc (suc (suc (suc (suc (suc (suc (suc (suc (suc (suc n)))))))))))))) = omega arith

-- from a level to one that is lower by these steps
down : (steps : ℕ) {from : ℕ} {ts : List Symbol} {e : Expression} (level : ℕ) → level + steps ≡ from → Derives from ts e
    → Derives level ts e
down zero {ts = ts} {e = e} level h d = subst (λ x. Derives x ts e) (omega (arith, h)) d
down (suc steps) level h d = Tighter (down steps (suc level) (omega (arith, h)) d)

-- what derives at a level derives at each lower one
pub looser : {from : ℕ} {ts : List Symbol} {e : Expression} (level : ℕ) → level ≤ from → Derives from ts e → Derives level ts e
looser {from} level l d = down (from - level) level (omega (arith, l)) d
