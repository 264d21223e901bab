-- The turns of the lowered loop.
use Rattle.std.proofs.Common.{◌≡◌, ap, refl, ℕ, suc, pos, true, false, [], ◌∷◌, ◌<◌, ◌≤◌, ◌+◌, ◌^◌, arith}
use Rattle.std.specs.Prelude.{int_lt}
use Rattle.std.proofs.lemmas.Bool.{lt-ltb, le-ltb}
use Rattle.pipe_model.specs.declared.operator_codes.TheConstants as operator_codes
use Rattle.pipe_model.specs.declared.node.Kind.TheVariants.{Wait}
use Rattle.pipe_model.specs.Language.Evaluation.{Setting, Environment, evaluate, execute, execute_all, is_i64}
use Rattle.pipe_model.specs.Language.Evaluation.{leave_block, loop_turns}
use Rattle.pipe_model.specs.Language.Interaction.{Interaction, Return, bind}
use Rattle.pipe_model.specs.Language.Interaction as interactions
use Rattle.pipe_model.specs.Language.SyntaxTree.{Expression, Number, Name, Binary, Statement, Assign, Statements}
use Rattle.wave_laws.specs.Waves.LoweredLoops.{lowered_turn}
use Rattle.wave_laws.specs.Waves.Points.{at_row, steps}
use Rattle.wave_laws.specs.Waves.WaveLoops.{row}

-- `row < k`
abbrev pub below : ℕ → Expression
below k = Binary operator_codes.LESS (Name row) (Number (pos k))

-- the lowered loop, with at most n turns, in this environment
abbrev pub turns_from : Setting → Statements → (k n : ℕ) → Environment → Interaction Environment
turns_from setting rest k n env = loop_turns n (λ now. evaluate setting now.locals (below k)) (execute_all setting (lowered_turn rest)) env

lt_pos : (a b : ℕ) → a < b → int_lt (pos a) (pos b) ≡ true
lt_pos a b h = lt-ltb a b h

le_pos : (a b : ℕ) → b ≤ a → int_lt (pos a) (pos b) ≡ false
le_pos a b h = le-ltb a b h

fits : (r : ℕ) → r + 1 < 2 ^ 63 → is_i64 (pos (r + 1)) ≡ true
fits r h = lt-ltb (r + 1) (2 ^ 63) h

-- the local that is the row counts
abbrev count_row : Statement
count_row = Assign row (Binary operator_codes.PLUS (Name row) (Number (pos 1)))

-- the environment of row r + 1 before its row is counted
abbrev entering : ℕ → Environment
entering r = record { locals = record { name = row; value = pos r } ∷ []; stage = record { number = pos (r + 1); count = r + 1 + 1 } }

row_counts : (setting : Setting) (r : ℕ) → r + 1 < 2 ^ 63 → execute setting count_row (entering r) ≡ steps 4 (Return (at_row (r + 1)))
row_counts setting r small = rw (fits r small) refl

-- after a row that is not the last, the loop goes on to the next row
pub next_turn : (setting : Setting) (rest : Statements) (k n r : ℕ) → r < k → r + 1 < setting.world.stages → r + 1 < 2 ^ 63
    → turns_from setting rest k (suc n) (at_row r)
    ≡ steps 9 (interactions.Stage Wait (pos (r + 1)) (steps 4
    (bind (execute_all setting rest (at_row (r + 1))) (λ after. turns_from setting rest k n (leave_block (at_row r) after)))))
next_turn setting rest k n r l room small =
    rw (lt_pos r k l, le_pos r 0 (omega arith), fits r small, lt_pos r (r + 1) (omega arith), lt-ltb (r + 1) setting.world.stages room)
    (ap (λ d. steps 9 (interactions.Stage Wait (pos (r + 1))
    (bind (bind d (execute_all setting rest))
    (λ after. turns_from setting rest k n (leave_block (at_row r) after))))) (row_counts setting r small))

-- after the last row, the loop ends
pub last_turn : (setting : Setting) (rest : Statements) (k n : ℕ)
    → turns_from setting rest k (suc n) (at_row k) ≡ steps 4 (Return (at_row k))
last_turn setting rest k n = rw (le_pos k k (omega arith)) refl
