-- Code that is appended to other code, and its length.
use Rattle.std.specs.Prelude.{◌≤◌, ◌+◌, ◌==◌, ◌||◌, ℕ, List, length, Bool, if◌then◌else◌}
use Rattle.pipe_model.specs.declared.operator_codes.TheConstants.{OR, AND}
use Rattle.stage_code.specs.declared.code_bounds.TheConstants.{LONGEST_CODE}
use Rattle.stage_code.specs.declared.instr.Instr.{Instr}
use Rattle.stage_code.specs.declared.instr.Instr.TheVariants as instrs

-- both together are not too long
abbrev pub CodeFits : List Instr → List Instr → Type 0
CodeFits before more = length before + length more ≤ LONGEST_CODE

-- the operator of this code is `||` or `&&`, which may leave their right side unevaluated
abbrev pub is_short : ℕ → Bool
is_short op = (op == OR) || (op == AND)

-- the test of such an operator, after its left side
abbrev pub test_code : ℕ → ℕ → Instr
test_code op to = if op == OR then instrs.OrTest to else instrs.AndTest to
