use Rattle.std.proofs.Common.{pos, rules, w64}
use Rattle.std.proofs.Math.IntN.{◌-ℤ◌}
use mir.Val.{SFits}
use Rattle.std.proofs.lemmas.Int.{to_z-of_z}
use Rattle.pipe_parser.proofs.ProgramFronts.{value_read, fault_value, minus_read}
use Rattle.pipe_parser.proofs.Results.{if_ok, if_err}
use Rattle.pipe_parser.proofs.program.read_value.Goals as goal

pub returns-in_default-clause-ok : goal.returns-in_default-clause-ok
returns-in_default-clause-ok c = if_ok _ _ c.expect_number.result (λ r h. value_read _ _ _ h) c.expect_number.ensures.ok

pub returns-in_default-clause-err : goal.returns-in_default-clause-err
returns-in_default-clause-err c =
    if_err _ _ c.expect_number.result (λ f h. fault_value _ c.in_default.ensures.none f h) c.expect_number.ensures.err

pub returns-clause-ok : goal.returns-clause-ok
returns-clause-ok c =
    let fits : SFits w64 c.in-Some-after_number.size = search rules in
    let negative : SFits w64 (pos 0 -ℤ c.in-Some-after_number.size) = search rules in
    simp to_z-of_z (minus_read _ _ _ _ c.in-Some.ensures.some c.in-Some-after_number.ensures.some (simp to_z-of_z at c.if-size-lt0.false))
