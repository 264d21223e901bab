use Rattle.std.proofs.Common.{rules, w64}
use mir.Val.{SFits}
use Rattle.std.proofs.lemmas.Int.{to_z-of_z}
use Rattle.pipe_parser.proofs.ProgramFronts.{size_missing, size_read}
use Rattle.pipe_parser.proofs.program.read_size.Goals as goal

pub returns-in_default-clause-ok : goal.returns-in_default-clause-ok
returns-in_default-clause-ok c = size_missing _ c.in_default.ensures.none

pub returns-clause-ok : goal.returns-clause-ok
returns-clause-ok c =
    let fits : SFits w64 c.in_ok-size.size = search rules in
    simp to_z-of_z (size_read _ _ _ _ _ c.in-Some.ensures.some c.in_ok-size.ensures.ok c.in_ok-rest.ensures.ok)
