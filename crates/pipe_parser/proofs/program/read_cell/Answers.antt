use Rattle.std.proofs.Common.{rules, w64, ◌≡◌}
use mir.Val.{SFits}
use Rattle.std.proofs.lemmas.Int.{to_z-of_z}
use Rattle.std.proofs.lemmas.Result.{err_from_is_err_and}
use Rattle.pipe_parser.proofs.ProgramFronts.{fault_equals, fault_cell_end, cell_read}
use Rattle.pipe_parser.proofs.program.read_cell.Goals as goal

pub returns-in_err-third-clause-err : goal.returns-in_err-third-clause-err
returns-in_err-third-clause-err c =
    let p = err_from_is_err_and c.from_residual-in_err-third.result c.from_residual-in_err-third.ensures.1 in
    rw (p.1, p.2) (fault_equals _ _ _ _ _ c.in-Some.ensures.some c.in_ok-size.ensures.ok _ c.in_err-third.ensures.err)

pub returns-in_err-rest-clause-err : goal.returns-in_err-rest-clause-err
returns-in_err-rest-clause-err c =
    let p = err_from_is_err_and c.from_residual-in_err-rest.result c.from_residual-in_err-rest.ensures.1 in
    rw (p.1, p.2)
    (fault_cell_end _ _ _ _ _ _ _ _ c.in-Some.ensures.some c.in_ok-size.ensures.ok c.in_ok-third.ensures.ok c.in_ok-value.ensures.ok _
    c.in_err-rest.ensures.err)

pub returns-clause-ok : goal.returns-clause-ok
returns-clause-ok c =
    let fits : SFits w64 c.in_ok-value.value = search rules in
    let same : c.in_ok-name.name ≡ c.in-Some.name.now = search rules in
    rw same (simp to_z-of_z
    (cell_read _ _ _ _ _ _ _ _ _ c.in-Some.ensures.some c.in_ok-size.ensures.ok c.in_ok-third.ensures.ok c.in_ok-value.ensures.ok
    c.in_ok-rest.ensures.ok))
