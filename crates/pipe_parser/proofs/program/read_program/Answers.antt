use Rattle.std.proofs.Common.{◌≡◌, ◌<◌, length, arith}
use Rattle.std.proofs.lemmas.Result.{err_from_is_err_and}
use Rattle.pipe_parser.proofs.ProgramFronts.{refuses_limits, refuses_cells, refuses_init, refuses_loop, refuses_last, refuses_more}
use Rattle.pipe_parser.proofs.ProgramFronts.{program_read}
use Rattle.pipe_parser.proofs.program.read_program.Goals as goal

pub returns-in_err-limits-clause-err : goal.returns-in_err-limits-clause-err
returns-in_err-limits-clause-err c =
    let p = err_from_is_err_and c.from_residual.result c.from_residual.ensures.1 in
    rw (p.1, p.2) (refuses_limits _ _ c.in_err-limits.ensures.err)

pub returns-in_err-cells-clause-err : goal.returns-in_err-cells-clause-err
returns-in_err-cells-clause-err c =
    let p = err_from_is_err_and c.from_residual-in_err-cells.result c.from_residual-in_err-cells.ensures.1 in
    rw (p.1, p.2) (refuses_cells _ _ _ c.in_ok-limits.ensures.ok _ c.in_err-cells.ensures.err)

pub returns-in_err-init-clause-err : goal.returns-in_err-init-clause-err
returns-in_err-init-clause-err c =
    let p = err_from_is_err_and c.from_residual-in_err-init.result c.from_residual-in_err-init.ensures.1 in
    rw (p.1, p.2) (refuses_init _ _ _ _ _ c.in_ok-limits.ensures.ok c.in_ok-cells.ensures.ok _ c.in_err-init.ensures.err)

pub returns-in_err-test-clause-err : goal.returns-in_err-test-clause-err
returns-in_err-test-clause-err c =
    let p = err_from_is_err_and c.from_residual-in_err-test.result c.from_residual-in_err-test.ensures.1 in
    rw (p.1, p.2) (refuses_loop _ _ _ _ _ _ _ c.in_ok-limits.ensures.ok c.in_ok-cells.ensures.ok c.in_ok-init.ensures.ok _
    c.in_err-test.ensures.err)

pub returns-in_err-last-clause-err : goal.returns-in_err-last-clause-err
returns-in_err-last-clause-err c =
    let p = err_from_is_err_and c.from_residual-in_err-last.result c.from_residual-in_err-last.ensures.1 in
    rw (p.1, p.2) (refuses_last _ _ _ _ _ _ _ _ _ _ c.in_ok-limits.ensures.ok c.in_ok-cells.ensures.ok c.in_ok-init.ensures.ok
    c.in_ok-test.ensures.ok _ c.in_err-last.ensures.err)

pub returns-then-len-gt0-clause-err : goal.returns-then-len-gt0-clause-err
returns-then-len-gt0-clause-err c =
    let some : 0 < length c.in_ok-last.rest = omega (arith, c.if-len-gt0.true, c.len.ensures) in
    rw c.len-then-len-gt0.ensures (refuses_more c.in_ok-limits.limits c.in_ok-cells.cells _ _ _ _ _ _ _ _ _ _ c.in_ok-limits.ensures.ok
    c.in_ok-cells.ensures.ok c.in_ok-init.ensures.ok c.in_ok-test.ensures.ok c.in_ok-last.ensures.ok some)

pub returns-clause-ok : goal.returns-clause-ok
returns-clause-ok c =
    let none : length c.in_ok-last.rest ≡ 0 = omega (arith, c.if-len-gt0.false, c.len.ensures) in
    program_read c.in_ok-limits.limits c.in_ok-cells.cells _ _ _ _ _ _ _ _ _ _ c.in_ok-limits.ensures.ok c.in_ok-cells.ensures.ok
    c.in_ok-init.ensures.ok c.in_ok-test.ensures.ok c.in_ok-last.ensures.ok none
