use Rattle.std.proofs.lemmas.Result.{err_from_is_err_and}
use Rattle.pipe_parser.proofs.ProgramFronts.{fault_loop_body}
use Rattle.pipe_parser.proofs.program.read_loop.Goals as goal

pub returns-in_err-body-clause-err : goal.returns-in_err-body-clause-err
returns-in_err-body-clause-err c =
    let p = err_from_is_err_and c.from_residual-in_err-body.result c.from_residual-in_err-body.ensures.1 in
    rw (p.1, p.2) (fault_loop_body _ _ _ _ c.in_ok-following.ensures.ok c.in_ok-test.ensures.ok _ c.in_err-body.ensures.err)
