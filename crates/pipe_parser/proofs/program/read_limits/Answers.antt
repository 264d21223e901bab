use Rattle.std.proofs.lemmas.Result.{err_from_is_err_and}
use Rattle.pipe_parser.proofs.ProgramFronts.{fault_emits}
use Rattle.pipe_parser.proofs.program.read_limits.Goals as goal

pub returns-in_err-emits-clause-err : goal.returns-in_err-emits-clause-err
returns-in_err-emits-clause-err c =
    let p = err_from_is_err_and c.from_residual-in_err-emits.result c.from_residual-in_err-emits.ensures.1 in
    rw (p.1, p.2)
    (fault_emits _ _ _ _ _ _ _ _ c.in_ok-first.ensures.ok c.in_ok-iterations.ensures.ok c.in_ok-stages.ensures.ok c.in_ok-steps.ensures.ok _
    c.in_err-emits.ensures.err)
