use Rattle.std.proofs.lemmas.Result.{err_from_is_err_and}
use Rattle.pipe_parser.proofs.StatementFronts.{fault_number, fault_after_number}
use Rattle.pipe_parser.proofs.statement.read_stage.Goals as goal

pub returns-in_err-e-clause-err : goal.returns-in_err-e-clause-err
returns-in_err-e-clause-err c =
    let p = err_from_is_err_and c.from_residual-in_err-e.result c.from_residual-in_err-e.ensures.1 in
    rw (p.1, p.2) (fault_number _ _ c.in_ok-inside.ensures.ok c.in_default.ensures.none _ c.in_err-e.ensures.err)

pub returns-in_err-rest-2-clause-err : goal.returns-in_err-rest-2-clause-err
returns-in_err-rest-2-clause-err c =
    let p = err_from_is_err_and c.from_residual-in_err-rest-2.result c.from_residual-in_err-rest-2.ensures.1 in
    rw (p.1, p.2) (fault_after_number _ _ _ _ c.in_ok-inside.ensures.ok c.in_ok-e.ensures.ok _ c.in_err-rest-2.ensures.err)
