use Rattle.std.proofs.lemmas.Result.{err_from_is_err_and}
use Rattle.pipe_parser.proofs.StatementFronts.{fault_full}
use Rattle.pipe_parser.proofs.statement.read_until.Goals as goal

pub returns-in_err-rest-clause-err : goal.returns-in_err-rest-clause-err
returns-in_err-rest-clause-err c =
    let p = err_from_is_err_and c.from_residual-in_err-rest.result c.from_residual-in_err-rest.ensures.1 in
    rw (p.1, p.2) (fault_full _ _ _ _ c.in_ok-e.ensures.ok _ c.in_err-rest.ensures.err)
