use Rattle.std.proofs.Common.{rules, ◌≡◌}
use Rattle.std.proofs.lemmas.Result.{err_from_is_err_and}
use Rattle.pipe_parser.proofs.StatementFronts.{fault_index, fault_assigned, element_read}
use Rattle.pipe_parser.proofs.statement.read_element.Goals as goal

pub returns-in_err-rest-clause-err : goal.returns-in_err-rest-clause-err
returns-in_err-rest-clause-err c =
    let p = err_from_is_err_and c.from_residual-in_err-rest.result c.from_residual-in_err-rest.ensures.1 in
    rw (p.1, p.2) (fault_index _ _ _ c.in_ok-index.ensures.ok _ c.in_err-rest.ensures.err)

pub returns-in_err-e-clause-err : goal.returns-in_err-e-clause-err
returns-in_err-e-clause-err c =
    let p = err_from_is_err_and c.from_residual-in_err-e.result c.from_residual-in_err-e.ensures.1 in
    rw (p.1, p.2) (fault_assigned _ _ _ _ c.in_ok-index.ensures.ok c.in_ok-rest.ensures.ok _ c.in_err-e.ensures.err)

pub returns-clause-ok : goal.returns-clause-ok
returns-clause-ok c =
    let same : c.in_ok-name.name ≡ c.args.name.now = search rules in
    rw same (element_read _ _ _ _ _ _ _ c.in_ok-index.ensures.ok c.in_ok-rest.ensures.ok c.in_ok-e.ensures.ok)
