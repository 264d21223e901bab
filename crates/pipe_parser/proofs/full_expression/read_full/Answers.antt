use Rattle.std.proofs.Common.{◌≤◌, length, arith}
use Rattle.std.proofs.lemmas.Result.{err_from_is_err_and}
use Rattle.pipe_parser.proofs.FullExpressions.{stuck_fault}
use Rattle.pipe_parser.proofs.full_expression.read_full.Goals as goal

pub returns-in_err-e-clause-err : goal.returns-in_err-e-clause-err
returns-in_err-e-clause-err c =
    let short : length c.args.symbols.now ≤ 256 = grind (arith, c.if-len-gt-LONGEST_EXPRESSION.false) in
    let p = err_from_is_err_and c.from_residual.result c.from_residual.ensures.1 in
    rw (p.1, p.2) (stuck_fault _ short _ c.in_err-e.ensures.err)
