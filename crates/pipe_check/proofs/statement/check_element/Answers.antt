use Rattle.std.proofs.lemmas.Result.{err_from_is_err_and}
use Rattle.pipe_model.specs.Language.SyntaxTree.{expression_of}
use Rattle.pipe_check.proofs.Elements.{index_refused, value_decides}
use Rattle.pipe_check.proofs.statement.check_element.Goals as goal

pub returns-in_err-next-2 : goal.returns-in_err-next-2
returns-in_err-next-2 c =
    let p = err_from_is_err_and c.from_residual-in_err-next-2.result c.from_residual-in_err-next-2.ensures.1 in
    rw (p.1, p.2) (index_refused c.args.scope.now _ _ c.args.name.now (expression_of c.args.i.now) (expression_of c.args.e.now) _
    c.in_ok-next.ensures c.in_err-next-2.ensures)

pub returns : goal.returns
returns c =
    value_decides c.args.scope.now _ _ _ c.args.name.now (expression_of c.args.i.now) (expression_of c.args.e.now) _
    c.in_ok-next.ensures c.in_ok-next-2.ensures c.check_expression-2.ensures
