use Rattle.std.proofs.Common.{arith, below_more, get_or, subst}
use Rattle.std.proofs.lemmas.List.{get_or_default}
use Rattle.pipe_model.specs.Races.Columns.{node_columns}
use Rattle.pipe_model.specs.declared.access.NodeAccess.{NodeAccess}
use Rattle.dag_build.specs.NodeColumns.{IsAccessOf}
use Rattle.order_tests.proofs.dag_rows.are_accesses.Goals as goal

pub loop-access-preserved : goal.loop-access-preserved
loop-access-preserved c = λ n d before.
    let columns = node_columns c.args.columns.now in
    let accesses = c.args.accesses.now in
    let i = c.loop-access.access-index in
    below_more (λ k. (e : NodeAccess) → IsAccessOf columns (get_or accesses k e)) i (λ k under e. c.loop-access.invariant k e under)
    (λ e. subst (IsAccessOf columns) (get_or_default accesses i _ e c.loop-access-test.true) c.if-not-is_node.ensures) n before d

pub returns : goal.returns
returns c = λ n d within. c.loop-access.invariant n d (omega (arith, within, c.loop-access-test.false))
