-- The starts of a run are the instances of its columns.
use Rattle.std.proofs.Common.{◌∙◌, sym, subst}
use Rattle.order_tests.proofs.OwnStarts.{all_instances}
use Rattle.order_tests.proofs.replay_rows.lists_agree_with.Goals as goal
use Rattle.pipe_model.specs.Races.Columns.{IsNodeOf}
use Rattle.std.specs.List.{All}

pub lists_agree-requires-clause-instances : goal.lists_agree-requires-clause-instances
lists_agree-requires-clause-instances c =
    subst (All (IsNodeOf c.args.dag.now)) (sym c.as_slice.ensures)
    (subst (λ columns. All (IsNodeOf columns) c.in_ok-replayed.replayed.nodes) (sym (c.requires.dag ∙ c.requires.own.columns))
    (all_instances _ c.in_ok-replayed.replayed.nodes c.in_ok-replayed.ensures.instances))
