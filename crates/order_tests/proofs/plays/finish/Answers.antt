-- The iteration has ended.
use Rattle.std.proofs.Common.{◌∙◌, ◌≡◌, sym, subst, set, length}
use Rattle.order_tests.proofs.PlayedEvents.{column_nodes, iteration_ended}
use Rattle.order_tests.proofs.plays.finish.Goals as goal
use Rattle.order_tests.specs.Plays.{IsPlayed}
use Rattle.order_tests.specs.declared.plays.TheConstants.{MOST_ITERATIONS}
use Rattle.pipe_model.specs.declared.column.ColumnEnd.TheVariants.{Closed}
use Rattle.pipe_model.specs.declared.status.Status.TheVariants.{Completed}

pub returns : goal.returns
returns c =
    let nodes = c.as_slice.ensures ∙ sym (column_nodes c.args.play.now.columns.items c.args.i c.index.result.now c.requires.begun
    c.index.ensures) in
    subst (λ es. IsPlayed MOST_ITERATIONS es c.set_end.new.columns.items
    (set c.args.play.now.statuses.items c.args.i (Completed c.args.end)))
    (sym c.in_ok-push.ensures.ok)
    (iteration_ended c.requires.played c.args.i c.requires.begun c.args.end c.set_end.new.columns.items c.requires.runs
    (subst (λ x. c.args.end ≡ Closed → length x ≡ 1) nodes c.if-not-may_finish.ensures) c.set_end.ensures.nodes c.set_end.ensures.len)
