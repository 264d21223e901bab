-- The stage is named.
use Rattle.std.proofs.Common.{w64, ◌∙◌, ◌++◌, ◌∷◌, [], sym, subst, set, length, ◌-◌, ◌<ℤ◌}
use Rattle.std.proofs.lemmas.Int.{to_z-of_z}
use Rattle.order_tests.proofs.PlayedEvents.{advanced, column_nodes}
use Rattle.order_tests.proofs.plays.advance.Goals as goal
use Rattle.order_tests.specs.Plays.{IsPlayed}
use Rattle.order_tests.specs.declared.plays.TheConstants.{MOST_ITERATIONS}
use Rattle.pipe_model.specs.declared.event.Event.TheVariants.{Advance}
use Rattle.pipe_model.specs.declared.status.Status.TheVariants.{Pending}
use Rattle.pipe_model.specs.Races.Columns.{node_at}

pub returns : goal.returns
returns c =
    let columns = c.args.play.now.columns.items in
    let nodes = c.as_slice.ensures ∙ sym (column_nodes columns c.args.i c.index.result.now c.requires.begun c.index.ensures) in
    let number = to_z-of_z w64 c.args.number c.ranges.number in
    subst (λ n. IsPlayed MOST_ITERATIONS c.push.new.self columns (set c.args.play.now.statuses.items c.args.i (Pending c.args.kind n)))
    (sym number)
    (subst (λ es. IsPlayed MOST_ITERATIONS es columns (set c.args.play.now.statuses.items c.args.i (Pending c.args.kind c.args.number)))
    (sym c.in_ok-push.ensures.ok)
    (subst (λ n. IsPlayed MOST_ITERATIONS (c.args.play.now.events ++ Advance c.args.i c.args.kind n ∷ []) columns
    (set c.args.play.now.statuses.items c.args.i (Pending c.args.kind c.args.number))) (sym number)
    (advanced c.requires.played c.args.i c.requires.begun c.args.kind c.args.number c.requires.runs
    c.if-not-may_advance.ensures.kind
    (subst (λ x. (node_at x (length x - 1)).number <ℤ c.args.number) nodes
    (subst (λ n. (node_at c.as_slice.result.now (length c.as_slice.result.now - 1)).number <ℤ n) number
    c.if-not-may_advance.ensures.above)))))
