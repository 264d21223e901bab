-- The named stage is entered.
use Rattle.std.proofs.Common.{w64, ◌≡◌, ◌++◌, ◌∷◌, [], ◌∙◌, sym, ap, subst, set}
use Rattle.std.proofs.lemmas.Int.{to_z-of_z}
use Rattle.order_tests.proofs.PlayedEvents.{entered}
use Rattle.order_tests.proofs.plays.enter.Goals as goal
use Rattle.order_tests.specs.Plays.{IsPlayed}
use Rattle.order_tests.specs.declared.plays.TheConstants.{MOST_ITERATIONS}
use Rattle.pipe_model.specs.declared.node.Kind.TheVariants.{Wait}
use Rattle.pipe_model.specs.Pipelines.Behaviour.{node_of}
use Rattle.pipe_model.specs.Races.Columns.{nodes_at, node_columns}
use Rattle.pipe_model.specs.Runs.Allowed.{LeftHasPassed}
use Rattle.pipe_model.specs.Runs.ControlParts.{control_after}
use Rattle.pipe_model.specs.declared.status.Status.TheVariants.{Running}

pub returns : goal.returns
returns c =
    let number = to_z-of_z w64 c.args.number c.ranges.number in
    let columns = c.args.play.now.columns.items in
    subst (λ es. IsPlayed MOST_ITERATIONS es c.push_node.new.columns.items (set c.args.play.now.statuses.items c.args.i Running))
    (sym c.in_ok-push.ensures.ok)
    (entered c.requires.played c.args.i c.requires.begun c.args.kind c.args.number c.push_node.new.columns.items c.requires.named
    (subst (λ n. c.args.kind ≡ Wait → LeftHasPassed (control_after c.args.play.now.events).frames c.args.i n) number
    c.if-not-may_enter.ensures)
    (c.in_ok-push_node.ensures.nodes ∙ ap (λ n. set (node_columns columns) c.args.i
    (nodes_at (node_columns columns) c.args.i ++ node_of c.args.kind n ∷ [])) number)
    c.in_ok-push_node.ensures.len)
