-- The iteration has begun.
use Rattle.std.proofs.Common.{◌∙◌, pos, ◌++◌, ◌∷◌, [], sym, ap, subst, length, None}
use Rattle.order_tests.proofs.PlayedEvents.{begun}
use Rattle.order_tests.proofs.plays.begin.Goals as goal
use Rattle.order_tests.specs.Plays.{IsPlayed}
use Rattle.order_tests.specs.declared.plays.TheConstants.{MOST_ITERATIONS}
use Rattle.pipe_model.specs.declared.column.Column.{Column}
use Rattle.pipe_model.specs.declared.event.Event.TheVariants.{Begin}
use Rattle.pipe_model.specs.declared.node.Kind.TheVariants.{Zero}
use Rattle.pipe_model.specs.Pipelines.Behaviour.{node_of}

pub returns : goal.returns
returns c =
    let play = c.args.play.now in
    let new : Column = record { nodes = c.push.new.self; end = None } in
    subst (λ es. IsPlayed MOST_ITERATIONS es c.push-2.new.self.items c.push-3.new.self.items)
    (sym (c.in_ok-push-4.ensures.ok ∙ ap (λ i. play.events ++ Begin i ∷ []) (c.len-i.ensures ∙ play.columns.ok.0)))
    (subst (λ cs. IsPlayed MOST_ITERATIONS (play.events ++ Begin (length play.columns.items) ∷ []) cs c.push-3.new.self.items)
    (sym c.in_ok-push-2.ensures.items)
    (subst (λ ss. IsPlayed MOST_ITERATIONS (play.events ++ Begin (length play.columns.items) ∷ []) (play.columns.items ++ new ∷ []) ss)
    (sym c.in_ok-push-3.ensures.items)
    (begun c.requires new (c.in_ok-push.ensures.ok ∙ ap (λ x. x ++ node_of Zero (pos 0) ∷ []) c.new-nodes.ensures)
    c.if-not-may_begin.ensures)))
