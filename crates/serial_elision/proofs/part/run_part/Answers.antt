use Rattle.std.proofs.Common.{◌∙◌, ◌≤◌, ◌+◌, ap, refl, subst, arith, length, length-append, rules, w64}
use Rattle.std.proofs.lemmas.Int.{to_z-of_z}
use mir.Val.{SFits}
use Rattle.pipe_model.specs.declared.tree.Limits.{Limits}
use Rattle.pipe_model.specs.Language.CheckingRules.{cell_total}
use Rattle.pipe_model.specs.Language.Programs.{natural, store_of}
use Rattle.pipe_model.specs.Language.SyntaxTree.{tree_of}
use Rattle.stage_interp.specs.RemainingBehaviour.{behaviour_in}
use Rattle.stage_interp.specs.TreeRuns.{interaction_in}
use Rattle.serial_elision.specs.InstanceRuns.{CountsNext}
use Rattle.serial_elision.proofs.PartRuns.{left_begun, left_ended, left_entered, natural_most}
use Rattle.serial_elision.proofs.StepCounts.{steps_begun, steps_ended, steps_entered}
use Rattle.serial_elision.proofs.part.run_part.Goals as goal

pub loop-nodes-init : goal.loop-nodes-init
loop-nodes-init c =
    let tree = tree_of c.args.prepared.now.checked.now in
    let code = c.args.prepared.now.code.now in
    let input = c.args.prepared.now.input.now in
    let cells = c.args.log.cells.shard.cells in
    let served : cell_total tree.cells + 2 ≤ cells = omega (arith, c.requires.serves.count) in
    let represents = c.reset.ensures.represents tree code cells input c.requires.code c.requires.made served in
    let represents_tree = c.reset.ensures.tree tree code cells input c.requires.code c.requires.made served in
    let one = ap length c.in_ok-nodes.ensures in
    record {
      left = left_begun code cells input (store_of tree) (behaviour_in tree input c.args.part c.args.iteration) c.args.iteration c.args.log
          c.reset.new.self.run c.in_ok-nodes.nodes represents c.in_ok-nodes.ensures;
      counted = steps_begun code cells input (store_of tree) (interaction_in tree input c.args.part c.args.iteration) c.args.log
          c.args.steps.now c.reset.new.self.run represents_tree;
      made = c.reset.ensures.made;
      shard = refl;
      whole = c.requires.serves.whole;
      nonempty = omega (arith, one);
      room = omega (arith, one);
      bounded = subst (λ l. natural l ≤ 4096) (ap (λ l. l.stages) c.limits-limits.ensures.limits)
          (natural_most _ 4096 c.limits-limits.ensures.in_range.stages.1);
    }

pub loop-nodes-preserved : goal.loop-nodes-preserved
loop-nodes-preserved c =
    let tree = tree_of c.args.prepared.now.checked.now in
    let code = c.args.prepared.now.code.now in
    let input = c.args.prepared.now.input.now in
    let s = c.loop-nodes in
    let ran = c.in_ok-end.ran in
    let fits : SFits w64 c.in-Next.number = search rules in
    let took : SFits w64 c.steps.result = search rules in
    let grown = simp to_z-of_z at c.in_ok-push-in-Next.ensures.ok in
    let counts = subst (λ e. CountsNext e s.machine.run.state.stage.count c.run_instance.new.machine.run.state.stage.count
    (natural code.limits.stages)) c.in-Next.is c.in_ok-end.ensures.counts in
    let more = counts.0 in
    let within = counts.1 in
    let longer = ap length grown ∙ length-append s.nodes _ in
    record {
      left = left_entered code c.args.log.cells.shard.cells s.log.cells.shard.cells input (store_of tree)
          (behaviour_in tree input c.args.part c.args.iteration) c.args.iteration c.args.log s.machine.run
          c.run_instance.new.machine.run c.last_node-node.result s.nodes c.push-in-Next.new.self s.log ran c.in_ok-end.end c.in-Next.kind
          c.in-Next.number s.invariant.left c.in_ok-end.ensures.ran (ap (λ x. x.cells) s.invariant.shard) c.last_node-node.ensures
          c.in-Next.is grown;
      counted = steps_entered code c.args.log.cells.shard.cells s.log.cells.shard.cells input (store_of tree)
          (interaction_in tree input c.args.part c.args.iteration) c.args.log c.args.steps.now s.machine.run
          c.run_instance.new.machine.run c.last_node-node.result s.log ran s.steps _ c.steps.result c.in_ok-end.end
          c.in-Next.kind c.in-Next.number s.invariant.counted c.in_ok-end.ensures.tree (ap (λ x. x.cells) s.invariant.shard) c.in-Next.is
          c.run_instance.ensures.budget c.steps.ensures (simp to_z-of_z at c.in_ok-push.ensures.ok);
      made = λ k h. c.run_instance.ensures.made k (s.invariant.made k h);
      shard = c.in_ok-end.ensures.shard ∙ s.invariant.shard;
      whole = c.in_ok-end.ensures.whole;
      nonempty = omega (arith, longer);
      room = omega (arith, longer, more, within, s.invariant.room);
      bounded = s.invariant.bounded;
    }

pub returns-in-Ended-clause-ran : goal.returns-in-Ended-clause-ran
returns-in-Ended-clause-ran c = λ before state.
    let tree = tree_of c.args.prepared.now.checked.now in
    let code = c.args.prepared.now.code.now in
    let input = c.args.prepared.now.input.now in
    let s = c.loop-nodes in
    left_ended code c.args.log.cells.shard.cells s.log.cells.shard.cells input (store_of tree)
    (behaviour_in tree input c.args.part c.args.iteration) c.args.iteration c.args.log s.machine.run
    c.run_instance.new.machine.run c.last_node-node.result s.nodes s.log c.in_ok-end.ran c.in_ok-end.end c.in-Ended.end before
    s.invariant.left c.in_ok-end.ensures.ran (ap (λ x. x.cells) s.invariant.shard) c.last_node-node.ensures c.in-Ended.is state

pub returns-in-Ended-clause-made : goal.returns-in-Ended-clause-made
returns-in-Ended-clause-made c = λ k h. c.run_instance.ensures.made k (c.loop-nodes.invariant.made k h)

pub returns-in-Ended-clause-steps : goal.returns-in-Ended-clause-steps
returns-in-Ended-clause-steps c = λ before state.
    let tree = tree_of c.args.prepared.now.checked.now in
    let code = c.args.prepared.now.code.now in
    let input = c.args.prepared.now.input.now in
    let s = c.loop-nodes in
    let took : SFits w64 c.steps.result = search rules in
    steps_ended code c.args.log.cells.shard.cells s.log.cells.shard.cells input (store_of tree)
    (interaction_in tree input c.args.part c.args.iteration) c.args.log c.args.steps.now s.machine.run
    c.run_instance.new.machine.run c.last_node-node.result s.log c.in_ok-end.ran s.steps _ c.steps.result c.in_ok-end.end c.in-Ended.end
    before (natural tree.limits.steps) s.invariant.counted c.in_ok-end.ensures.tree (ap (λ x. x.cells) s.invariant.shard) c.in-Ended.is
    c.run_instance.ensures.budget c.steps.ensures (simp to_z-of_z at c.in_ok-push.ensures.ok)
    (ap (λ (l : Limits). natural l.steps) c.requires.code.limits) state
