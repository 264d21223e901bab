use Rattle.std.proofs.Common.{◌≡◌, ◌∙◌, ap, sym, subst, []}
use Rattle.pipe_model.specs.declared.node.NodeId.{NodeId}
use Rattle.pipe_model.specs.Language.Programs.{natural}
use Rattle.serial_elision.specs.declared.log.Log.{Log}
use Rattle.serial_elision.specs.Recording.{Adds, Recording, made_since}
use Rattle.serial_elision.proofs.InstanceRuns.{ran_from, tree_ran_from}
use Rattle.serial_elision.proofs.Recording.{made_none}
use Rattle.stage_interp.specs.RemainingBehaviour.{RanInstance, Represents}
use Rattle.stage_interp.specs.TreeRuns.{RanTree, RepresentsTree}
use Rattle.serial_elision.proofs.instance.run_from.Goals as goal

pub returns-in-Some-clause-ran : goal.returns-in-Some-clause-ran
returns-in-Some-clause-ran g c = λ t represents.
    let log = g.B.Beginning.log in
    let code = c.args.prepared.now.code.now in
    let input = c.args.prepared.now.input.now in
    let begun = c.new-recorder.ensures in
    let now = c.into_log.result in
    let run = c.run_stage-end.new.self.run in
    let none : made_since log c.new-recorder.result.log ≡ [] =
    ap (λ (r : Recording). made_since log r.log) begun ∙ ap (made_since log) c.requires.log ∙ made_none log in
    let ran = c.run_stage-end.ensures.ran t (subst (λ (r : Recording). Represents code r.log.cells.shard.cells input c.args.machine.now.run
    t)
    (sym begun) represents) in
    let adds = c.into_log.ensures.adds (sym c.is_full.ensures ∙ c.if-is_full.false) in
    let own = subst (λ (x : NodeId). Adds x log (made_since log now) now) (sym c.requires.node) adds in
    let since = subst (λ (l : Log). Adds c.args.node l (made_since log now) now) (sym c.requires.log) own in
    ran_from code c.args.log.cells.shard.cells input t c.args.node c.args.log now run _ c.in-Some.end _ _ none
    (subst (λ (r : Recording). RanInstance code r.log.cells.shard.cells input t (made_since log c.new-recorder.result.log)
    (made_since log c.run_stage-end.new.memory.log) run c.run_stage-end.result) begun ran)
    (subst (λ (l : Log). Adds c.args.node c.args.log (made_since log l) now) c.into_log.ensures.log since)
    (sym c.instance_end.ensures ∙ c.in-Some.is)

pub returns-in-Some-clause-tree : goal.returns-in-Some-clause-tree
returns-in-Some-clause-tree g c = λ d represents.
    let log = g.B.Beginning.log in
    let code = c.args.prepared.now.code.now in
    let input = c.args.prepared.now.input.now in
    let begun = c.new-recorder.ensures in
    let now = c.into_log.result in
    let run = c.run_stage-end.new.self.run in
    let none : made_since log c.new-recorder.result.log ≡ [] =
    ap (λ (r : Recording). made_since log r.log) begun ∙ ap (made_since log) c.requires.log ∙ made_none log in
    let ran = c.run_stage-end.ensures.tree d (subst (λ (r : Recording). RepresentsTree code r.log.cells.shard.cells input
    c.args.machine.now.run d)
    (sym begun) represents) in
    let adds = c.into_log.ensures.adds (sym c.is_full.ensures ∙ c.if-is_full.false) in
    let own = subst (λ (x : NodeId). Adds x log (made_since log now) now) (sym c.requires.node) adds in
    let since = subst (λ (l : Log). Adds c.args.node l (made_since log now) now) (sym c.requires.log) own in
    tree_ran_from code c.args.log.cells.shard.cells input d c.args.node c.args.log now run _ c.in-Some.end _ _ none
    (subst (λ (r : Recording). RanTree code r.log.cells.shard.cells input d (natural code.limits.steps)
    (made_since log c.new-recorder.result.log)
    (made_since log c.run_stage-end.new.memory.log) run c.run_stage-end.result) begun ran)
    (subst (λ (l : Log). Adds c.args.node c.args.log (made_since log l) now) c.into_log.ensures.log since)
    (sym c.instance_end.ensures ∙ c.in-Some.is)
