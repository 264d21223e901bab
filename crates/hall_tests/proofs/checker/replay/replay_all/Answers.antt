use Rattle.pipe_model.specs.Language.SyntaxTree.{tree_of}
use Rattle.hall_tests.proofs.checker.replay.replay_all.Goals as goal

pub loop-event-init : goal.loop-event-init
loop-event-init c =
    let prepared = c.args.prepared.now in (
      _,
      c.reset.ensures.represents (tree_of prepared.checked) prepared.code c.cells-cells.result prepared.input c.requires.prepared.code_of
          c.requires.made c.cells-cells.ensures.all,
    )
