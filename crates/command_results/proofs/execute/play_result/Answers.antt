use Rattle.pipe_model.specs.Language.SyntaxTree.{tree_of}
use Rattle.serial_elision.proofs.Results.{map_ok}
use Rattle.command_results.proofs.SeededPlays.{play_returned}
use Rattle.command_results.proofs.execute.play_result.Goals as goal

pub returns : goal.returns
returns c =
    map_ok c.finished_result.result c.finished_result.ensures (λ a printed.
    play_returned (tree_of c.args.checked.now) c.args.input.now c.args.workers c.args.throttle c.args.seed c.args.with_log
    c.in_ok-run.run' a c.requires.accepted c.in_ok-run.ensures printed)
