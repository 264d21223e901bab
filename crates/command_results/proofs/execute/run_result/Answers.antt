use Rattle.pipe_model.specs.Language.SyntaxTree.{tree_of}
use Rattle.serial_elision.proofs.Results.{map_ok}
use Rattle.command_results.proofs.HeadlineLaws.{run_returned}
use Rattle.command_results.proofs.execute.run_result.Goals as goal

pub returns : goal.returns
returns g c =
    map_ok c.finished_result.result c.finished_result.ensures (λ a printed. (
      c.in_ok-run.run'.run_log,
      run_returned (tree_of c.args.checked.now) c.args.input.now c.args.throttle c.args.with_log c.in_ok-run.run' a c.requires.accepted
          c.in_ok-run.ensures.run printed,
    ))
