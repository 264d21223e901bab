use Rattle.std.proofs.Common.{◌∙◌}
use Rattle.pipe_model.specs.Language.SyntaxTree.{tree_of}
use Rattle.command_results.proofs.SeededPlays.{seeded_play}
use Rattle.command_results.proofs.program_play.play_program.Goals as goal

pub returns : goal.returns
returns c =
    let tree = tree_of c.args.checked.now in
    let played = c.in_ok-run_log.ensures in
    let accepted = c.requires.accepted in
    rw c.of_run_log.ensures
    (seeded_play tree c.args.input.now c.args.workers c.args.throttle c.args.seed c.as_slice.result.now c.enough_turns.result
    c.in_ok-run_log.field-0
    (c.as_slice.ensures.value ∙ c.in_ok-choices.ensures.choices)
    (c.enough_turns.ensures tree (record {
      accepted = accepted.obeys;
      limits = c.in_ok-code.ensures.limits;
      runs =
          c.in_ok-code.ensures.runs;
    }))
    played.events played.run played.columns played.throttled played.finished played.reports played.right played.elision played.enough)
