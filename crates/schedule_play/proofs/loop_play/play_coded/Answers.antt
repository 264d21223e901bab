use Rattle.std.proofs.Common.{subst, sym}
use Rattle.std.specs.Result.{IfOk}
use Rattle.pipe_model.specs.Language.CheckingRules.{BreaksNoRule}
use Rattle.pipe_model.specs.Language.SyntaxTree.{tree_of}
use Rattle.schedule_play.specs.LoopPlays.{IsLoopPlay}
use Rattle.schedule_play.proofs.loop_play.play_coded.Goals as goal

pub play_on-requires : goal.play_on-requires
play_on-requires g c =
    let ensured = c.in-Ok.ensures in
    record {
      code = c.requires.code;
      input = sym ensured.input;
      play = ensured.play;
      new = ensured.new;
      accepted = subst (λ t. BreaksNoRule t) (sym ensured.tree) c.requires.accepted;
      workers = c.requires.workers;
      throttle = c.requires.throttle;
      limit = ensured.limit;
    }

pub returns-in-Ok : goal.returns-in-Ok
returns-in-Ok g c =
    let ensured = c.in-Ok.ensures in
    let program = c.in-Ok.player.book.program in
    subst (λ t. IfOk c.play_on.result (IsLoopPlay t c.args.input.now c.args.limits c.args.choices.now)) ensured.tree
    (subst (λ i. IfOk c.play_on.result (IsLoopPlay (tree_of program) i c.args.limits c.args.choices.now)) ensured.input
    c.play_on.ensures)
