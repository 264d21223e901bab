use Rattle.std.proofs.Common.{◌≡◌, ◌∙◌, [], ap, arith, sym, false}
use Rattle.std.specs.Prelude.{is_some}
use Rattle.pipe_model.specs.Language.ProgramsOfTrees.{whole_of}
use Rattle.pipe_model.specs.Language.SyntaxTree.{tree_of}
use Rattle.pipe_model.specs.Pipelines.WholePrograms.{init_trap}
use Rattle.serial_elision.proofs.Results.{map_ok}
use Rattle.schedule_play.proofs.PlayedPrograms.{loop_was_played, plays_meet_the_headline}
use Rattle.schedule_play.proofs.program_play.play_prepared.Goals as goal

pub run_alone-requires : goal.run_alone-requires
run_alone-requires c = record { code = c.requires.code; made = c.requires.made; serves = c.in_ok-cells.ensures.serves }

pub end_after_init-requires : goal.end_after_init-requires
end_after_init-requires c = record {
  trap = c.in_ok-init.ensures.trap [] c.in_ok-cells.ensures.state;
  trapped = sym c.is_some.ensures ∙ c.if-is_some.true;
  serves = c.in_ok-init.ensures.serves;
  state = c.in_ok-init.ensures.state [] c.in_ok-cells.ensures.state;
}

pub returns-then-is_some-clause-played : goal.returns-then-is_some-clause-played
returns-then-is_some-clause-played c = c.end_after_init.ensures

pub returns-then-is_some-clause-meets : goal.returns-then-is_some-clause-meets
returns-then-is_some-clause-meets c =
    let tree = tree_of c.args.prepared.now.checked.now in
    let accepted = c.requires.accepted in
    plays_meet_the_headline tree c.args.prepared.now.input.now c.args.limits c.args.choices.now c.end_after_init.result accepted
    c.requires.throttle c.requires.workers c.end_after_init.ensures

pub play_loop-play-requires : goal.play_loop-play-requires
play_loop-play-requires c =
    let serves = c.in_ok-init.ensures.serves in
    let count = serves.count in
    let bounded = serves.bounded in
    record {
      code_of = c.requires.code;
      accepted = c.requires.accepted;
      workers = c.requires.workers;
      throttle = c.requires.throttle;
      served = omega (arith, count);
      bounded = omega (arith, bounded);
      all = record { shards = serves.whole.shards; number = serves.whole.number };
      state = c.in_ok-init.ensures.state [] c.in_ok-cells.ensures.state;
    }

pub end_after_loop-requires-clause-code : goal.end_after_loop-requires-clause-code
end_after_loop-requires-clause-code c = c.requires.code

pub end_after_loop-requires-clause-made : goal.end_after_loop-requires-clause-made
end_after_loop-requires-clause-made c = c.in_ok-init.ensures.made

pub end_after_loop-requires-clause-accepted : goal.end_after_loop-requires-clause-accepted
end_after_loop-requires-clause-accepted c = c.requires.accepted

pub end_after_loop-requires-clause-run : goal.end_after_loop-requires-clause-run
end_after_loop-requires-clause-run c = (c.args.limits.throttle, c.in-Ok.ensures.scheduled.run)

pub end_after_loop-requires-clause-columns : goal.end_after_loop-requires-clause-columns
end_after_loop-requires-clause-columns c = c.in-Ok.ensures.scheduled.columns

pub end_after_loop-requires-clause-serves : goal.end_after_loop-requires-clause-serves
end_after_loop-requires-clause-serves c =
    let init = c.in_ok-init.ensures.serves in
    let played = c.in-Ok.ensures in
    let state = c.in_ok-init.ensures.state [] c.in_ok-cells.ensures.state in
    let same = played.state.cells ∙ sym state.cells in
    let bounded = init.bounded in
    record {
      whole = record { shards = played.all.shards; number = played.all.number };
      count = same ∙ init.count;
      bounded = omega (arith, same, bounded);
    }

pub end_after_loop-requires-clause-state : goal.end_after_loop-requires-clause-state
end_after_loop-requires-clause-state c = c.in-Ok.ensures.state

pub end_after_loop-requires-clause-no_trap : goal.end_after_loop-requires-clause-no_trap
end_after_loop-requires-clause-no_trap c =
    let w = whole_of (tree_of c.args.prepared.now.checked.now) c.args.prepared.now.input.now in
    let trap : c.in_ok-init.init.trap ≡ init_trap w = c.in_ok-init.ensures.trap [] c.in_ok-cells.ensures.state in
    ap is_some (sym trap) ∙ sym c.is_some.ensures ∙ c.if-is_some.false

pub returns-in-Ok-clause-played : goal.returns-in-Ok-clause-played
returns-in-Ok-clause-played c =
    let tree = tree_of c.args.prepared.now.checked.now in
    let input = c.args.prepared.now.input.now in
    let w = whole_of tree input in
    let trap : c.in_ok-init.init.trap ≡ init_trap w = c.in_ok-init.ensures.trap [] c.in_ok-cells.ensures.state in
    let none : is_some (init_trap w) ≡ false = ap is_some (sym trap) ∙ sym c.is_some.ensures ∙ c.if-is_some.false in
    map_ok c.end_after_loop.result c.end_after_loop.ensures (λ r end.
    loop_was_played tree input c.args.limits c.args.choices.now c.in-Ok.play r none c.in-Ok.ensures end)

pub returns-in-Ok-clause-meets : goal.returns-in-Ok-clause-meets
returns-in-Ok-clause-meets c =
    let tree = tree_of c.args.prepared.now.checked.now in
    let input = c.args.prepared.now.input.now in
    let w = whole_of tree input in
    let accepted = c.requires.accepted in
    let trap : c.in_ok-init.init.trap ≡ init_trap w = c.in_ok-init.ensures.trap [] c.in_ok-cells.ensures.state in
    let none : is_some (init_trap w) ≡ false = ap is_some (sym trap) ∙ sym c.is_some.ensures ∙ c.if-is_some.false in
    map_ok c.end_after_loop.result c.end_after_loop.ensures (λ r end.
    plays_meet_the_headline tree input c.args.limits c.args.choices.now r accepted c.requires.throttle c.requires.workers
    (loop_was_played tree input c.args.limits c.args.choices.now c.in-Ok.play r none c.in-Ok.ensures end))
