use Rattle.pipe_engine.proofs.EngineRuns.{ran_to_end}
use Rattle.pipe_model.specs.Language.SyntaxTree.{tree_of}
use Rattle.pipe_engine.proofs.run.run_of_loop.Goals as goal

pub end_with_trap-requires-clause-run : goal.end_with_trap-requires-clause-run
end_with_trap-requires-clause-run c =
    let end = c.args.end in (c.args.throttle, end.run_log.events, end.run_log.columns, c.requires.end.after)

pub returns : goal.returns
returns c =
    let tree = tree_of c.args.prepared.now.checked.now in
    let input = c.args.prepared.now.input.now in
    let end = c.args.end in
    ran_to_end tree input c.args.throttle end c.in_ok-output.field-0 c.requires.accepted c.requires.end
    (c.in_ok-output.ensures c.args.throttle end.run_log.events end.run_log.columns c.requires.end.after c.requires.end.trap)
