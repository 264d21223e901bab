-- `final` has run, or not.
use Rattle.std.proofs.Common.{◌≡◌, ◌∙◌, ◌++◌, sym, true, false}
use Rattle.std.specs.Prelude.{◌&&◌, is_some, not}
use Rattle.pipe_model.specs.Language.ProgramsOfTrees.{whole_of}
use Rattle.pipe_model.specs.Language.SyntaxTree.{tree_of}
use Rattle.pipe_model.specs.Pipelines.Behaviour.{accesses_in}
use Rattle.pipe_model.specs.Pipelines.WholePrograms.{init_accesses}
use Rattle.pipe_model.specs.Runs.RunLogs.{accesses_after, state_after}
use Rattle.pipe_model.specs.Runs.State.{accesses_of}
use Rattle.program_ends.specs.ProgramEnds.{reaches_final}
use Rattle.program_ends.proofs.RunResults.{after_final, trap_by_columns, without_final}
use Rattle.serial_elision.proofs.Elisions.{last_trace}
use Rattle.serial_elision.proofs.PartRuns.{has_output}
use Rattle.program_ends.proofs.ends.end_with_trap.Goals as goal

pub returns-then-not-runs_final : goal.returns-then-not-runs_final
returns-then-not-runs_final c = λ limit events columns h is.
    let w = whole_of (tree_of c.args.prepared.now.checked.now) c.args.prepared.now.input.now in
    let before = init_accesses w ++ accesses_of (accesses_after events) in
    let first = trap_by_columns (tree_of c.args.prepared.now.checked.now) c.args.prepared.now.input.now limit events columns
    c.args.trap c.requires.no_trap h.run h.columns_are is in
    let not_run : (reaches_final c.args.finished c.args.reports.now && not (is_some c.args.trap)) ≡ false =
    sym c.runs_final.ensures ∙ c.if-not-runs_final.true in
    without_final w (reaches_final c.args.finished c.args.reports.now) (state_after events) c.into_output.result
    c.args.trap not_run
    first (c.into_output.ensures.output w.loop.store before h.state (has_output c.args.cells c.requires.serves.whole))

pub returns : goal.returns
returns c = λ limit events columns h is.
    let w = whole_of (tree_of c.args.prepared.now.checked.now) c.args.prepared.now.input.now in
    let before = init_accesses w ++ accesses_of (accesses_after events) in
    let first = trap_by_columns (tree_of c.args.prepared.now.checked.now) c.args.prepared.now.input.now limit events columns
    c.args.trap c.requires.no_trap h.run h.columns_are is in
    let ran : (reaches_final c.args.finished c.args.reports.now && not (is_some c.args.trap)) ≡ true =
    sym c.runs_final.ensures ∙ c.if-not-runs_final.false in
    after_final w (reaches_final c.args.finished c.args.reports.now) (state_after events) c.into_output-2.result
    c.args.trap
    c.in_ok-last.last.trap ran first (c.in_ok-last.ensures.trap before h.state)
    (c.into_output-2.ensures.output w.loop.store (before ++ accesses_in (last_trace w (accesses_of (accesses_after events))))
    (c.in_ok-last.ensures.state before h.state) (has_output c.in_ok-last.last.cells c.in_ok-last.ensures.serves.whole))
