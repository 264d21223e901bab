use Rattle.std.proofs.Common.{◌∙◌, ap, ap₂, sym}
use Rattle.pipe_model.specs.declared.tree.Program.{Program}
use Rattle.pipe_model.specs.Language.ProgramsOfTrees.{pipeline_after_init}
use Rattle.pipe_model.specs.Language.SyntaxTree.{tree_of}
use Rattle.pipe_model.specs.Runs.Schedules.{played}
use Rattle.serial_elision.proofs.Results.{map_ok}
use Rattle.schedule_play.proofs.PlayedRuns.{loop_play}
use Rattle.schedule_play.proofs.loop_play.play_on.Goals as goal

pub returns-in-Ok : goal.returns-in-Ok
returns-in-Ok g c =
    let first = c.args.player in
    let last = c.play_turns-played.new.player in
    let limits = c.args.limits in
    let ensured = c.in-Ok.ensures in
    let same = ap₂ (λ (q : Program) i. pipeline_after_init (tree_of q) i) ensured.keeps.program ensured.keeps.input in
    let events = ensured.events ∙ sym (ap₂ (λ q l. played q l limits.workers c.args.choices.now limits.turns) same ensured.keeps.limit) in
    map_ok c.end_play.result c.end_play.ensures (λ r end.
    loop_play (tree_of first.book.program) first.book.input limits c.args.choices.now last g.B.PlayedCode.code g.B.PlayedCode.cells r
    ensured.play
    c.requires.throttle c.requires.workers (ap (λ (q : Program). tree_of q) ensured.keeps.program)
    ensured.keeps.input
    (ensured.keeps.limit ∙ c.requires.limit) events end)
