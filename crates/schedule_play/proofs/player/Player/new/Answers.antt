use Rattle.std.proofs.Common.{◌∙◌, subst}
use Rattle.pipe_model.specs.declared.tree.Limits.{Limits}
use Rattle.pipe_model.specs.Language.SyntaxTree.{tree_of}
use Rattle.stage_code.specs.LimitRanges.{HasRangesOfLimits}
use Rattle.schedule_play.proofs.Playing.Beginnings.{new_play}
use Rattle.schedule_play.proofs.player.Player.new.Goals as goal

pub returns-in-Ok-clause-play : goal.returns-in-Ok-clause-play
returns-in-Ok-clause-play g c =
    let code = g.B.PlayedCode.code in
    let cells = g.B.PlayedCode.cells in
    let tree = tree_of c.args.checked.now in
    let accepted = c.requires.accepted in
    let book = c.in-Ok.book in
    let schedule = c.in_ok-schedule.schedule in
    let ranges = subst (λ (l : Limits). HasRangesOfLimits l) (c.limits-limits.ensures.limits ∙ c.requires.code_of.limits)
    c.limits-limits.ensures.in_range in
    let play = new_play code tree c.args.input.now c.args.throttle book.program c.args.cells schedule accepted ranges
    c.in-Ok.ensures.tree
    c.requires.state c.requires.all c.requires.bounded c.in_ok-schedule.ensures.empty c.in_ok-schedule.ensures.limit in
    rw (c.in-Ok.ensures.book, c.new-in-Ok.ensures.items, c.new-in-Ok-2.ensures, ← c.requires.cells) play
