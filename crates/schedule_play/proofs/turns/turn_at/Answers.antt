use Rattle.std.proofs.Common.{◌≡◌, ◌∙◌, arith, length, sym, take}
use Rattle.schedule_play.specs.Turns.{iteration_turns}
use Rattle.schedule_play.proofs.TurnCandidates.{turn_here}
use Rattle.schedule_play.proofs.turns.turn_at.Goals as goal

pub returns-then-left-eq0 : goal.returns-then-left-eq0
returns-then-left-eq0 c =
    let s = c.loop-entry in
    let kept = c.args.alive.now in
    let none = c.if-left-eq0.true in
    let so_far = s.invariant in
    let before : length (iteration_turns c.args.room (take s.entry-index kept)) ≡ c.args.index = omega (arith, none, so_far) in
    turn_here c.args.room kept s.entry-index c.args.index _ c.loop-entry-test.true (sym c.may_go.ensures ∙ c.if-may_go.true) before
