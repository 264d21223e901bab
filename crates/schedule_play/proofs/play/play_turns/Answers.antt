use Rattle.std.proofs.Common.{◌≡◌, ◌∙◌, ap, sym, refl, Option, Some, None}
use Rattle.std.specs.Prelude.{option_map}
use Rattle.pipe_model.specs.declared.event.Event.{Event}
use Rattle.pipe_model.specs.Runs.Schedules.{candidates, chosen}
use Rattle.schedule_play.specs.PlayStates.{pipeline_played, run_state}
use Rattle.schedule_play.specs.Turns.{turn_event}
use Rattle.schedule_play.specs.declared.turns.Turn.{Turn}
use Rattle.schedule_play.proofs.Playing.Turns.{ends, ends_early, goes_on, starts}
use Rattle.schedule_play.proofs.play.play_turns.Goals as goal

-- the chosen event, by the turn that was found
no_event : (f : Turn → Option Event) (t : Option Turn) (o : Option Event) → t ≡ None → option_map f t ≡ option_map Some o → o ≡ None
no_event f t None e q = refl
no_event f t (Some x) e q = absurd (let z : None ≡ Some (Some x) = sym (ap (option_map f) e) ∙ q in cc)

event_of : (f : Turn → Option Event) (t : Option Turn) (turn : Turn) (o : Option Event) → t ≡ Some turn → option_map f t ≡ option_map Some o
    → (e : Event) × (o ≡ Some e) × (f turn ≡ Some e)
event_of f t turn None e q = absurd (let z : Some (f turn) ≡ None = sym (ap (option_map f) e) ∙ q in cc)
event_of f t turn (Some x) e q = (x, refl, (let z : Some (f turn) ≡ Some (Some x) = sym (ap (option_map f) e) ∙ q in cc))

pub loop-turn-init : goal.loop-turn-init
loop-turn-init g c =
    starts g.B.PlayedCode.code g.B.PlayedCode.cells c.args.player.now c.args.workers c.args.choices.now c.args.turns c.requires.play
    c.requires.new

pub choose-requires : goal.choose-requires
choose-requires g c = record { play = c.loop-turn.invariant.play }

pub returns-in_default-clause-events : goal.returns-in_default-clause-events
returns-in_default-clause-events g c =
    let code = g.B.PlayedCode.code in
    let cells = g.B.PlayedCode.cells in
    let v = c.loop-turn.player in
    let choice = c.choice_at-choice.result in
    let made = chosen choice (candidates (pipeline_played v) v.book.limit c.args.workers (run_state v)) in
    let none = no_event (turn_event (pipeline_played v) v.book.limit (run_state v)) c.choose.result made c.in_default.is c.choose.ensures in
    ends_early code cells c.args.player.now v c.args.workers c.args.choices.now c.args.turns c.loop-turn.turn c.loop-turn.invariant choice
    c.loop-turn-test.true
    c.choice_at-choice.ensures none

pub returns-in_default-clause-play : goal.returns-in_default-clause-play
returns-in_default-clause-play g c = c.loop-turn.invariant.play

pub returns-in_default-clause-keeps : goal.returns-in_default-clause-keeps
returns-in_default-clause-keeps g c = c.loop-turn.invariant.keeps

pub take_turn-requires-clause-code : goal.take_turn-requires-clause-code
take_turn-requires-clause-code g c = c.requires.code

pub take_turn-requires-clause-input : goal.take_turn-requires-clause-input
take_turn-requires-clause-input g c = c.requires.input ∙ sym c.loop-turn.invariant.keeps.input

pub take_turn-requires-clause-play : goal.take_turn-requires-clause-play
take_turn-requires-clause-play g c = c.loop-turn.invariant.play

pub take_turn-requires-clause-turn : goal.take_turn-requires-clause-turn
take_turn-requires-clause-turn g c =
    let v = c.loop-turn.player in
    let made = chosen c.choice_at-choice.result (candidates (pipeline_played v) v.book.limit c.args.workers (run_state v)) in
    let event = event_of (turn_event (pipeline_played v) v.book.limit (run_state v)) c.choose.result c.in-Some.next made c.in-Some.is
    c.choose.ensures in
    (event.0, event.2)

pub returns-clause-play : goal.returns-clause-play
returns-clause-play g c = c.loop-turn.invariant.play

pub returns-clause-events : goal.returns-clause-events
returns-clause-events g c =
    ends g.B.PlayedCode.code g.B.PlayedCode.cells c.args.player.now c.loop-turn.player c.args.workers c.args.choices.now c.args.turns
    c.loop-turn.turn c.loop-turn.invariant c.loop-turn-test.false

pub returns-clause-keeps : goal.returns-clause-keeps
returns-clause-keeps g c = c.loop-turn.invariant.keeps

pub loop-turn-preserved : goal.loop-turn-preserved
loop-turn-preserved g c =
    let code = g.B.PlayedCode.code in
    let cells = g.B.PlayedCode.cells in
    let v = c.loop-turn.player in
    let choice = c.choice_at-choice.result in
    let made = chosen choice (candidates (pipeline_played v) v.book.limit c.args.workers (run_state v)) in
    let event = event_of (turn_event (pipeline_played v) v.book.limit (run_state v)) c.choose.result c.in-Some.next made c.in-Some.is
    c.choose.ensures in
    let ensured = c.in_ok-take_turn.ensures in
    goes_on code cells c.args.player.now v c.args.workers c.args.choices.now c.args.turns c.loop-turn.turn c.loop-turn.invariant choice
    event.0 c.take_turn.new.self
    c.loop-turn-test.true c.choice_at-choice.ensures event.1 (ensured.event event.0 event.2) ensured.play ensured.keeps
