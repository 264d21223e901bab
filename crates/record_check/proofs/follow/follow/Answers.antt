use Rattle.std.proofs.Common.{◌≡◌, ◌∙◌, ap, arith, sym, get_or, refl, Some, None}
use Rattle.pipe_model.specs.declared.event.Event.TheVariants.{Begin}
use Rattle.schedule_play.specs.PlayStates.{pipeline_played, run_state}
use Rattle.schedule_play.specs.Turns.{turn_event}
use Rattle.record_check.proofs.NextEvents.{followed_to, keeps_both, made_event, made_front, made_within, never_follows, none_event}
use Rattle.record_check.proofs.NextEvents.{same_made, some_event}
use Rattle.record_check.proofs.follow.follow.Goals as goal

pub loop-k-init : goal.loop-k-init
loop-k-init g c = (c.requires.play, c.requires.new, record { program = refl; input = refl; limit = refl })

pub has_turn-requires : goal.has_turn-requires
has_turn-requires g c = record { play = c.loop-k.invariant.0 }

pub returns-then-not-has_turn-clause-play : goal.returns-then-not-has_turn-clause-play
returns-then-not-has_turn-clause-play g c = c.loop-k.invariant.0

pub returns-then-not-has_turn-clause-all : goal.returns-then-not-has_turn-clause-all
returns-then-not-has_turn-clause-all g c = λ e. absurd (let l = c.loop-k-test.true in omega (arith, e, l))

pub returns-then-not-has_turn-clause-keeps : goal.returns-then-not-has_turn-clause-keeps
returns-then-not-has_turn-clause-keeps g c = c.loop-k.invariant.2

pub take_turn-requires-clause-code : goal.take_turn-requires-clause-code
take_turn-requires-clause-code g c = c.requires.code

pub take_turn-requires-clause-input : goal.take_turn-requires-clause-input
take_turn-requires-clause-input g c = c.requires.input ∙ sym c.loop-k.invariant.2.input

pub take_turn-requires-clause-play : goal.take_turn-requires-clause-play
take_turn-requires-clause-play g c = c.loop-k.invariant.0

pub returns-then-not-same_event-clause-play : goal.returns-then-not-same_event-clause-play
returns-then-not-same_event-clause-play g c = c.in_ok-take_turn.ensures.play

pub returns-then-not-same_event-clause-all : goal.returns-then-not-same_event-clause-all
returns-then-not-same_event-clause-all g c = λ e. absurd (let l = c.loop-k-test.true in omega (arith, e, l))

pub returns-then-not-same_event-clause-keeps : goal.returns-then-not-same_event-clause-keeps
returns-then-not-same_event-clause-keeps g c =
    keeps_both c.args.player.now c.loop-k.player c.take_turn.new.self c.loop-k.invariant.2 c.in_ok-take_turn.ensures.keeps

pub returns-clause-play : goal.returns-clause-play
returns-clause-play g c = c.loop-k.invariant.0

pub returns-clause-keeps : goal.returns-clause-keeps
returns-clause-keeps g c = c.loop-k.invariant.2

pub returns-then-not-has_turn-clause-followed : goal.returns-then-not-has_turn-clause-followed
returns-then-not-has_turn-clause-followed g c =
    let v = c.loop-k.player in
    let e = get_or c.args.events.now c.loop-k.k (Begin 0) in
    let l = c.loop-k-test.true in
    let none = none_event (turn_event (pipeline_played v) v.book.limit (run_state v) c.turn_for-turn.result)
    (sym c.has_turn.ensures ∙ c.if-not-has_turn.true) in
    let turn = ap (turn_event (pipeline_played v) v.book.limit (run_state v)) c.turn_for-turn.ensures in
    followed_to g.B.PlayedCode.code g.B.PlayedCode.cells c.args.player.now v c.args.events.now c.loop-k.k c.loop-k.invariant.0
    c.loop-k.invariant.1 c.loop-k.invariant.2
    (omega (arith, l))
    (λ w. never_follows v c.args.events.now c.loop-k.k e (Begin 0) c.loop-k.invariant.1 l refl (c.requires.going c.loop-k.k (Begin 0) l)
    (λ q. let z : None ≡ Some e = sym none ∙ turn ∙ q in cc))

pub take_turn-requires-clause-turn : goal.take_turn-requires-clause-turn
take_turn-requires-clause-turn g c =
    let v = c.loop-k.player in
    some_event (turn_event (pipeline_played v) v.book.limit (run_state v) c.turn_for-turn.result)
    (sym c.has_turn.ensures ∙ c.if-not-has_turn.false)

pub bounds-events-k-in-loop-k : goal.bounds-events-k-in-loop-k
bounds-events-k-in-loop-k g c =
    let v = c.loop-k.player in
    let x = some_event (turn_event (pipeline_played v) v.book.limit (run_state v) c.turn_for-turn.result)
    (sym c.has_turn.ensures ∙ c.if-not-has_turn.false) in
    made_within v.events c.take_turn.new.self.events c.events.result.now c.args.events.now c.loop-k.k x.0 c.loop-k.invariant.1
    c.loop-k-test.true
    (c.in_ok-take_turn.ensures.event x.0 x.1) c.events.ensures

pub returns-then-not-same_event-clause-followed : goal.returns-then-not-same_event-clause-followed
returns-then-not-same_event-clause-followed g c =
    let v = c.loop-k.player in
    let e = get_or c.args.events.now c.loop-k.k (Begin 0) in
    let l = c.loop-k-test.true in
    let event = turn_event (pipeline_played v) v.book.limit (run_state v) in
    let x = some_event (event c.turn_for-turn.result) (sym c.has_turn.ensures ∙ c.if-not-has_turn.false) in
    let made = made_event v.events c.take_turn.new.self.events c.events.result.now c.args.events.now c.loop-k.k x.0
    (Begin 0) c.loop-k.invariant.1 l
    (c.in_ok-take_turn.ensures.event x.0 x.1) c.events.ensures in
    let turn = ap event c.turn_for-turn.ensures in
    followed_to g.B.PlayedCode.code g.B.PlayedCode.cells c.args.player.now v c.args.events.now c.loop-k.k c.loop-k.invariant.0
    c.loop-k.invariant.1 c.loop-k.invariant.2
    (omega (arith, l))
    (λ w. never_follows v c.args.events.now c.loop-k.k e (Begin 0) c.loop-k.invariant.1 l refl (c.requires.going c.loop-k.k (Begin 0) l)
    (λ q. c.if-not-same_event.ensures.no (made ∙ same_made (event c.turn_for-turn.result) x.0 e x.1 (turn ∙ q))))

pub loop-k-preserved : goal.loop-k-preserved
loop-k-preserved g c =
    let v = c.loop-k.player in
    let l = c.loop-k-test.true in
    let event = turn_event (pipeline_played v) v.book.limit (run_state v) in
    let x = some_event (event c.turn_for-turn.result) (sym c.has_turn.ensures ∙ c.if-not-has_turn.false) in
    let grown = c.in_ok-take_turn.ensures.event x.0 x.1 in
    let made = made_event v.events c.take_turn.new.self.events c.events.result.now c.args.events.now c.loop-k.k x.0
    (Begin 0) c.loop-k.invariant.1 l
    grown c.events.ensures in (
      c.in_ok-take_turn.ensures.play,
      made_front v.events c.take_turn.new.self.events c.args.events.now c.loop-k.k x.0 (Begin 0) c.loop-k.invariant.1 l grown
          (sym c.if-not-same_event.ensures.yes ∙ made),
      keeps_both c.args.player.now v c.take_turn.new.self c.loop-k.invariant.2 c.in_ok-take_turn.ensures.keeps,
    )
