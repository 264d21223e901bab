use Rattle.std.proofs.Common.{◌≡◌, refl, subst, Bool, true, false, not, Option, Some, None}
use Rattle.std.specs.Prelude.{◌↔◌, is_some, option_map}
use Rattle.pipe_model.specs.Pipelines.Pipeline.{Pipeline}
use Rattle.pipe_model.specs.Runs.Schedules.{candidates, chosen}
use Rattle.pipe_model.specs.Runs.State.{State}
use Rattle.schedule_play.specs.declared.turns.Turn.{Turn}
use Rattle.schedule_play.specs.PlayStates.{PlayState, pipeline_played, run_state}
use Rattle.schedule_play.specs.ScheduleStates.{IsScheduleOf}
use Rattle.schedule_play.specs.Turns.{turn_event}
use Rattle.schedule_play.proofs.PlayedRuns.{finished_by}
use Rattle.schedule_play.proofs.player.Player.is_finished.Goals as goal

none_by : (o : Option Turn) (b : Bool) → is_some o ≡ not b → (b ≡ true) ↔ (o ≡ None)
none_by None true e = ((λ x. refl), (λ x. refl))
none_by None false e = absurd (cc)
none_by (Some t) true e = absurd (cc)
none_by (Some t) false e = ((λ x. absurd (cc)), (λ x. absurd (cc)))

pub returns : goal.returns
returns g c =
    let v = c.args.self.now in
    let p = pipeline_played v in
    let s = run_state v in
    let play = c.requires.play in
    let found = c.choose.result in
    let chosen_is = subst (λ (x : PlayState). (p : Pipeline) (s : State) → IsScheduleOf s x.schedule
    → option_map (turn_event p x.schedule.limit s) found ≡ option_map Some (chosen 0 (candidates p x.schedule.limit 1 s))) c.self.view_is
    c.choose.ensures in
    let here = subst (λ l. option_map (turn_event p l s) found ≡ option_map Some (chosen 0 (candidates p l 1 s))) play.limit
    (chosen_is p s play.schedule) in
    let over = finished_by (turn_event p v.book.limit s) found p v.book.limit v.events s play.run play.proper c.requires.limit play.going
    here in
    let none = none_by found c.is_none.result c.is_none.ensures in
    ((λ x. over.0 (none.0 x)), (λ x. none.1 (over.1 x)))
