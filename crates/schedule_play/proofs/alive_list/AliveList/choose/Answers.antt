use Rattle.std.proofs.Common.{◌≡◌, ◌∙◌, ◌<◌, ap, arith, length, nat_lt, slice_index_or, sym}
use Rattle.std.proofs.lemmas.Nat.{mod_below}
use Rattle.std.specs.Prelude.{◌%◌, option_map, Some}
use Rattle.pipe_model.specs.Runs.Schedules.{candidates, running_instances}
use Rattle.schedule_play.specs.declared.turns.Turn.TheVariants.{Begin}
use Rattle.schedule_play.specs.AliveLists.{AliveListState}
use Rattle.schedule_play.specs.Turns.{iteration_turns, turn_event, turns}
use Rattle.schedule_play.proofs.TurnCandidates.{chosen_is, none_chosen, running_are, some_chosen, turns_are}
use Rattle.schedule_play.proofs.alive_list.AliveList.choose.Goals as goal

pub returns-then-count-eq0 : goal.returns-then-count-eq0
returns-then-count-eq0 c = λ p limit s kept begin.
    let room = nat_lt c.self.inside.running c.args.workers in
    let workers = c.args.workers in
    let entries = c.args.self.now.entries in
    let same = ap (λ (l : AliveListState). l.entries) c.self.view_is in
    let all = turns room c.args.begins entries in
    let fewer : room ≡ nat_lt (running_instances s) workers = ap (λ n. nat_lt n workers)
    (c.self.invariant.0.running ∙ running_are s c.self.inside.entries.items (same ∙ kept)) in
    let none : length all ≡ 0 = sym c.count_turns-count.ensures ∙ c.if-count-eq0.true in
    ap (option_map (turn_event p limit s)) (none_chosen c.args.choice all none)
    ∙ chosen_is (turn_event p limit s) all (candidates p limit workers s) c.args.choice
    (turns_are p limit workers s room c.args.begins entries kept begin fewer)

pub returns : goal.returns
returns c = λ p limit s kept begin.
    let room = nat_lt c.self.inside.running c.args.workers in
    let workers = c.args.workers in
    let entries = c.args.self.now.entries in
    let same = ap (λ (l : AliveListState). l.entries) c.self.view_is in
    let all = turns room c.args.begins entries in
    let fewer : room ≡ nat_lt (running_instances s) workers = ap (λ n. nat_lt n workers)
    (c.self.invariant.0.running ∙ running_are s c.self.inside.entries.items (same ∙ kept)) in
    let counted = c.count_turns-count.ensures in
    let some = c.if-count-eq0.false in
    let index = c.args.choice % c.count_turns-count.result in
    let below : index < c.count_turns-count.result = mod_below c.args.choice c.count_turns-count.result (omega (arith, some)) in
    ap (λ t. Some (turn_event p limit s t)) (c.turn_at.ensures
    ∙ ap (λ l. slice_index_or (iteration_turns room l) index Begin) (c.as_slice.ensures.value ∙ same))
    ∙ ap (option_map (turn_event p limit s))
    (some_chosen c.args.choice room c.args.begins entries index (ap (λ n. c.args.choice % n) counted) (omega (arith, below, counted)))
    ∙ chosen_is (turn_event p limit s) all (candidates p limit workers s) c.args.choice
    (turns_are p limit workers s room c.args.begins entries kept begin fewer)
