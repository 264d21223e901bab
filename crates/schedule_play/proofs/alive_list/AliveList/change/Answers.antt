use Rattle.std.proofs.Common.{◌∙◌, ◌+◌, ap}
use Rattle.schedule_play.specs.AliveChanges.{after_change}
use Rattle.schedule_play.specs.AliveLists.{AliveListState, altered}
use Rattle.schedule_play.proofs.AliveLists.{changed_there, place}
use Rattle.schedule_play.proofs.alive_list.AliveList.change.Goals as goal

pub returns-clause-entries : goal.returns-clause-entries
returns-clause-entries c = λ rise.
    let change = after_change c.args.change in
    let entries = c.args.self.now.entries in
    let at = c.place_of-place.ensures.place rise ∙ ap (λ i. place i entries) c.iteration.ensures in
    ap (λ (l : AliveListState). l.entries) c.change_at-2.ensures
    ∙ ap (λ (l : AliveListState). altered change l.entries (c.place_of-place.result + 1)) c.change_at.ensures
    ∙ ap (λ k. altered change (altered change entries k) (k + 1)) at
    ∙ changed_there c.args.change 0 entries rise
