use Rattle.std.proofs.Common.{◌≡◌, ◌∙◌, ◌<◌, ap, arith, length, pos, slice_index_or, sym}
use Rattle.std.proofs.lemmas.List.{get_or_default}
use Rattle.std.specs.List.{remove}
use Rattle.schedule_play.specs.declared.turns.Alive.{Alive}
use Rattle.schedule_play.specs.declared.turns.Readiness.TheVariants.{Running}
use Rattle.schedule_play.specs.AliveLists.{AliveListState}
use Rattle.schedule_play.proofs.AliveLists.{place, removed_nowhere, removed_there}
use Rattle.schedule_play.proofs.alive_list.AliveList.remove.Goals as goal
use Rattle.schedule_play.proofs.alive_list.AliveList.remove.Goals.{else-place-len-via-then-place-len+else-index-iteration}
use Rattle.schedule_play.proofs.alive_list.AliveList.remove.Goals.{else-place-len-via-else-place-len}

pub returns-then-index-iteration-clause-entries : goal.returns-then-index-iteration-clause-entries
returns-then-index-iteration-clause-entries c = λ rise.
    let i = c.args.iteration in
    let entries = c.args.self.now.entries in
    let own = c.index.result.now in
    let same = ap (λ (l : AliveListState). l.entries) c.self.view_is in
    let at = c.place_of-place.ensures.place rise in
    let long = c.len.ensures ∙ c.self.inside.entries.ok.0 ∙ ap length same in
    let test = c.if-place-len.true in
    let within : place i entries < length entries = omega (arith, test, long, at) in
    let there : own ≡ slice_index_or entries (place i entries) own =
    c.index.ensures ∙ ap (λ l. slice_index_or l c.place_of-place.result own) same ∙ ap (λ k. slice_index_or entries k own) at in
    c.remove-ended.ensures.items ∙ ap (λ l. remove l c.place_of-place.result) same ∙ ap (remove entries) at
    ∙ removed_there i 0 entries own rise within (sym (ap (λ (a : Alive). a.iteration) there) ∙ c.if-index-iteration.true)

pub returns-else-place-len-clause-entries : goal.returns-else-place-len-clause-entries
returns-else-place-len-clause-entries c = λ rise.
    let i = c.args.iteration in
    let entries = c.args.self.now.entries in
    let same = ap (λ (l : AliveListState). l.entries) c.self.view_is in
    let at = c.place_of-place.ensures.place rise in
    let long = c.len.ensures ∙ c.self.inside.entries.ok.0 ∙ ap length same in
    let d : Alive = record { iteration = 0; number = pos 0; readiness = Running } in
    removed_nowhere i 0 entries d rise (λ lt is. elim c.else-place-len.branch [
      | else-place-len-via-then-place-len+else-index-iteration w ↦ (
          let own = w.index.result.now in
          let there : own ≡ slice_index_or entries (place i entries) d =
          w.index.ensures ∙ ap (λ l. slice_index_or l c.place_of-place.result own) same ∙ ap (λ k. slice_index_or entries k own) at
          ∙ get_or_default entries (place i entries) own d lt in
          w.if-index-iteration.false (ap (λ (a : Alive). a.iteration) there ∙ is))
      | else-place-len-via-else-place-len w ↦ (let past = w.if-place-len.false in absurd (omega (arith, lt, past, long, at)))
    ])
