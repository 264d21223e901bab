use Rattle.std.proofs.Common.{◌≡◌, ◌∙◌, ◌-◌, ◌<◌, ap, arith, rules, slice_index_or, sym, w64}
use Rattle.std.proofs.lemmas.Bool.{eq-eqb}
use Rattle.std.proofs.lemmas.Int.{to_z-of_z}
use mir.Val.{SFits}
use Rattle.schedule_play.specs.AliveChanges.{passes_left}
use Rattle.schedule_play.specs.AliveLists.{AliveListState}
use Rattle.schedule_play.proofs.AliveLists.{left_nowhere, left_there, place}
use Rattle.schedule_play.proofs.alive_list.AliveList.passes_left.Goals as goal

pub returns-then-place-eq0 : goal.returns-then-place-eq0
returns-then-place-eq0 c = λ rise.
    let none = c.if-place-eq0.true in
    eq-eqb c.place_of-place.result 0 none
    ∙ sym (left_nowhere c.args.iteration c.args.number 0 c.args.self.now.entries rise (sym (c.place_of-place.ensures.place rise) ∙ none))

pub returns-else-place-eq0 : goal.returns-else-place-eq0
returns-else-place-eq0 c = λ rise.
    let i = c.args.iteration in
    let n = c.args.number in
    let entries = c.args.self.now.entries in
    let left = c.index.result.now in
    let fits : SFits w64 n = search rules in
    let passed = simp to_z-of_z at c.passes_left.ensures in
    let at = c.place_of-place.ensures.place rise in
    let apart = c.if-place-eq0.false in
    let some : 0 < place i entries = omega (arith, at, apart) in
    let there : left ≡ slice_index_or entries (place i entries - 1) left =
    c.index.ensures ∙ ap (λ (l : AliveListState). slice_index_or l.entries (c.place_of-place.result - 1) left) c.self.view_is
    ∙ ap (λ k. slice_index_or entries (k - 1) left) at in
    passed ∙ ap (passes_left i n) there ∙ sym (left_there i n 0 entries left rise some)
