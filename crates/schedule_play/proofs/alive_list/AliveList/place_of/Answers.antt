use Rattle.std.proofs.Common.{◌≡◌, ◌∙◌, ◌<◌, ap, arith, length, nat_lt, of_calls, pos, rules, slice_index_or, subst, sym}
use Rattle.std.proofs.lemmas.Fn.{always_returns_same}
use Rattle.std.proofs.lemmas.List.Sums.{prefix_len_is}
use Rattle.schedule_play.specs.declared.turns.Alive.{Alive}
use Rattle.schedule_play.specs.declared.turns.Readiness.TheVariants.{Running}
use Rattle.schedule_play.specs.AliveLists.{AliveListState, IsRising}
use Rattle.schedule_play.proofs.AliveLists.{place, place_found, smaller_first}
use Rattle.schedule_play.proofs.alive_list.AliveList.place_of.Goals as goal

pub returns-clause-place : goal.returns-clause-place
returns-clause-place c = λ rise.
    let i = c.args.iteration in
    let items = c.as_slice.result.now in
    let k = c.partition_point.result in
    let same = c.as_slice.ensures.value ∙ ap (λ (l : AliveListState). l.entries) c.self.view_is in
    let d : Alive = record { iteration = 0; number = pos 0; readiness = Running } in
    let point = c.partition_point.ensures.partitioned (λ (a : Alive). nat_lt a.iteration i)
    (always_returns_same _ _ _ (λ a r f called. search (rules, of_calls)))
    (smaller_first i items (subst IsRising (sym same) rise)) in
    sym (prefix_len_is (λ (a : Alive). nat_lt a.iteration i) items k d c.partition_point.ensures.bound
    (λ n lt. point.0 n d (omega arith) lt) (λ lt. point.1 k d (omega arith) lt)) ∙ ap (place i) same

pub returns-then-index-iteration-clause-place : goal.returns-then-index-iteration-clause-place
returns-then-index-iteration-clause-place c = λ rise.
    let entries = c.args.self.now.entries in
    let k = c.distance_to-distance.result in
    let own = c.index.result.now in
    let same = ap (λ (l : AliveListState). l.entries) c.self.view_is in
    let long = c.len.ensures ∙ c.self.inside.entries.ok.0 ∙ ap length same in
    let test = c.if-distance-len.true in
    let within : k < length entries = omega (arith, test, long) in
    let there : own ≡ slice_index_or entries k own = c.index.ensures ∙ ap (λ l. slice_index_or l k own) same in
    sym (place_found c.args.iteration entries k own rise within (sym (ap (λ (a : Alive). a.iteration) there) ∙ c.if-index-iteration.true))
