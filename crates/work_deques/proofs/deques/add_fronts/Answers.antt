use Rattle.std.proofs.Common.{◌≡◌, ◌∙◌, ◌<◌, get_or, length, map, set, sym, ap, arith}
use Rattle.std.proofs.lemmas.List.{length-set}
use Rattle.std.proofs.lemmas.List.Elements.{All-set}
use Rattle.work_deques.proofs.FrontSteps.{adds, all_counted, deque_at, makes}
use Rattle.work_deques.proofs.UnusedEnds.{unused_at, unused_given, unused_made}
use Rattle.work_deques.specs.FrontsSoFar.{AreUnused}
use Rattle.work_deques.specs.WorkerEnds.{deque_of, deque_of_front}
use Rattle.work_deques.specs.declared.tally.Tally.{Tally}
use Rattle.work_deques.proofs.deques.add_fronts.Goals as goal

pub loop-k-preserved : goal.loop-k-preserved
loop-k-preserved g c =
    let capacity = c.args.capacity in
    let w = c.args.worker in
    let k = c.loop-k.k in
    let h = c.loop-k.invariant in
    let deques = map deque_of c.args.ends.now.items in
    let ends = c.loop-k.ends.items in
    let owner = c.index_mut.result.now in
    let owner' = c.make_front.new.self in
    let front = c.in_ok-front.front in
    let m = c.in_ok-front.ensures in
    let ends' = set ends k owner' in
    let taker = c.index_mut-in-loop-k.result.now in
    let taker' = c.add_front.new.self in
    let a = c.in_ok-add_front.ensures in
    let lk : k < length ends = omega (arith, h.length, c.loop-k-test.true) in
    let lw : w < length ends' = omega (arith, length-set ends k owner', h.length, c.requires.worker) in
    let made = makes deques w k ends owner owner' h.so_far lk c.index_mut.ensures.value m.deque m.fronts
    (ap (λ (v : Tally). v.parts) m.own) in
    let unused = All-set (AreUnused capacity) ends k owner'
    (unused_made capacity owner owner' (unused_at capacity ends k owner lk c.index_mut.ensures.value h.unused) m.index m.room m.own
    m.fronts) h.unused in
    let part = ap (λ (v : Tally). v.parts) m.tally in
    let deque : deque_of_front front ≡ get_or deques k (deque_of owner) =
    m.made ∙ m.deque ∙ sym (deque_at deques ends k owner h.so_far.own lk c.index_mut.ensures.value) in
    let counted = all_counted deques w k k ends h.so_far in
    record {
      length = omega (arith, length-set ends' w taker', length-set ends k owner', h.length);
      unused = All-set (AreUnused capacity) ends' w taker'
          (unused_given capacity taker taker' front (unused_at capacity ends' w taker lw c.index_mut-in-loop-k.ensures.value unused) a.own
          a.fronts m.tally) unused;
      so_far = adds deques w k ends' taker taker' front made lw c.index_mut-in-loop-k.ensures.value a.own a.fronts part
          (omega (arith, counted, lk)) (deque_of owner) deque;
    }
