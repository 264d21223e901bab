use Rattle.std.proofs.Common.{◌≡◌, ◌∙◌, ◌<◌, ◌-◌, ◌+◌, length, map, set, subst, ap, arith}
use Rattle.std.proofs.lemmas.List.{length-set}
use Rattle.work_deques.proofs.EndTotals.{given_back, taken_away}
use Rattle.work_deques.proofs.FrontSteps.{all_counted, deque_at, last_deque, last_part, takes, unmakes}
use Rattle.work_deques.specs.FrontsSoFar.{AreSoFar}
use Rattle.work_deques.specs.WorkerEnds.{deque_of, own_tally}
use Rattle.work_deques.specs.declared.tally.Tally.{Tally}
use Rattle.work_deques.proofs.settle.give_back.Goals as goal

pub absorb-requires : goal.absorb-requires
absorb-requires g c =
    let w = c.args.worker in
    let k = c.loop-k.k - 1 in
    let h = c.loop-k.invariant in
    let deques = map deque_of c.args.ends.now.items in
    let ends = c.loop-k.ends.items in
    let giver = c.index_mut.result.now in
    let giver' = c.take_front-front.new.self in
    let front = c.take_front-front.result in
    let t = c.take_front-front.ensures in
    let owner = c.index_mut-in-loop-k.result.now in
    let next : c.loop-k.k ≡ k + 1 = omega (arith, c.loop-k-test.true) in
    let so_far = subst (λ n. AreSoFar deques w n n ends) next h.so_far in
    let lw : w < length ends = omega (arith, h.length, c.requires.worker) in
    let counted = all_counted deques w _ _ ends so_far in
    let lk : k < length deques = omega (arith, next, c.loop-k.auto.k, c.len-k.ensures, counted, h.length, c.args.ends.now.ok.0) in
    let lk' : k < length (set ends w giver') = omega (arith, length-set ends w giver', counted, lk) in
    let taken = takes deques w k ends giver giver' front so_far lw c.index_mut.ensures.value t.own t.fronts lk in
    last_deque deques w k ends (k + 1) giver giver'.fronts.items front (deque_of owner) so_far lw c.index_mut.ensures.value t.fronts lk
    ∙ deque_at deques (set ends w giver') k owner taken.own lk' c.index_mut-in-loop-k.ensures.value

pub loop-k-preserved : goal.loop-k-preserved
loop-k-preserved g c =
    let w = c.args.worker in
    let k = c.loop-k.k - 1 in
    let h = c.loop-k.invariant in
    let deques = map deque_of c.args.ends.now.items in
    let ends = c.loop-k.ends.items in
    let giver = c.index_mut.result.now in
    let giver' = c.take_front-front.new.self in
    let front = c.take_front-front.result in
    let t = c.take_front-front.ensures in
    let owner = c.index_mut-in-loop-k.result.now in
    let next : c.loop-k.k ≡ k + 1 = omega (arith, c.loop-k-test.true) in
    let so_far = subst (λ n. AreSoFar deques w n n ends) next h.so_far in
    let lw : w < length ends = omega (arith, h.length, c.requires.worker) in
    let counted = all_counted deques w _ _ ends so_far in
    let lk : k < length deques = omega (arith, next, c.loop-k.auto.k, c.len-k.ensures, counted, h.length, c.args.ends.now.ok.0) in
    let lk' : k < length (set ends w giver') = omega (arith, length-set ends w giver', counted, lk) in
    let taken = takes deques w k ends giver giver' front so_far lw c.index_mut.ensures.value t.own t.fronts lk in
    let owner' = c.absorb.new.self in
    let a = c.absorb.ensures in
    let part = last_part deques w k ends (k + 1) (k + 1) giver giver'.fronts.items front so_far lw c.index_mut.ensures.value t.fronts in
    let joined_parts = ap (λ (v : Tally). v.parts) a.own in
    let parts : (own_tally owner').parts ≡ (own_tally owner).parts + 1 = omega (arith, joined_parts, part) in
    record {
      length = omega (arith, length-set (set ends w giver') k owner', length-set ends w giver', h.length);
      so_far = unmakes deques w k (set ends w giver') owner owner' taken lk' c.index_mut-in-loop-k.ensures.value a.deque a.fronts parts;
      totals = λ f additive. omega (
        arith,
        taken_away f ends w giver giver' front lw c.index_mut.ensures.value t.own t.fronts,
        given_back f (set ends w giver') k owner owner' front lk' c.index_mut-in-loop-k.ensures.value additive a.own a.fronts,
        h.totals f additive,
      );
    }
