use Rattle.std.proofs.Common.{◌≡◌, ◌∙◌, ◌<◌, ◌+◌, ◌-◌, ap, arith, length, map, refl, subst, sum_by, sym}
use Rattle.std.proofs.lemmas.List.Sums.{sum_by-append}
use Rattle.work_deques.proofs.FrontSteps.{from_all_ends, none_left}
use Rattle.work_deques.specs.FrontsSoFar.{AreSoFar}
use Rattle.work_deques.specs.WorkerEnds.{deque_of}
use Rattle.work_deques.proofs.settle.settle.Goals as goal

pub loop-worker-init : goal.loop-worker-init
loop-worker-init g c =
    let ends = c.args.ends.items in
    record {
      length = refl;
      so_far = subst (λ n. AreSoFar (map deque_of ends) n 0 0 ends) (sym (c.len-worker.ensures ∙ c.args.ends.ok.0))
          (from_all_ends ends c.requires);
      totals = λ f additive. refl;
    }

pub give_back-requires : goal.give_back-requires
give_back-requires g c =
    let ends = c.loop-worker.ends.items in
    let h = c.loop-worker.invariant in
    let k = c.loop-worker.worker - 1 in
    let next : c.loop-worker.worker ≡ k + 1 = omega (arith, c.loop-worker-test.true) in
    let within : k < length ends = omega (arith, next, c.loop-worker.auto.worker, c.len-worker.ensures, h.length, c.args.ends.ok.0) in
    record {
      worker = within;
      so_far = subst (λ n. AreSoFar (map deque_of ends) n 0 0 ends) next h.so_far;
    }

pub loop-worker-preserved : goal.loop-worker-preserved
loop-worker-preserved g c =
    let given = c.give_back.ensures in
    let h = c.loop-worker.invariant in
    record {
      length = given.length ∙ h.length;
      so_far = given.so_far;
      totals = λ f additive. given.totals f additive ∙ h.totals f additive;
    }

pub count-requires : goal.count-requires
count-requires g c =
    let ends = c.loop-worker.ends.items in
    let none : c.loop-worker.worker ≡ 0 = omega (arith, c.loop-worker-test.false) in
    none_left (map deque_of ends) ends (subst (λ n. AreSoFar (map deque_of ends) n 0 0 ends) none c.loop-worker.invariant.so_far)

-- what was put in and what was taken out are additive numbers of a tally
pub returns : goal.returns
returns g c =
    let left = c.count.ensures in
    let totals = c.loop-worker.invariant.totals in (
      left.0,
      left.1,
      λ h.
          sym (totals (λ v. sum_by h v.put) (λ v w. sum_by-append h v.put w.put)) ∙ left.2 h
          ∙ ap (λ n. n + sum_by h left.0) (totals (λ v. sum_by h v.taken) (λ v w. sum_by-append h v.taken w.taken)),
    )
