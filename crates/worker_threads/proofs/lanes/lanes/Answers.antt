use Rattle.std.proofs.Common.{rules, ◌≡◌, ◌∙◌, ap, arith, length, map-id, sym}
use Rattle.std.proofs.lemmas.Iterator.Adapters.{YieldsList-from_vec}
use Rattle.std.proofs.lemmas.Iterator.Consumers.{YieldsList-end}
use Rattle.std.proofs.lemmas.List.{length_push}
use Rattle.std.proofs.lemmas.List.Elements.{All-push}
use Rattle.worker_threads.specs.Lanes.{seat_in}
use Rattle.worker_threads.proofs.LaneLists.{ends_push, numbered_push}
use Rattle.worker_threads.proofs.LaneTokens.{sum_of_none, sums_move}
use Rattle.work_deques.proofs.TestedLists.{All_init, All_last}
use Rattle.worker_threads.proofs.lanes.lanes.Goals as goal

pub loop-ends-preserved : goal.loop-ends-preserved
loop-ends-preserved g c =
    let h = c.loop-ends.invariant in
    let s = c.in-Some-pop in
    let named = g.J.DrivenHall.named in
    let left = rw s.ensures.items at h.left in
    let longer = c.in_ok-push.ensures.items in
    let fewer = s.ensures.items in
    record {
      made = ends_push c.loop-ends.lanes.items c.push.new.self.items _ c.loop-ends.yielded c.in-Some.ends longer h.made
          c.new-worker.ensures.ends;
      seats = omega (arith, h.seats, s.ensures.len, length_push c.loop-ends.yielded c.in-Some.ends);
      left = All_init (λ seat. g.H.Hall.named seat ≡ named) _ _ left;
      named = rw longer (All-push (λ lane. g.H.Hall.named (seat_in lane) ≡ named) _ _ h.named
          (All_last (λ seat. g.H.Hall.named seat ≡ named) _ _ left));
      numbers = rw longer (numbered_push _ _ h.numbers (omega (
        arith,
        c.new-worker.ensures.number,
        c.len-in-loop-ends.ensures,
        c.loop-ends.lanes.ok.0,
      )));
      sums = λ f. sums_move f _ _ _ _ _ _ longer fewer (h.sums f);
    }

pub returns-clause-seats : goal.returns-clause-seats
returns-clause-seats g c = λ f.
    let h = c.loop-ends.invariant in
    let sum = h.sums f in
    let end = YieldsList-end (YieldsList-from_vec {s = c.into_iter-ends-iterator.result} c.args.ends.items (search rules) (search rules))
    c.loop-ends.yielded c.loop-ends.ends-iterator c.loop-ends.yielded_by c.next.result c.next.new.self c.in-None.is c.next.ensures.steps in
    let all : c.loop-ends.yielded ≡ c.args.ends.items = sym (map-id c.loop-ends.yielded) ∙ end.0 in
    let count = ap length all in
    let none = sum_of_none f c.loop-ends.seats.items (omega (
      arith,
      h.seats,
      count,
      c.requires.seats,
      c.loop-ends.seats.ok.0,
      c.args.seats.ok.0,
      c.args.ends.ok.0,
    )) in
    omega (arith, sum, none)
