use Rattle.std.proofs.Common.{◌≡◌, ◌∙◌, ◌+◌, [], All, length, ap, subst, sym, map}
use Rattle.std.proofs.lemmas.List.{length_push}
use Rattle.std.proofs.lemmas.List.Elements.{All-nil, All-push}
use Rattle.work_deques.proofs.FrontSteps.{none}
use Rattle.work_deques.specs.FrontsSoFar.{AreUnused, IsWhole}
use Rattle.work_deques.specs.Tallies.{tally}
use Rattle.work_deques.specs.WorkerEnds.{tally_of_front}
use Rattle.work_deques.specs.declared.tally.Tally.{Tally}
use Rattle.work_deques.proofs.deques.without_fronts.Goals as goal

pub loop-preserved : goal.loop-preserved
loop-preserved g c =
    let h = c.loop.invariant in
    let e = c.in_ok-new.ensures in
    let new = c.in_ok-new.field-0 in
    let items = c.in_ok-push.ensures.items in
    record {
      counted = ap length items ∙ length_push _ _ ∙ ap (λ n. n + 1) h.counted;
      unused = rw items (All-push (AreUnused c.args.capacity) _ _ h.unused
          record {
            index = e.index;
            room = e.room;
            put = ap (λ (v : Tally). v.put) e.own;
            taken = ap (λ (v : Tally). v.taken) e.own;
            fronts = subst (λ fs. All (λ v. v ≡ tally 1 [] []) (map tally_of_front fs)) (sym e.fronts) (All-nil (λ v. v ≡ tally 1 [] []));
          });
      none = rw items (All-push IsWhole _ _ h.none (ap (λ (v : Tally). v.parts) e.own, e.fronts));
    }

pub returns-clause-so_far : goal.returns-clause-so_far
returns-clause-so_far g c = none c.loop.ends.items c.loop.invariant.none
