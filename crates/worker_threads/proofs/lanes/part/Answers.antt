use Rattle.std.proofs.Common.{rules, ◌≡◌, ◌∙◌, ◌++◌, ◌∷◌, [], ap, map, map-id, sym}
use Rattle.std.proofs.lemmas.Iterator.Adapters.{YieldsList-from_vec}
use Rattle.std.proofs.lemmas.Iterator.Consumers.{YieldsList-end}
use Rattle.std.proofs.lemmas.List.{map-append}
use Rattle.worker_threads.specs.Lanes.{ends_in, seat_in}
use Rattle.worker_threads.proofs.lanes.part.Goals as goal

-- each lane was yielded
pub returns : goal.returns
returns g c =
    let end = YieldsList-end (YieldsList-from_vec {s = c.into_iter-lane-iterator.result} c.args.lanes.items (search rules) (search rules))
    c.loop-lane.yielded c.loop-lane.lane-iterator c.loop-lane.yielded_by c.next.result c.next.new.self c.in-None.is c.next.ensures.steps in
    let all : c.loop-lane.yielded ≡ c.args.lanes.items = sym (map-id c.loop-lane.yielded) ∙ end.0 in
    record {
      seats = c.loop-lane.invariant.seats ∙ ap (map seat_in) all;
      ends = c.loop-lane.invariant.ends ∙ ap (map ends_in) all;
    }

pub loop-lane-preserved : goal.loop-lane-preserved
loop-lane-preserved g c =
    let h = c.loop-lane.invariant in
    let lane = c.in-Some.lane in
    record {
      seats = c.push_reserved.ensures.items ∙ ap (λ l. l ++ seat_in lane ∷ []) h.seats
          ∙ sym (map-append seat_in c.loop-lane.yielded (lane ∷ []));
      ends = c.push_reserved-in-loop-lane.ensures.items ∙ ap (λ l. l ++ c.into_ends.result ∷ []) h.ends
          ∙ ap (λ x. map ends_in c.loop-lane.yielded ++ x ∷ []) c.into_ends.ensures
          ∙ sym (map-append ends_in c.loop-lane.yielded (lane ∷ []));
      room_of_seats = c.push_reserved.ensures.capacity ∙ h.room_of_seats;
      room_of_ends = c.push_reserved-in-loop-lane.ensures.capacity ∙ h.room_of_ends;
    }
