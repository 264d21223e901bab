-- The rule's facts at the end, after the shards have learned and the stop was raised.
use Rattle.std.proofs.Common.{◌≤◌, ◌^◌, ◌∙◌, Some, length, arith, ap, sym, subst}
use Rattle.frame_book.specs.BookStates.{events_of}
use Rattle.pipe_model.specs.Runs.RunLogs.{state_after}
use Rattle.hall_calls.specs.Closing.{EndedHall, shard_in}
use Rattle.hall_table.specs.Openings.{start_in}
use Rattle.hall_table.specs.SeatViews.{start_of}
use Rattle.hall_table.specs.WorkerSeats.{HallState, WorkerSeat}
use Rattle.hall_calls.proofs.Closing.{learned_hall, shards_bounded}
use Rattle.hall_calls.proofs.Raising.{close_is}
use Rattle.hall_calls.proofs.BookCalls.{stopped_later}
use Rattle.hall_calls.proofs.close.close.Goals as goal

pub learn_all-requires-clause-lists : goal.learn_all-requires-clause-lists
learn_all-requires-clause-lists g c = λ k l.
    ((c.free_table.ensures.closed c.take_all-book.result (shard_in c.take_all-book.new.shards.items)
    c.take_all-book.ensures.holds).has_shards k l).identities

pub raise_stop-requires : goal.raise_stop-requires
raise_stop-requires g c =
    let b = c.take_all-book.result in
    let closed = c.free_table.ensures.closed b (shard_in c.take_all-book.new.shards.items) c.take_all-book.ensures.holds in
    let ended = learned_hall _ _ b (shard_in c.take_all-book.new.shards.items) (shard_in c.learn_all.new.shards.items) closed
    c.learn_all.ensures.learned in
    let is = c.as_slice.ensures.value in
    let n = c.learn_all.ensures.len in
    record {
      bound = λ k l. subst (λ zs. (shard_in zs k).last ≤ 2 ^ 62) (sym is)
          (shards_bounded _ _ b (shard_in c.learn_all.new.shards.items) ended k (let e = ap length is in omega (arith, l, e, n)));
    }

pub returns : goal.returns
returns g c =
    let key = start_in c.hall.inside.locks.table.shared.key in
    let b = c.take_all-book.result in
    let end = c.raise_stop.new.book in
    let xs = c.take_all-book.new.shards.items in
    let ys = c.learn_all.new.shards.items in
    let closed = c.free_table.ensures.closed b (shard_in xs) c.take_all-book.ensures.holds in
    let l = c.learn_all.ensures in
    let r = c.raise_stop.ensures in
    let last_seen = c.take_all-book.new.seat.me.0.it.seen in
    let w = close_is key last_seen b c.learn_all.new.book end xs ys c.as_slice.result.now closed l.learned l.len c.as_slice.ensures.value
    l.book r.going r.stopped in
    let seen = c.take_all-book.ensures.seen ∙ ap (λ (k : WorkerSeat). k.seen) c.key.view_is in
    let before = ap (λ (h : HallState). h.before) c.hall.view_is in
    record {
      len = l.len;
      constants = sym (ap (λ (h : HallState). h.hall.constants) c.hall.view_is) ∙ ap (λ k. Some k) w.constants;
      ended = subst (λ es. EndedHall (start_of end c.args.hall.before) es end (shard_in ys)) seen
          (subst (λ l. EndedHall (start_of end l) last_seen end (shard_in ys)) before w.ended);
      stop = w.stop;
      stopped = λ stopped. stopped_later last_seen (events_of end.log) w.ended.closed.seen
          (ap (λ es. (state_after es).stopped) seen ∙ stopped);
    }
