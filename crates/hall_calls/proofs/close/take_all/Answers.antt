-- The book is taken first, and then the shards in order.
use Rattle.std.proofs.Common.{◌≡◌, ◌∙◌, ◌+◌, arith, subst, sym, ap, ℕ, List}
use Rattle.frame_book.specs.BookStates.{BookState}
use Rattle.hall_shards.specs.ShardValues.{ShardValue}
use Rattle.hall_table.specs.SeatViews.{TheBook, TheShard}
use Rattle.hall_table.specs.Steps.{ViewAndSlots, holding}
use Rattle.hall_table.specs.declared.slot.Slot.TheVariants as slots
use Rattle.hall_table.specs.declared.view.View.{View}
use Rattle.hall_calls.proofs.Closing.{HoldsFirst, first_more, first_none, holds_all}
use Rattle.hall_calls.proofs.InstanceAccesses.{same_shard}
use Rattle.hall_calls.proofs.LentSlots.{first_slot, same_head}
use Rattle.hall_calls.proofs.TakenBooks.{same_book}
use Rattle.hall_calls.proofs.close.take_all.Goals as goal

pub book_out-book-requires-clause-taken : goal.book_out-book-requires-clause-taken
book_out-book-requires-clause-taken g c =
    let t = c.take_book.ensures.taken in
    (t.0, first_slot {M = g.row.M.Denot} c.take_book.new.seat.me _ 0 (slots.Book t.0) _ t.1)

pub loop-k-init : goal.loop-k-init
loop-k-init g c =
    let t = c.take_book.ensures.taken in
    let m = c.args.seat.now.me in
    let n = c.take_book.new.seat.me in
    let x = c.book_out-book.result in
    let w = c.book_out-book.new.seat.me.0.it in
    let same : x ≡ t.0 = same_book {M = g.row.M.Denot} x t.0 (same_head 0 _ _ _ _ (sym c.book_out-book.ensures.book
    ∙ first_slot {M = g.row.M.Denot} n _ 0 (slots.Book t.0) _ t.1)) in
    record {
      table = c.book_out-book.ensures.own.0 ∙ (c.take_book.ensures.own.0 ∙ c.requires.own);
      room = c.requires.room;
      holds = subst (λ (xs : List ShardValue). HoldsFirst w x xs 0 w) (sym c.requires.empty)
          (first_none m.0.it w x (ap (λ (v : View). v.it) c.book_out-book.ensures.view
          ∙ (ap (λ (k : ViewAndSlots g.row.M.Denot). k.0.it) t.1 ∙ ap (λ (y : BookState). holding m.0.it 0 (TheBook y)) (sym same))));
    }

pub shard_out-requires-clause-taken : goal.shard_out-requires-clause-taken
shard_out-requires-clause-taken g c =
    let t = c.take_shard.ensures.taken in
    let i = 1 + c.loop-k.k in
    (t.0, first_slot {M = g.row.M.Denot} c.take_shard.new.seat.me _ i (slots.Shard t.0) _ t.1)

pub loop-k-preserved : goal.loop-k-preserved
loop-k-preserved g c =
    let t = c.take_shard.ensures.taken in
    let m = c.loop-k.seat.me in
    let n = c.take_shard.new.seat.me in
    let x = c.shard_out.result in
    let w = c.shard_out.new.seat.me.0.it in
    let start = c.book_out-book.new.seat.me.0.it in
    let b = c.book_out-book.result in
    let i = 1 + c.loop-k.k in
    let same : x ≡ t.0 = same_shard {M = g.row.M.Denot} x t.0 (same_head i _ _ _ _ (sym c.shard_out.ensures.shard
    ∙ first_slot {M = g.row.M.Denot} n _ i (slots.Shard t.0) _ t.1)) in
    record {
      table = c.shard_out.ensures.own.0 ∙ (c.take_shard.ensures.own.0 ∙ c.loop-k.invariant.table);
      room = (let q = c.push_reserved.ensures.capacity in let r = c.loop-k.invariant.room in omega (arith, q, r));
      holds = subst (λ (xs : List ShardValue). HoldsFirst start b xs (c.loop-k.k + 1) w) (sym c.push_reserved.ensures.items)
          (first_more start m.0.it w b c.loop-k.shards.items c.loop-k.k x (ap (λ (v : View). v.it) c.shard_out.ensures.view
          ∙ (ap (λ (k : ViewAndSlots g.row.M.Denot). k.0.it) t.1
          ∙ ap (λ (y : ShardValue). holding m.0.it (1 + c.loop-k.k) (TheShard y)) (sym same)))
          c.loop-k.invariant.holds);
    }

pub push_reserved-requires : goal.push_reserved-requires
push_reserved-requires g c =
    let l = c.loop-k.invariant.holds.len in
    let r = c.loop-k.invariant.room in
    let t = c.loop-k-test.true in
    omega (arith, l, r, t)

pub returns-clause-len : goal.returns-clause-len
returns-clause-len g c =
    let l = c.loop-k.invariant.holds.len in
    let e = c.loop-k.auto.k-end in
    let f = c.loop-k-test.false in
    omega (arith, l, e, f)

pub returns-clause-holds : goal.returns-clause-holds
returns-clause-holds g c =
    let e = c.loop-k.auto.k-end in
    let f = c.loop-k-test.false in
    let all : c.loop-k.k ≡ 16 = omega (arith, e, f) in
    let start = c.book_out-book.new.seat.me.0.it in
    let b = c.book_out-book.result in
    holds_all start c.loop-k.seat.me.0.it b c.loop-k.shards.items
    (subst (λ (n : ℕ). HoldsFirst start b c.loop-k.shards.items n c.loop-k.seat.me.0.it) all c.loop-k.invariant.holds)

pub returns-clause-seen : goal.returns-clause-seen
returns-clause-seen g c = c.loop-k.invariant.holds.seen ∙ (ap (λ (v : View). v.it.seen) c.book_out-book.ensures.view
    ∙ ap (λ (k : ViewAndSlots g.row.M.Denot). k.0.it.seen) c.take_book.ensures.taken.1)
