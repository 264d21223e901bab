-- The shards learn one after the other.
use Rattle.std.proofs.Common.{◌+◌, ◌∙◌, arith, refl, subst, sym, ap}
use Rattle.frame_book.specs.BookStates.{BookState}
use Rattle.hall_shards.specs.Learning.{HasLearned}
use Rattle.hall_calls.specs.Closing.{shard_in}
use Rattle.hall_shards.specs.ShardValues.{ShardValue}
use Rattle.hall_calls.proofs.Closing.{LearnedFirst, learned_more, learned_none}
use Rattle.hall_calls.proofs.close.learn_all.Goals as goal

pub loop-k-init : goal.loop-k-init
loop-k-init g c = record { learned = learned_none c.args.book.now c.args.shards.now.items c.requires.len; book = refl }

pub learn_at-requires-clause-there : goal.learn_at-requires-clause-there
learn_at-requires-clause-there g c =
    let n = c.loop-k.invariant.learned.len in
    let t = c.loop-k-test.true in
    omega (arith, n, t)

pub learn_at-requires-clause-lists : goal.learn_at-requires-clause-lists
learn_at-requires-clause-lists g c =
    let same = c.loop-k.invariant.learned.rest c.loop-k.k (omega arith) in
    let l = c.requires.lists c.loop-k.k c.loop-k-test.true in
    let b = sym c.loop-k.invariant.book in (
      ap (λ (x : ShardValue). x.lists.down) same ∙ (l.0 ∙ ap (λ (x : BookState). x.lists.down) b),
      ap (λ (x : ShardValue). x.lists.right) same ∙ (l.1 ∙ ap (λ (x : BookState). x.lists.right) b),
    )

pub loop-k-preserved : goal.loop-k-preserved
loop-k-preserved g c =
    let q = c.learn_at.ensures.learned in
    let i = c.loop-k.invariant in
    let xs = c.args.shards.now.items in
    record {
      book = c.learn_at.ensures.book ∙ i.book;
      learned = subst (λ ys. LearnedFirst c.args.book.now xs ys (c.loop-k.k + 1)) (sym q.1)
          (learned_more c.args.book.now xs c.loop-k.shards.items c.loop-k.k q.0 c.loop-k-test.true
          (subst (λ (z : BookState). HasLearned z (shard_in c.loop-k.shards.items c.loop-k.k) q.0) i.book q.2) i.learned);
    }

pub returns-clause-len : goal.returns-clause-len
returns-clause-len g c = c.loop-k.invariant.learned.len

pub returns-clause-learned : goal.returns-clause-learned
returns-clause-learned g c = λ k l.
    (let e = c.loop-k.auto.k-end in
    let f = c.loop-k-test.false in
    c.loop-k.invariant.learned.learned k (omega (arith, l, e, f)))
