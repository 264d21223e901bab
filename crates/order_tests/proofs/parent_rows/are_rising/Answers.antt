use Rattle.std.proofs.Common.{◌<◌, ◌<ℤ◌, ℕ, arith, below_more, get_or, pos}
use Rattle.order_tests.proofs.parent_rows.are_rising.Goals as goal

pub loop-k-preserved : goal.loop-k-preserved
loop-k-preserved c = λ i j less before.
    let numbers = c.args.numbers.now in
    below_more (λ m. (n : ℕ) → n < m → get_or numbers n (pos 0) <ℤ get_or numbers m (pos 0)) c.loop-k.k
    (λ m within n under. c.loop-k.invariant n m under within) c.if-not-is_above.ensures j before i less

pub returns : goal.returns
returns c = λ i j less within. c.loop-k.invariant i j less (omega (arith, within, c.loop-k-test.false))
