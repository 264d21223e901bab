-- The index before the partition point is the index of the last number up to s.
use Rattle.std.proofs.Common.{rules, arith, ◌-◌}
use Rattle.std.proofs.lemmas.List.Sorted.{IsPartitionPoint-from_clause}
use Rattle.std.specs.Prelude.{int_le}
use Rattle.left_parent.specs.LastNumber.{IsLastUpTo}
use Rattle.left_parent.proofs.PartitionPoints.{parted, point_is_last, none_at_front, found_is_last, none_is_joined}
use Rattle.left_parent.proofs.search.find.Goals as goal

pub returns-then-count-eq0-clause-none : goal.returns-then-count-eq0-clause-none
returns-then-count-eq0-clause-none c =
    let point = IsPartitionPoint-from_clause (λ y. int_le y c.args.s) _ _ c.partition_point-count.ensures.partitioned
    (parted c.args.numbers.now c.args.s c.requires.rising) (λ a r q k. search rules) in
    λ j last. absurd (none_at_front c.args.numbers.now c.args.s _ point c.if-count-eq0.true j last)

last : (c : goal.After-then_some) → IsLastUpTo c.args.numbers.now (c.partition_point-count.result - 1) c.args.s
last c =
    let point = IsPartitionPoint-from_clause (λ y. int_le y c.args.s) _ _ c.partition_point-count.ensures.partitioned
    (parted c.args.numbers.now c.args.s c.requires.rising) (λ a r q k. search rules) in
    point_is_last c.args.numbers.now c.args.s _ point c.partition_point-count.ensures.bound
    (omega (arith, c.if-count-eq0.false))

pub returns-clause-last : goal.returns-clause-last
returns-clause-last c = found_is_last _ _ _ _ _ c.then_some.ensures (last c)

pub returns-clause-none : goal.returns-clause-none
returns-clause-none c = none_is_joined _ _ _ _ _ c.then_some.ensures (last c)
