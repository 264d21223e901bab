use Rattle.std.proofs.Common.{◌≡◌, ◌∙◌, ◌≤◌, ◌+◌, ◌*◌, ap, ap₂, arith, le_trans, rules, ℤ, pos, ◌≤ℤ◌, w64, to_z, of_z}
use Rattle.std.proofs.Math.Nat.{mul-le-mul_left, mul-le-mul_right}
use Rattle.std.proofs.lemmas.Int.{ints, to_z-of_z}
use lib.IntN.{nat_abs}
use mir.Val.{SFits}
use Rattle.frame_book.proofs.Keeping.New.{abs_is}
use Rattle.pipe_model.specs.declared.tree.Limits.{Limits}
use Rattle.pipe_model.specs.Language.Programs.{natural}
use Rattle.serial_elision.proofs.PartRuns.{natural_most}
use Rattle.stage_code.specs.LimitRanges.{HasRangesOfLimits}
use Rattle.schedule_play.proofs.program_play.most_instances.Goals as goal

-- a limit as the code reads it
as_read : (z : ℤ) → SFits w64 z → pos 1 ≤ℤ z → nat_abs (to_z w64 (of_z w64 z)) ≡ natural z
as_read z fits least = ap nat_abs (to_z-of_z w64 z fits) ∙ abs_is z (omega (arith, ints, least))

product_is : (limits : Limits) → HasRangesOfLimits limits
    → nat_abs (to_z w64 (of_z w64 limits.iterations)) * nat_abs (to_z w64 (of_z w64 limits.stages))
    ≡ natural limits.iterations * natural limits.stages
product_is limits h =
    let iterations : SFits w64 limits.iterations = search rules in
    let stages : SFits w64 limits.stages = search rules in
    ap₂ (λ a b. a * b) (as_read limits.iterations iterations h.iterations.0) (as_read limits.stages stages h.stages.0)

product_bounded : (limits : Limits) → HasRangesOfLimits limits → natural limits.iterations * natural limits.stages ≤ 268435456
product_bounded limits h =
    le_trans (mul-le-mul_right (natural limits.stages) (natural_most limits.iterations 65536 h.iterations.1))
    (mul-le-mul_left 65536 (natural_most limits.stages 4096 h.stages.1))

pub overflow_mul-result : goal.overflow_mul-result
overflow_mul-result c =
    let same = product_is c.args.limits c.requires in
    let bounded = product_bounded c.args.limits c.requires in
    omega (arith, same, bounded)

pub overflow_add-result : goal.overflow_add-result
overflow_add-result c =
    let same = product_is c.args.limits c.requires in
    let bounded = product_bounded c.args.limits c.requires in
    omega (arith, same, bounded)

pub returns-clause-count : goal.returns-clause-count
returns-clause-count c = ap (λ n. n + 1) (product_is c.args.limits c.requires)

pub returns-clause-bounded : goal.returns-clause-bounded
returns-clause-bounded c =
    let same = product_is c.args.limits c.requires in
    let bounded = product_bounded c.args.limits c.requires in
    omega (arith, same, bounded)
