use Rattle.std.proofs.Common.{◌≡◌, sym, rules, w64, refl, true, false, pos, ◌*ℤ◌, int_lt}
use mir.Val.{SFits}
use Rattle.std.proofs.lemmas.Int.{to_z-of_z}
use Rattle.pipe_check.proofs.LimitOrder.{limit_by}
use Rattle.pipe_check.proofs.limits.first_limit_out.Goals as goal

pub returns-then-not-is_between-3 : goal.returns-then-not-is_between-3
returns-then-not-is_between-3 c =
    let iterations : SFits w64 c.args.limits.now.iterations = search rules in
    let stages : SFits w64 c.args.limits.now.stages = search rules in
    let instances : SFits w64 (c.args.limits.now.iterations *ℤ c.args.limits.now.stages) = search rules in
    let bounded : int_lt (pos 262144) (c.args.limits.now.iterations *ℤ c.args.limits.now.stages) ≡ false =
    simp to_z-of_z at c.if-limits-gt-MOST_INSTANCES.false in
    let steps : SFits w64 c.args.limits.now.steps = search rules in
    limit_by c.args.limits.now true true false false _ (simp to_z-of_z at c.if-not-is_between.ensures)
    (simp to_z-of_z at c.if-not-is_between-2.ensures)
    (sym bounded) (simp to_z-of_z at c.if-not-is_between-3.ensures) refl

pub returns-then-limits-gt-MOST_EMITS : goal.returns-then-limits-gt-MOST_EMITS
returns-then-limits-gt-MOST_EMITS c =
    let iterations : SFits w64 c.args.limits.now.iterations = search rules in
    let stages : SFits w64 c.args.limits.now.stages = search rules in
    let steps : SFits w64 c.args.limits.now.steps = search rules in
    let emits : SFits w64 c.args.limits.now.emits = search rules in
    let instances : SFits w64 (c.args.limits.now.iterations *ℤ c.args.limits.now.stages) = search rules in
    let bounded : int_lt (pos 262144) (c.args.limits.now.iterations *ℤ c.args.limits.now.stages) ≡ false =
    simp to_z-of_z at c.if-limits-gt-MOST_INSTANCES.false in
    let many : int_lt (pos 1048576) c.args.limits.now.emits ≡ true = simp to_z-of_z at c.if-limits-gt-MOST_EMITS.true in
    limit_by c.args.limits.now true true false true true (simp to_z-of_z at c.if-not-is_between.ensures)
    (simp to_z-of_z at c.if-not-is_between-2.ensures)
    (sym bounded) (simp to_z-of_z at c.if-not-is_between-3.ensures) (sym many)

pub returns : goal.returns
returns c =
    let iterations : SFits w64 c.args.limits.now.iterations = search rules in
    let stages : SFits w64 c.args.limits.now.stages = search rules in
    let steps : SFits w64 c.args.limits.now.steps = search rules in
    let emits : SFits w64 c.args.limits.now.emits = search rules in
    let instances : SFits w64 (c.args.limits.now.iterations *ℤ c.args.limits.now.stages) = search rules in
    let bounded : int_lt (pos 262144) (c.args.limits.now.iterations *ℤ c.args.limits.now.stages) ≡ false =
    simp to_z-of_z at c.if-limits-gt-MOST_INSTANCES.false in
    let not_many : int_lt (pos 1048576) c.args.limits.now.emits ≡ false = simp to_z-of_z at c.if-limits-gt-MOST_EMITS.false in
    limit_by c.args.limits.now true true false true false (simp to_z-of_z at c.if-not-is_between.ensures)
    (simp to_z-of_z at c.if-not-is_between-2.ensures)
    (sym bounded) (simp to_z-of_z at c.if-not-is_between-3.ensures) (sym not_many)

pub returns-then-not-is_between : goal.returns-then-not-is_between
returns-then-not-is_between c =
    let iterations : SFits w64 c.args.limits.now.iterations = search rules in
    limit_by c.args.limits.now false _ _ _ _ (simp to_z-of_z at c.if-not-is_between.ensures) refl refl refl refl

pub returns-then-not-is_between-2 : goal.returns-then-not-is_between-2
returns-then-not-is_between-2 c =
    let iterations : SFits w64 c.args.limits.now.iterations = search rules in
    let stages : SFits w64 c.args.limits.now.stages = search rules in
    limit_by c.args.limits.now true false _ _ _ (simp to_z-of_z at c.if-not-is_between.ensures)
    (simp to_z-of_z at c.if-not-is_between-2.ensures) refl refl refl

pub returns-then-limits-gt-MOST_INSTANCES : goal.returns-then-limits-gt-MOST_INSTANCES
returns-then-limits-gt-MOST_INSTANCES c =
    let iterations : SFits w64 c.args.limits.now.iterations = search rules in
    let stages : SFits w64 c.args.limits.now.stages = search rules in
    let instances : SFits w64 (c.args.limits.now.iterations *ℤ c.args.limits.now.stages) = search rules in
    let many : int_lt (pos 262144) (c.args.limits.now.iterations *ℤ c.args.limits.now.stages) ≡ true =
    simp to_z-of_z at c.if-limits-gt-MOST_INSTANCES.true in
    limit_by c.args.limits.now true true true _ _ (simp to_z-of_z at c.if-not-is_between.ensures)
    (simp to_z-of_z at c.if-not-is_between-2.ensures) (sym many) refl refl
