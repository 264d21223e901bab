use Rattle.std.proofs.Common.{◌≡◌, arith}
use Rattle.std.proofs.lemmas.Bool.Decides.{nat_tests}
use Rattle.dag_build.proofs.Paths.{not_back, below_in_column, precedes_in_column, front_moved, precedes_from_front, front_from_precedes}
use Rattle.dag_build.proofs.dag.Dag.precedes.Goals as goal

pub returns-then-b-a : goal.returns-then-b-a
returns-then-b-a c = (λ e. cc, λ p. absurd (not_back _ _ _ p c.if-b-a.true))

pub returns-then-b-a-2 : goal.returns-then-b-a-2
returns-then-b-a-2 c =
    let same : c.args.a.iteration ≡ c.args.b.iteration = omega arith in (
      λ e. precedes_in_column _ _ _ same c.requires.b_in.1 (grind (arith, nat_tests, e)),
      λ p. let h = below_in_column _ _ _ same p in grind (arith, nat_tests, h),
    )

pub returns : goal.returns
returns c =
    let front = front_moved _ c.moved-front.ensures in (
      λ e. precedes_from_front _ _ _ _ (omega arith) front c.requires.b_in.1 (grind (arith, nat_tests, e)),
      λ p. let h = front_from_precedes _ _ _ _ front p in grind (arith, nat_tests, h),
    )
