use Rattle.std.proofs.Common.{arith, subst}
use Rattle.dag_build.specs.Jumps.{MovesTo, Stays}
use Rattle.dag_build.proofs.Moves.{at_the_end, moves_both, step_at}
use Rattle.dag_build.proofs.dag.Dag.moved.Goals as goal

pub loop-k-init : goal.loop-k-init
loop-k-init c = (c.requires.order, Stays, λ d l. absurd (omega (arith, l)))

pub loop-k-preserved : goal.loop-k-preserved
loop-k-preserved c = (
  c.jumped.ensures.order,
  moves_both c.loop-k.invariant.1 (rw (← c.self.view_is, ← c.as_slice-columns.ensures) c.jumped.ensures.moves),
  λ d l. rw (step_at _ _ _ d l c.index-levels-k.is) c.jumped.ensures.near,
)

pub returns : goal.returns
returns c =
    at_the_end _ _ _ _ _ _ _ _ (rw (← c.self.view_is, c.as_slice-levels.ensures) c.self.invariant) (omega arith)
    c.loop-k.invariant.0 c.loop-k.invariant.2 c.loop-k.invariant.1

pub returns-then-from-to : goal.returns-then-from-to
returns-then-from-to c = subst (λ t. MovesTo c.args.self.now c.args.from c.args.place t c.args.place) c.if-from-to.true Stays
