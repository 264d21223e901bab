use Rattle.std.proofs.Common.{arith}
use Rattle.pipe_span.proofs.LeftParents.{head_left, wait_left}
use Rattle.pipe_span.proofs.left_parent.left_parent.Goals as goal

pub returns-then-k-eq0 : goal.returns-then-k-eq0
returns-then-k-eq0 c = head_left _ _ _ c.if-k-eq0.true c.requires.within (grind (arith, c.if-is_empty.false, c.is_empty.ensures))
    c.requires.first

pub returns-else-count-eq0 : goal.returns-else-count-eq0
returns-else-count-eq0 c =
    wait_left _ _ _ _ (grind (arith, c.if-k-eq0.false)) c.requires.within (grind (arith, c.if-count-eq0.false)) c.in-Wait.is
    c.requires.counted
