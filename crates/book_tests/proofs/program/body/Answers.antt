use Rattle.std.proofs.Common.{refl}
use Rattle.book_tests.proofs.program.body.Goals as goal

pub returns-then-three : goal.returns-then-three
returns-then-three c =
    simp (c.in_ok-statements.ensures.items, c.wait.ensures, c.wait-then-three.ensures, c.wait-then-three-2.ensures, c.if-three.true) refl

pub returns : goal.returns
returns c = simp (c.in_ok-statements-2.ensures.items, c.wait-2.ensures, c.if-three.false) refl
