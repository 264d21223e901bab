use Rattle.book_tests.specs.HeldTokens.{AreHeld}
use Rattle.script_tests.proofs.scripts.first_other_row.Given as goal

abbrev pub invariant-loop-index : goal.invariant-loop-index
invariant-loop-index l = AreHeld l.play.book l.play.tokens.items
