use Rattle.std.proofs.Common.{◌≡◌, ℕ, None}
use Rattle.book_tests.specs.HeldTokens.{token_of}
use Rattle.book_tests.proofs.play.places.Given as goal

abbrev pub invariant-loop : goal.invariant-loop
invariant-loop l = (i : ℕ) → token_of l.places.items i ≡ None
