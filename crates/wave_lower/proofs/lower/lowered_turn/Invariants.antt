use Rattle.std.proofs.Common.{◌≡◌, ◌∷◌, ◌++◌, drop, map}
use Rattle.pipe_model.specs.Language.SyntaxTree.{statement_of}
use Rattle.wave_laws.specs.Waves.LoweredLoops.{counts_row, waits_for_left}
use Rattle.wave_lower.proofs.lower.lowered_turn.Given as goal

abbrev pub invariant-loop-s : goal.invariant-loop-s
invariant-loop-s l =
    map statement_of l.statements.items ++ map statement_of (drop l.s-index l.rest) ≡ waits_for_left ∷
    (counts_row ∷ map statement_of l.rest)
