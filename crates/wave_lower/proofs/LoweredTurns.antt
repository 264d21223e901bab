-- The body of a lowered loop.
use Rattle.std.proofs.Common.{◌≡◌, ◌∙◌, List, ◌∷◌, ap, map, sym}
use Rattle.pipe_model.specs.declared.tree.Stmt.{Stmt}
use Rattle.pipe_model.specs.Language.SyntaxTree.{Then, statement_of, statements_of}
use Rattle.program_copy.proofs.CopiedStatements.{in_order, in_order_is}
use Rattle.wave_laws.specs.Waves.LoweredLoops.{counts_row, lowered_turn, waits_for_left}

-- statement by statement, it waits for the left neighbour, counts the row, and then does what the loop's body does
pub turn_is : (items rest : List Stmt) → map statement_of items ≡ waits_for_left ∷ (counts_row ∷ map statement_of rest)
    → statements_of items ≡ lowered_turn (statements_of rest)
turn_is items rest h = sym (in_order_is items) ∙ ap in_order h ∙ ap (λ ss. Then waits_for_left (Then counts_row ss)) (in_order_is rest)
