use Rattle.std.proofs.Common.{◌≤◌, ◌∙◌, ◌++◌, append-nil, ap, arith, length, map, sym}
use Rattle.std.proofs.lemmas.List.{drop_all}
use Rattle.pipe_model.specs.Language.SyntaxTree.{statement_of}
use Rattle.wave_lower.proofs.LoweredTurns.{turn_is}
use Rattle.wave_lower.proofs.lower.lowered_turn.Goals as goal

pub returns : goal.returns
returns c =
    let items = c.loop-s.statements.items in
    let rest = c.args.rest.now in
    let past : length rest ≤ c.loop-s.s-index = omega (arith, c.loop-s-test.false) in
    let none = drop_all c.loop-s.s-index rest past in
    turn_is items rest (sym (append-nil (map statement_of items))
    ∙ (sym (ap (λ xs. map statement_of items ++ map statement_of xs) none) ∙ c.loop-s.invariant))
