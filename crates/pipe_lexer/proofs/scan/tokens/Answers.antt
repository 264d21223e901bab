use Rattle.std.proofs.Common.{◌≡◌, rules, arith, [], ◌++◌, ◌-◌, length, length-drop, take, drop}
use Rattle.std.proofs.lemmas.List.{take_all, nil_from_length}
use Rattle.pipe_model.specs.Language.Tokens.{IsTooLong}
use Rattle.pipe_lexer.specs.Pieces.{tokens_of, IsFlaw, IsPiece}
use Rattle.pipe_lexer.proofs.ScanLaws.{at_end, at_flaw, past_piece}
use Rattle.pipe_lexer.proofs.scan.tokens.Goals as goal

pub returns-then-source-gt-LONGEST_SOURCE-clause-fault :
    goal.returns-then-source-gt-LONGEST_SOURCE-clause-fault
returns-then-source-gt-LONGEST_SOURCE-clause-fault c = IsTooLong (omega arith)

pub returns-in-Err-clause-fault : goal.returns-in-Err-clause-fault
returns-in-Err-clause-fault c =
    let flaw : IsFlaw c.loop-rest.rest.now c.in-Err.flaw = rw c.in-Err.is at c.piece_at.ensures.flaw in
    rw c.at.ensures (at_flaw _ _ _ _ _ c.loop-rest.invariant flaw (search rules))

pub loop-rest-preserved : goal.loop-rest-preserved
loop-rest-preserved c =
    let rest = c.loop-rest.rest.now in
    let piece : IsPiece rest c.in-Ok.piece = rw c.in-Ok.is at c.piece_at.ensures.piece in
    let n = c.length.result in
    let tail : take (length rest - n) (drop n rest) ≡ drop n rest = take_all _ _ (omega (arith, length-drop n rest)) in
    let kept : c.keep.new.found ≡ c.loop-rest.found ++ tokens_of c.in-Ok.piece (length c.args.source.now - length rest) = search rules in
    rw (tail, kept, c.length.ensures) (past_piece _ _ _ _ _ c.loop-rest.invariant piece (search rules))

pub returns-clause-tokens : goal.returns-clause-tokens
returns-clause-tokens c =
    let none : c.loop-rest.rest.now ≡ [] = nil_from_length _ (search rules) in
    at_end _ _ (rw none at c.loop-rest.invariant)
