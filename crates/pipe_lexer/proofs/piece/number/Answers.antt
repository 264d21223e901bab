use Rattle.std.proofs.Common.{refl, rules, arith, w64}
use mir.Val.{SFits}
use Rattle.std.proofs.lemmas.Int.{ints, to_z-of_z}
use Rattle.pipe_lexer.proofs.PieceLaws.{number_piece, number_flaw}
use Rattle.pipe_lexer.proofs.piece.number.Goals as goal

pub returns-in_default-clause-flaw : goal.returns-in_default-clause-flaw
returns-in_default-clause-flaw c =
    let r = c.requires in
    number_flaw _ _ _ _ _ r.front r.letter r.digit c.digits-more.ensures.counted refl c.in_default.ensures.none

pub returns-clause-piece : goal.returns-clause-piece
returns-clause-piece c =
    let r = c.requires in
    let fits : SFits w64 c.in-Some.value = search rules in
    simp to_z-of_z (number_piece _ _ _ _ _ _ r.front r.letter r.digit c.digits-more.ensures.counted refl c.in-Some.ensures.some
    (omega (arith, ints, fits)))
