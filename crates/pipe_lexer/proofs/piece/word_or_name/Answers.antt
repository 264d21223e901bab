use Rattle.std.proofs.Common.{refl, sym, arith}
use Rattle.pipe_lexer.proofs.PieceLaws.{word_piece, name_piece, name_flaw}
use Rattle.pipe_lexer.proofs.piece.word_or_name.Goals as goal

pub returns-in-Some-clause-piece : goal.returns-in-Some-clause-piece
returns-in-Some-clause-piece c =
    word_piece _ _ _ _ _ _ c.requires.front c.requires.letter c.name_bytes-more.ensures.counted refl (sym c.in-Some.ensures)

pub returns-then-text-gt-LONGEST_NAME-clause-flaw :
    goal.returns-then-text-gt-LONGEST_NAME-clause-flaw
returns-then-text-gt-LONGEST_NAME-clause-flaw c =
    name_flaw _ _ _ _ _ c.requires.front c.requires.letter c.name_bytes-more.ensures.counted refl (sym c.in_default.ensures) (omega arith)

pub returns-clause-piece : goal.returns-clause-piece
returns-clause-piece c =
    name_piece _ _ _ _ _ c.requires.front c.requires.letter c.name_bytes-more.ensures.counted refl (sym c.in_default.ensures) (omega arith)
