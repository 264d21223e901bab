use Rattle.std.proofs.Common.{◌≡◌, ◌∷◌, ◌∙◌, drop, drop-cons, get_or, sym}
use Rattle.pipe_lexer.specs.Pieces.{ABlank}
use Rattle.pipe_lexer.proofs.PieceLaws.{comment_piece}
use Rattle.pipe_lexer.proofs.piece.piece_at.Goals as goal

pub returns-then-is_blank-clause-piece : goal.returns-then-is_blank-clause-piece
returns-then-is_blank-clause-piece c =
    let bytes = c.args.bytes.now in
    let parts : bytes ≡ get_or bytes 0 0 ∷ drop 1 bytes = drop-cons bytes 0 0 c.requires in
    ABlank _ _ parts (sym c.is_blank.ensures ∙ c.if-is_blank.true)

pub returns-then-begins_comment-clause-piece : goal.returns-then-begins_comment-clause-piece
returns-then-begins_comment-clause-piece c = comment_piece _ _ (sym c.begins_comment.ensures ∙ c.if-begins_comment.true)
    c.line_bytes.ensures.counted
