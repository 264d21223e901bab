use Rattle.std.proofs.Common.{sym, ◌∙◌}
use Rattle.pipe_lexer.proofs.Punctuation.{operator_piece, sign_piece, no_token_begins}
use Rattle.pipe_lexer.proofs.piece.punctuation.Goals as goal

pub returns-in-Some-clause-piece : goal.returns-in-Some-clause-piece
returns-in-Some-clause-piece c = rw c.operator_length.ensures (operator_piece _ _ _ c.requires c.in-Some.ensures.some)

pub returns-then-not-is_sign-clause-flaw : goal.returns-then-not-is_sign-clause-flaw
returns-then-not-is_sign-clause-flaw c = no_token_begins _ _ c.requires c.in_default.ensures.none
    (sym c.is_sign.ensures ∙ c.if-not-is_sign.true)

pub returns-clause-piece : goal.returns-clause-piece
returns-clause-piece c = sign_piece _ _ c.requires c.in_default.ensures.none (sym c.is_sign.ensures ∙ c.if-not-is_sign.false)
