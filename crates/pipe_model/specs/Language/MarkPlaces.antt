-- The offsets of marks, in bytes. The marks are the tokens to which checking rules apply: the names and the words `iter`, `pipe_wait` and
-- `pipe_continue`.
use Rattle.std.specs.Prelude.{ℤ, pos, List, [], ◌∷◌, Bool, true, false, ◌==◌, ◌||◌, if◌then◌else◌}
use Rattle.pipe_model.specs.declared.word_codes.TheConstants as words
use Rattle.pipe_model.specs.declared.token.Token.{Token}
use Rattle.pipe_model.specs.declared.token.TokenKind.{TokenKind}
use Rattle.pipe_model.specs.declared.token.TokenKind.TheVariants as kinds

-- a token of this kind is a mark
abbrev pub is_mark : TokenKind → Bool
is_mark kinds.Name = true
is_mark (kinds.Word k) = (k == words.PIPE_WAIT) || ((k == words.PIPE_CONTINUE) || (k == words.ITER))
is_mark (kinds.Number n) = false
is_mark (kinds.Operator code) = false
is_mark (kinds.Sign b) = false

-- the offsets of the marks, in the order of the text
abbrev pub mark_places : List Token → List ℤ
mark_places [] = []
mark_places (token ∷ tokens) = if is_mark token.kind then pos token.place ∷ mark_places tokens else mark_places tokens
