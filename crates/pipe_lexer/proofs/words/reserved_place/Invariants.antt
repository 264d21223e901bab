use Rattle.std.proofs.Common.{◌≡◌, ◌<◌, ℕ, false, get_or, []}
use Rattle.std.specs.Str.{bytes_eq}
use Rattle.pipe_model.specs.Language.Lexis.{reserved_words}
use Rattle.pipe_lexer.proofs.words.reserved_place.Given as goal

abbrev pub invariant-loop-place : goal.invariant-loop-place
invariant-loop-place l = (k : ℕ) → k < l.place → bytes_eq (get_or reserved_words k []) l.text ≡ false
