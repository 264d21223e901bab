-- The blank, comment or token with which bytes begin, and what may be wrong there.
use Rattle.pipe_model.specs.declared.bounds.TheConstants.{LONGEST_NAME}
use Rattle.std.specs.Prelude.{◌≡◌, ℕ, ◌<◌, ◌≤◌, ◌^◌, pos, true, false, List, [], ◌∷◌, length, take, drop, slice_index_or}
use Rattle.pipe_model.specs.Language.Lexis.{is_blank, is_digit, is_letter, operators}
use Rattle.pipe_model.specs.Language.Tokens.{begins_comment, kind_of, BeginsNothing, BeginsWith, IsComment, IsKindWithinBounds, IsToken}
use Rattle.pipe_model.specs.declared.symbol.Symbol.{Symbol}
use Rattle.pipe_model.specs.declared.symbol.Symbol.TheVariants as symbols
use Rattle.pipe_model.specs.declared.token.Token.{Token}
use Rattle.pipe_lexer.specs.declared.piece.Flaw.{Flaw}
use Rattle.pipe_lexer.specs.declared.piece.Flaw.TheVariants as flaws
use Rattle.pipe_lexer.specs.declared.piece.Piece.{Piece}
use Rattle.pipe_lexer.specs.declared.piece.Piece.TheVariants as pieces

-- the bytes begin with `first`, and no blank, comment, word, name or number begins there
pub record BeginsPunctuation (first : ℕ) (bytes : List ℕ) : Type 0 where
  pub following : List ℕ
  pub parts : bytes ≡ first ∷ following
  pub no_blank : is_blank first ≡ false
  pub no_comment : begins_comment bytes ≡ false
  pub no_letter : is_letter first ≡ false
  pub no_digit : is_digit first ≡ false

-- the length of the operator with this code; 0 if no operator has the code
abbrev pub operator_length : ℕ → ℕ
operator_length code = length (slice_index_or ([] ∷ operators) code [])

-- the number of bytes of a piece
abbrev pub length_of : Piece → ℕ
length_of (pieces.Gap n) = n
length_of (pieces.Taken kind n) = n

-- the token of a piece at this offset, if the piece is a token
abbrev pub tokens_of : Piece → ℕ → List Token
tokens_of (pieces.Gap n) place = []
tokens_of (pieces.Taken kind n) place = record { kind = kind; place = place; length = n } ∷ []

-- the bytes begin with this piece: a blank, a comment, or a token within its bounds
pub data IsPiece (bytes : List ℕ) : Piece → Type 0 where
  ABlank : (b : ℕ) (following : List ℕ) → bytes ≡ b ∷ following → is_blank b ≡ true → IsPiece bytes (pieces.Gap 1)
  AComment : (n : ℕ) → 0 < n → n ≤ length bytes → IsComment (take n bytes) (drop n bytes) → IsPiece bytes (pieces.Gap n)
  AToken : (s : Symbol) (n : ℕ) → 0 < n → n ≤ length bytes → IsToken (take n bytes) (drop n bytes) s → IsKindWithinBounds (kind_of s) n
      → IsPiece bytes (pieces.Taken (kind_of s) n)

-- why no piece can be taken from the beginning of the bytes: no token begins here, or the number or the name is too long
pub data IsFlaw (bytes : List ℕ) : Flaw → Type 0 where
  NoTokenBegins : BeginsNothing bytes → IsFlaw bytes flaws.BadByte
  NumberIsWide : (n : ℕ) → BeginsWith bytes (symbols.Number (pos n)) → 2 ^ 63 ≤ n → IsFlaw bytes flaws.TooWide
  NameIsLong : (name : List ℕ) → BeginsWith bytes (symbols.Name name) → LONGEST_NAME < length name → IsFlaw bytes flaws.NameTooLong
