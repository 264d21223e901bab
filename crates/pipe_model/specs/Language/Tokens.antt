-- Tokens: which tokens a source has, each with its kind, offset and length, among blanks and comments; and which fault a
-- source has if it has no tokens within the bounds.
use Rattle.std.specs.Prelude.{◌≡◌, ℕ, ◌+◌, ◌-◌, ◌<◌, ◌≤◌, ◌^◌, pos, ◌≤ℤ◌, Bool, true, false, not, List, [], ◌∷◌, ◌++◌, length, take, drop}
use Rattle.std.specs.Prelude.{map, ◌==◌, ◌&&◌, Some, All}
use Rattle.pipe_model.specs.declared.bounds.TheConstants.{LONGEST_SOURCE, LONGEST_NAME}
use Rattle.std.specs.List.{list_all}
use Rattle.pipe_model.specs.Language.Lexis.{is_blank, symbol_of, IsLongest}
use Rattle.pipe_model.specs.declared.symbol.Symbol.{Symbol}
use Rattle.pipe_model.specs.declared.symbol.Symbol.TheVariants as symbols
use Rattle.pipe_model.specs.declared.token.Token.{Token}
use Rattle.pipe_model.specs.declared.token.TokenKind.{TokenKind}
use Rattle.pipe_model.specs.declared.token.TokenKind.TheVariants as kinds

-- ---- comments

abbrev pub is_line_feed : ℕ → Bool
is_line_feed b = b == 10

-- two slashes begin a comment
abbrev pub begins_comment : List ℕ → Bool
begins_comment [] = false
begins_comment (a ∷ []) = false
begins_comment (a ∷ b ∷ bs) = (a == 47) && (b == 47)

-- a comment may end here: the source ends, or a line feed is next
abbrev pub EndsComment : List ℕ → Type 0
EndsComment [] = Unit {0}
EndsComment (b ∷ bs) = is_line_feed b ≡ true

-- the text is a comment: two slashes and any bytes, up to the next line feed or the end of the source
pub record IsComment (text rest : List ℕ) : Type 0 where
  pub begins : begins_comment text ≡ true
  pub inside : list_all (λ b. not (is_line_feed b)) text ≡ true
  pub ends : EndsComment rest

-- ---- tokens

-- the text is a token: the longest symbol at its offset, where no comment begins
pub record IsToken (text rest : List ℕ) (s : Symbol) : Type 0 where
  pub symbol : symbol_of text ≡ Some s
  pub longest : IsLongest text rest
  pub no_comment : begins_comment (text ++ rest) ≡ false

-- the kind of a token that is this symbol
abbrev pub kind_of : Symbol → TokenKind
kind_of (symbols.Name text) = kinds.Name
kind_of (symbols.Word k) = kinds.Word k
kind_of (symbols.Number n) = kinds.Number n
kind_of (symbols.Operator code) = kinds.Operator code
kind_of (symbols.Sign b) = kinds.Sign b

-- the token of this text at this offset
abbrev pub token_at : ℕ → List ℕ → Symbol → Token
token_at place text s = record { kind = kind_of s; place = place; length = length text }

-- the bytes, which begin at offset `place`, are these tokens, among blanks and comments, and then `rest`
pub data Scans : ℕ → List ℕ → List Token → List ℕ → Type 0 where
  Stops : (place : ℕ) (rest : List ℕ) → Scans place rest [] rest
  Blank : {place : ℕ} {bytes rest : List ℕ} {tokens : List Token} (b : ℕ) → is_blank b ≡ true → Scans (place + 1) bytes tokens rest
      → Scans place (b ∷ bytes) tokens rest
  Comment : {place : ℕ} {bytes rest : List ℕ} {tokens : List Token} (text : List ℕ) → IsComment text bytes
      → Scans (place + length text) bytes tokens rest → Scans place (text ++ bytes) tokens rest
  Taken : {place : ℕ} {bytes rest : List ℕ} {tokens : List Token} (text : List ℕ) (s : Symbol) → IsToken text bytes s
      → Scans (place + length text) bytes tokens rest → Scans place (text ++ bytes) (token_at place text s ∷ tokens) rest

-- the whole source is these tokens, among blanks and comments
abbrev pub HasTokens : List ℕ → List Token → Type 0
HasTokens source tokens = Scans 0 source tokens []

-- ---- bounds

-- a name is not too long, and a number is an `i64`
abbrev pub IsKindWithinBounds : TokenKind → ℕ → Type 0
IsKindWithinBounds kinds.Name bytes = bytes ≤ LONGEST_NAME
IsKindWithinBounds (kinds.Word k) bytes = Unit {0}
IsKindWithinBounds (kinds.Number n) bytes = n ≤ℤ pos (2 ^ 63 - 1)
IsKindWithinBounds (kinds.Operator code) bytes = Unit {0}
IsKindWithinBounds (kinds.Sign b) bytes = Unit {0}

-- the same of a token
abbrev pub IsTokenWithinBounds : Token → Type 0
IsTokenWithinBounds token = IsKindWithinBounds token.kind token.length

-- a source is not too long
abbrev pub IsShortEnough : List ℕ → Type 0
IsShortEnough source = length source ≤ LONGEST_SOURCE

-- the tokens of a source that has no fault
pub record IsLexed (source : List ℕ) (tokens : List Token) : Type 0 where
  pub short : IsShortEnough source
  pub scanned : HasTokens source tokens
  pub bounded : All IsTokenWithinBounds tokens

-- ---- the symbols of tokens

-- the bytes of a token in its source
abbrev pub text_in : List ℕ → Token → List ℕ
text_in source token = take token.length (drop token.place source)

-- the symbol of this kind and this text
abbrev pub symbol_as : TokenKind → List ℕ → Symbol
symbol_as kinds.Name text = symbols.Name text
symbol_as (kinds.Word k) text = symbols.Word k
symbol_as (kinds.Number n) text = symbols.Number n
symbol_as (kinds.Operator code) text = symbols.Operator code
symbol_as (kinds.Sign b) text = symbols.Sign b

-- the symbol of a token in its source
abbrev pub symbol_in : List ℕ → Token → Symbol
symbol_in source token = symbol_as token.kind (text_in source token)

abbrev pub symbols_in : List ℕ → List Token → List Symbol
symbols_in source tokens = map (symbol_in source) tokens

-- a token is inside its source, and its text there is the text of its symbol
pub record IsInSource (source : List ℕ) (token : Token) : Type 0 where
  pub symbol : symbol_of (text_in source token) ≡ Some (symbol_in source token)
  pub within : token.place + token.length ≤ length source

-- ---- faults

-- the source is not too long, and up to exactly this offset it is tokens within the bounds, among blanks and comments
pub record IsReached (source : List ℕ) (place : ℕ) : Type 0 where
  pub short : IsShortEnough source
  pub before : List Token
  pub scanned : Scans 0 source before (drop place source)
  pub bounded : All IsTokenWithinBounds before

-- there is a byte here, and no blank, comment or symbol begins with it
abbrev pub BeginsNothing : List ℕ → Type 0
BeginsNothing [] = ⊥
BeginsNothing (b ∷ bs) =
    (is_blank b ≡ false) × (begins_comment (b ∷ bs) ≡ false)
    × ((text rest : List ℕ) (s : Symbol) → b ∷ bs ≡ text ++ rest → symbol_of text ≡ Some s → ⊥)

-- the bytes begin with a token that is this symbol
pub record BeginsWith (bytes : List ℕ) (s : Symbol) : Type 0 where
  pub text : List ℕ
  pub rest : List ℕ
  pub parts : bytes ≡ text ++ rest
  pub token : IsToken text rest s

-- what is wrong with a source, with the offset in bytes from 0
pub data LexicalFault : Type 0 where
  BadByte : ℕ → LexicalFault
  TooWide : ℕ → LexicalFault
  SourceTooLong : LexicalFault
  NameTooLong : ℕ → LexicalFault

-- the source has this fault: it is too long, or else this is the first fault of its text
pub data HasFault (source : List ℕ) : LexicalFault → Type 0 where
  IsTooLong : LONGEST_SOURCE < length source → HasFault source SourceTooLong
  HasBadByte : (place : ℕ) → IsReached source place → BeginsNothing (drop place source) → HasFault source (BadByte place)
  HasWideNumber : (place : ℕ) (n : ℕ) → IsReached source place → BeginsWith (drop place source) (symbols.Number (pos n)) → 2 ^ 63 ≤ n
      → HasFault source (TooWide place)
  HasLongName : (place : ℕ) (name : List ℕ) → IsReached source place → BeginsWith (drop place source) (symbols.Name name)
      → LONGEST_NAME < length name
      → HasFault source (NameTooLong place)
