-- A source has no more tokens than bytes.
use Rattle.std.proofs.Common.{◌≡◌, ℕ, ◌+◌, ◌<◌, ◌≤◌, List, [], ◌∷◌, length, length-append, Some, None, arith}
use Rattle.pipe_model.specs.Language.Lexis.{symbol_of}
use Rattle.pipe_model.specs.Language.Tokens.{Scans, Stops, Blank, Comment, Taken, HasTokens}
use Rattle.pipe_model.specs.declared.symbol.Symbol.{Symbol}
use Rattle.pipe_model.specs.declared.token.Token.{Token}

-- the text of a symbol is not empty
some_byte : (text : List ℕ) (s : Symbol) → symbol_of text ≡ Some s → 0 < length text
some_byte [] s e = let none : None ≡ Some s = e in cc (none)
some_byte (b ∷ bs) s e = omega arith

scanned_within : {place : ℕ} {bytes rest : List ℕ} {tokens : List Token} → Scans place bytes tokens rest
    → length tokens + length rest ≤ length bytes
scanned_within (Stops place rest) = omega arith
scanned_within (Blank b h d) = let bounded = scanned_within d in omega (arith, bounded)
scanned_within (Comment {bytes = bytes} text h d) =
    let bounded = scanned_within d in
    let many = length-append text bytes in
    omega (arith, bounded, many)
scanned_within (Taken {bytes = bytes} text s t d) =
    let bounded = scanned_within d in
    let many = length-append text bytes in
    let some = some_byte text s t.symbol in
    omega (arith, bounded, many, some)

-- a source has at most as many tokens as bytes
pub tokens_within : (source : List ℕ) (tokens : List Token) → HasTokens source tokens → length tokens ≤ length source
tokens_within source tokens h = let bounded = scanned_within h in omega (arith, bounded)
