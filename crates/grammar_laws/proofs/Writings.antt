-- Bytes that are written symbol by symbol, with blanks between them, have exactly these symbols as their tokens.
use Rattle.std.proofs.Common.{◌≡◌, ◌∙◌, ap, sym, refl, ℕ, ◌+◌, ◌≤◌, true, List, [], ◌∷◌, ◌++◌, length, All, drop, take, Some}
use Rattle.std.proofs.lemmas.List.Elements.{All-nil, All-cons}
use Rattle.std.proofs.Math.Seq.{take-append_seam}
use Rattle.pipe_model.specs.declared.symbol.Symbol.{Symbol}
use Rattle.pipe_model.specs.declared.symbol.Symbol.TheVariants as symbols
use Rattle.pipe_model.specs.declared.token.Token.{Token}
use Rattle.pipe_model.specs.Language.Lexis.{is_blank, symbol_of}
use Rattle.pipe_model.specs.Language.Tokens.{Scans, Stops, Blank, Taken, IsToken, IsTokenWithinBounds, IsLexed, token_at, kind_of}
use Rattle.pipe_model.specs.Language.Tokens.{symbol_as, symbol_in, symbols_in}
use Rattle.grammar_laws.proofs.TokenLaws.{IsWithinBounds, after_front, name_is_text, symbol_of_kind}

-- the tokens of the source are these symbols
pub record IsWritingOf (source : List ℕ) (found : List Symbol) : Type 0 where
  pub tokens : List Token
  pub lexed : IsLexed source tokens
  pub same : symbols_in source tokens ≡ found

-- the bytes are these symbols with blanks between them; each is within its bounds, and the longest symbol at its offset
pub data Writes : List ℕ → List Symbol → Type 0 where
  Done : Writes [] []
  Space : {bytes : List ℕ} {found : List Symbol} (b : ℕ) → is_blank b ≡ true → Writes bytes found → Writes (b ∷ bytes) found
  Puts : {rest : List ℕ} {found : List Symbol} (text : List ℕ) (s : Symbol) → IsToken text rest s → IsWithinBounds s → Writes rest found
      → Writes (text ++ rest) (s ∷ found)

-- a symbol within its bounds is a token within its bounds
bounded_token : (place : ℕ) (text : List ℕ) (s : Symbol) → symbol_of text ≡ Some s → IsWithinBounds s
    → IsTokenWithinBounds (token_at place text s)
bounded_token place text (symbols.Name name) e w = rw (sym (name_is_text text name e)) w
bounded_token place text (symbols.Word k) e w = tt
bounded_token place text (symbols.Number n) e w = w
bounded_token place text (symbols.Operator code) e w = tt
bounded_token place text (symbols.Sign b) e w = tt

-- a token is its symbol in the source
pub token_is_symbol : (source text rest : List ℕ) (place : ℕ) (s : Symbol) → drop place source ≡ text ++ rest → symbol_of text ≡ Some s
    → symbol_in source (token_at place text s) ≡ s
token_is_symbol source text rest place s e h =
    ap (λ x. symbol_as (kind_of s) (take (length text) x)) e ∙ ap (λ x. symbol_as (kind_of s) x) (take-append_seam text rest)
    ∙ symbol_of_kind text s h

-- the tokens of what is written at an offset
pub record WrittenTokens (source : List ℕ) (place : ℕ) (bytes : List ℕ) (found : List Symbol) : Type 0 where
  pub tokens : List Token
  pub scanned : Scans place bytes tokens []
  pub bounded : All IsTokenWithinBounds tokens
  pub same : symbols_in source tokens ≡ found

pub written_tokens : {bytes : List ℕ} {found : List Symbol} (source : List ℕ) (place : ℕ) → drop place source ≡ bytes → Writes bytes found
    → WrittenTokens source place bytes found
written_tokens source place e Done = record { tokens = []; scanned = Stops place []; bounded = All-nil IsTokenWithinBounds; same = refl }
written_tokens source place e (Space {bytes} b h w) =
    let t = written_tokens source (place + 1) (after_front source (b ∷ []) bytes place e) w in
    record { tokens = t.tokens; scanned = Blank b h t.scanned; bounded = t.bounded; same = t.same }
written_tokens source place e (Puts {rest} {found} text s k bound w) =
    let t = written_tokens source (place + length text) (after_front source text rest place e) w in
    record {
      tokens = token_at place text s ∷ t.tokens;
      scanned = Taken text s k t.scanned;
      bounded = All-cons IsTokenWithinBounds (token_at place text s) t.tokens (bounded_token place text s k.symbol bound) t.bounded;
      same = (let here = token_is_symbol source text rest place s e k.symbol in let others = t.same in cc (here, others));
    }

-- a whole source
pub written_source : (source : List ℕ) (found : List Symbol) → length source ≤ 1048576 → Writes source found → IsWritingOf source found
written_source source found short w =
    let t = written_tokens source 0 refl w in
    record { tokens = t.tokens; lexed = record { short = short; scanned = t.scanned; bounded = t.bounded }; same = t.same }
