-- Operators and signs with which bytes begin.
use Rattle.std.proofs.Common.{◌≡◌, ◌≢◌, ◌∙◌, ap, sym, ℕ, ◌+◌, ◌<◌, ◌≤◌, Bool, true, false, List, [], ◌∷◌, ◌++◌, length, length-append, take}
use Rattle.std.proofs.Common.{drop, refl, arith, cond, ◌⊎◌, inl, inr, position, Option, Some, None, Contains, append_assoc}
use Rattle.std.specs.Str.{bytes_eq}
use Rattle.std.proofs.Math.Seq.{drop-append_seam, take-append_seam}
use Rattle.std.proofs.lemmas.Bool.{false≢true}
use Rattle.std.proofs.lemmas.List.Elements.{All-contains}
use Rattle.pipe_model.specs.declared.symbol.Symbol.{Symbol}
use Rattle.pipe_model.specs.declared.symbol.Symbol.TheVariants as symbols
use Rattle.pipe_model.specs.declared.token.TokenKind.TheVariants as kinds
use Rattle.pipe_model.specs.Language.Lexis.{is_sign, operators, operator_or_sign, punctuation_symbol, symbol_of, IsLongest}
use Rattle.pipe_model.specs.Language.Tokens.{begins_comment, IsToken}
use Rattle.op_table.specs.declared.operators.TheConstants.{OPS}
use Rattle.op_table.specs.declared.table.OpRow.{OpRow}
use Rattle.op_table.specs.Tables.{text_of, HasLongest, HasNoSymbol, StartsWith, IsLongestMatch as IsLongestRow}
use Rattle.op_table.proofs.OperatorSymbols.{at_row, operator_row, row_symbol, IsOperator}
use Rattle.pipe_lexer.specs.declared.piece.Flaw.TheVariants as flaws
use Rattle.pipe_lexer.specs.declared.piece.Piece.TheVariants as pieces
use Rattle.pipe_lexer.specs.Pieces.{operator_length, BeginsPunctuation, IsFlaw, IsPiece, AToken, NoTokenBegins}
use Rattle.pipe_lexer.proofs.Longest.{as_punctuation}

-- ---- which texts are punctuation

-- the text is the one byte of this sign
record IsSignText (text : List ℕ) (s : Symbol) : Type 0 where
  pub byte : ℕ
  pub is : text ≡ byte ∷ []
  pub sign : is_sign byte ≡ true

-- a text that is no operator is a sign
is_sign_text : (text : List ℕ) (s : Symbol) → operator_or_sign None text ≡ Some s → IsSignText text s
is_sign_text [] s e = cc (e)
is_sign_text (b ∷ []) s e = by_sign (is_sign b) refl e
  where
    by_sign : (t : Bool) → is_sign b ≡ t → cond t (Some (symbols.Sign b)) None ≡ Some s → IsSignText (b ∷ []) s
    by_sign true h e = record { byte = b; is = refl; sign = h }
    by_sign false h e = cc (e)
is_sign_text (b ∷ c ∷ bs) s e = cc (e)

-- a text that is punctuation is an operator of the table or a sign
punctuation_is : (text : List ℕ) (s : Symbol) → punctuation_symbol text ≡ Some s → ((code : ℕ) × IsOperator text code) ⊎ IsSignText text s
punctuation_is text s e = by_place (position (λ operator. bytes_eq operator text) operators) refl e
  where
    by_place : (o : Option ℕ) → position (λ operator. bytes_eq operator text) operators ≡ o → operator_or_sign o text ≡ Some s
        → ((code : ℕ) × IsOperator text code) ⊎ IsSignText text s
    by_place (Some k) h e = inl (k + 1, operator_row text k h)
    by_place None h e = inr (is_sign_text text s e)

-- ---- prefixes of bytes that begin with punctuation

-- each prefix that is a symbol is punctuation
front_is_punctuation : (bytes text rest : List ℕ) (first : ℕ) (s : Symbol) → BeginsPunctuation first bytes → bytes ≡ text ++ rest
    → symbol_of text ≡ Some s
    → punctuation_symbol text ≡ Some s
front_is_punctuation bytes [] rest first s begins e t = (let none : None ≡ Some s = t in cc (none))
front_is_punctuation bytes (b ∷ text) rest first s begins e t =
    let both : first ∷ begins.following ≡ b ∷ (text ++ rest) = sym begins.parts ∙ e in
    let same : first ≡ b = cc (both) in
    sym (as_punctuation b text (rw same at begins.no_letter) (rw same at begins.no_digit)) ∙ t

-- and each prefix that is punctuation is a symbol
punctuation_at_front : (bytes text rest : List ℕ) (first : ℕ) (s : Symbol) → BeginsPunctuation first bytes → bytes ≡ text ++ rest
    → text ≢ []
    → punctuation_symbol text ≡ Some s
    → symbol_of text ≡ Some s
punctuation_at_front bytes [] rest first s begins e some t = absurd (some refl)
punctuation_at_front bytes (b ∷ text) rest first s begins e some t =
    let both : first ∷ begins.following ≡ b ∷ (text ++ rest) = sym begins.parts ∙ e in
    let same : first ≡ b = cc (both) in
    as_punctuation b text (rw same at begins.no_letter) (rw same at begins.no_digit) ∙ t

-- a prefix extended by bytes that follow it
longer_front : (bytes text rest more after : List ℕ) → bytes ≡ text ++ rest → rest ≡ more ++ after → bytes ≡ (text ++ more) ++ after
longer_front bytes text rest more after e h = e ∙ ap (λ x. text ++ x) h ∙ sym (append_assoc text more after)

-- a list that is not empty has a positive length
some_more : (more : List ℕ) → more ≢ [] → 0 < length more
some_more [] n = absurd (n refl)
some_more (c ∷ more) n = omega arith

-- no row's symbol is a longer prefix than the symbol of the longest row
not_longer : (rows : List OpRow) (bytes : List ℕ) (row other : OpRow) → IsLongestRow rows bytes row → Contains rows other
    → StartsWith (text_of other) bytes
    → length (text_of other) ≤ length (text_of row)
not_longer rows bytes row other h among front =
    All-contains (λ other. StartsWith (text_of other) bytes → length (text_of other) ≤ length (text_of row)) rows other h.longest among
    front

-- if no row's symbol is a prefix, this row's is none
no_front : (rows : List OpRow) (bytes : List ℕ) (row : OpRow) → HasNoSymbol rows bytes → Contains rows row → StartsWith (text_of row) bytes
    → ⊥
no_front rows bytes row h among front = All-contains (λ other. StartsWith (text_of other) bytes → ⊥) rows row h among front

-- ---- operators

-- the text of an operator of the table is not empty
operator_is_some : (row : OpRow) → Contains OPS.rows row → text_of row ≢ []
operator_is_some row among e =
    let here : punctuation_symbol [] ≡ Some (symbols.Operator row.code) = rw e at (row_symbol row among) in
    let none : None ≡ Some (symbols.Operator row.code) = here in cc (none)

-- and no longer prefix is a symbol
operator_is_longest : (bytes : List ℕ) (first code : ℕ) → BeginsPunctuation first bytes → (h : HasLongest OPS.rows bytes code)
    → IsLongest (text_of h.row) h.longest.front.0
operator_is_longest bytes first code begins h = record { longest = no_longer }
  where
    no_longer : (more after : List ℕ) (s : Symbol) → h.longest.front.0 ≡ more ++ after → more ≢ []
        → symbol_of (text_of h.row ++ more) ≡ Some s → ⊥
    no_longer more after s e some t =
        let text = text_of h.row ++ more in
        let front : bytes ≡ text ++ after = longer_front bytes (text_of h.row) h.longest.front.0 more after h.longest.front.1 e in
        elim (punctuation_is text s (front_is_punctuation bytes text after first s begins front t)) [
          | inl o ↦ (
              let r = o.1 in
              let short = not_longer OPS.rows bytes h.row r.row h.longest r.among (after, rw r.same_text front) in
              omega (arith, short, ap length r.same_text, length-append (text_of h.row) more, some_more more some))
          | inr sign ↦ (
              let none = some_more (text_of h.row) (operator_is_some h.row h.longest.among) in
              omega (arith, none, ap length sign.is, length-append (text_of h.row) more, some_more more some))
        ]

-- so the operator is the token with which the bytes begin
pub operator_piece : (bytes : List ℕ) (first code : ℕ) → BeginsPunctuation first bytes → HasLongest OPS.rows bytes code
    → IsPiece bytes (pieces.Taken (kinds.Operator code) (operator_length code))
operator_piece bytes first code begins h =
    let text = text_of h.row in
    let rest = h.longest.front.0 in
    let among = h.longest.among in
    let parts : bytes ≡ text ++ rest = h.longest.front.1 in
    let some : text ≢ [] = operator_is_some h.row among in
    let n : operator_length code ≡ length text = ap operator_length (sym h.same)
    ∙ at_row (λ row. operator_length row.code) (λ row. length (text_of row)) h.row refl among in
    let front : take (operator_length code) bytes ≡ text = ap (λ x. take x bytes) n ∙ ap (λ x. take (length text) x) parts
    ∙ take-append_seam text rest in
    let following : drop (operator_length code) bytes ≡ rest = ap (λ x. drop x bytes) n ∙ ap (λ x. drop (length text) x) parts
    ∙ drop-append_seam text rest in
    let symbol : symbol_of text ≡ Some (symbols.Operator code) =
    punctuation_at_front bytes text rest first (symbols.Operator code) begins parts some (rw h.same at (row_symbol h.row among)) in
    let token : IsToken text rest (symbols.Operator code) =
    record { symbol = symbol; longest = operator_is_longest bytes first code begins h; no_comment = rw (← parts) begins.no_comment } in
    AToken (symbols.Operator code) (operator_length code) (omega (arith, n, some_more text some))
    (omega (arith, n, ap length parts, length-append text rest)) (rw (front, following) token) tt

-- ---- signs

-- if the bytes begin with no operator, each prefix that is a symbol is a sign
only_sign : (bytes text rest : List ℕ) (first : ℕ) (s : Symbol) → BeginsPunctuation first bytes → HasNoSymbol OPS.rows bytes
    → bytes ≡ text ++ rest → symbol_of text ≡ Some s
    → (text ≡ first ∷ []) × (is_sign first ≡ true)
only_sign bytes text rest first s begins none e t = elim (punctuation_is text s (front_is_punctuation bytes text rest first s begins e t)) [
  | inl o ↦ absurd (no_front OPS.rows bytes o.1.row none o.1.among (rest, rw o.1.same_text e))
  | inr sign ↦ (
      let both : first ∷ begins.following ≡ sign.byte ∷ rest = sym begins.parts ∙ e ∙ ap (λ x. x ++ rest) sign.is in
      let same : sign.byte ≡ first = cc (both) in
      (sign.is ∙ ap (λ (x : ℕ). x ∷ []) same, ap is_sign (sym same) ∙ sign.sign))
]

-- then the first byte alone, if it is a sign, is a symbol
sign_symbol : (bytes : List ℕ) (first : ℕ) → BeginsPunctuation first bytes → HasNoSymbol OPS.rows bytes → is_sign first ≡ true
    → symbol_of (first ∷ []) ≡ Some (symbols.Sign first)
sign_symbol bytes first begins none sign =
    as_punctuation first [] begins.no_letter begins.no_digit ∙ by_place (position (λ operator. bytes_eq operator (first ∷ [])) operators)
    refl
  where
    by_place : (o : Option ℕ) → position (λ operator. bytes_eq operator (first ∷ [])) operators ≡ o
        → operator_or_sign o (first ∷ []) ≡ Some (symbols.Sign first)
    by_place (Some k) h = absurd (let r = operator_row (first ∷ []) k h in
        no_front OPS.rows bytes r.row none r.among (begins.following, rw r.same_text begins.parts))
    by_place None h = rw sign refl

-- a sign is the token with which the bytes begin if no operator is
pub sign_piece : (bytes : List ℕ) (first : ℕ) → BeginsPunctuation first bytes → HasNoSymbol OPS.rows bytes → is_sign first ≡ true
    → IsPiece bytes (pieces.Taken (kinds.Sign first) 1)
sign_piece bytes first begins none sign =
    let front : take 1 bytes ≡ first ∷ [] = ap (λ x. take 1 x) begins.parts in
    let following : drop 1 bytes ≡ begins.following = ap (λ x. drop 1 x) begins.parts in
    let token : IsToken (first ∷ []) begins.following (symbols.Sign first) = record {
      symbol = sign_symbol bytes first begins none sign;
      longest = record {
        longest = λ more after s e some t.
            let only = only_sign bytes ((first ∷ []) ++ more) after first s begins none
            (longer_front bytes (first ∷ []) begins.following more after begins.parts e) t in
            omega (arith, ap length only.0, some_more more some);
      };
      no_comment = ap begins_comment (sym begins.parts) ∙ begins.no_comment;
    } in
    AToken (symbols.Sign first) 1 (omega arith) (omega (arith, ap length begins.parts)) (rw (front, following) token) tt

-- otherwise no token begins there
pub no_token_begins : (bytes : List ℕ) (first : ℕ) → BeginsPunctuation first bytes → HasNoSymbol OPS.rows bytes → is_sign first ≡ false
    → IsFlaw bytes flaws.BadByte
no_token_begins bytes first begins none sign = NoTokenBegins (rw begins.parts (
  begins.no_blank,
  rw begins.parts at begins.no_comment,
  λ text rest s e t.
      false≢true (sym sign ∙ (only_sign bytes text rest first s begins none (begins.parts ∙ e) t).1),
))
