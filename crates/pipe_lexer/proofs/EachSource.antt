-- Each source has tokens within the bounds, or a fault.
use Rattle.std.proofs.Common.{◌≡◌, ◌∙◌, ap, sym, ℕ, ◌+◌, ◌-◌, ◌<◌, ◌≤◌, ◌^◌, Bool, true, false, List, [], ◌∷◌, ◌++◌, length, length-drop}
use Rattle.std.proofs.Common.{take, drop, refl, zero, suc, arith, ◌⊎◌, inl, inr, Option, Some, None, append-nil, append_assoc}
use Rattle.std.specs.List.{prefix_len}
use Rattle.std.specs.Str.{bytes_eq}
use Rattle.std.proofs.lemmas.Bool.{cases_lt, false≢true}
use Rattle.std.proofs.lemmas.Int.{ints}
use Rattle.std.proofs.lemmas.List.{take-append-drop}
use Rattle.std.proofs.Math.Seq.{take-append_seam}
use Rattle.std.proofs.lemmas.Slice.Eq.{bytes_eq-Decides}
use Rattle.pipe_model.specs.declared.token.Token.{Token}
use Rattle.pipe_model.specs.Language.Lexis.{is_blank, is_digit, is_letter, is_name_byte, is_sign, number_of}
use Rattle.pipe_model.specs.Language.Tokens.{begins_comment, HasFault, LexicalFault, IsTooLong}
use Rattle.op_table.specs.declared.operators.TheConstants.{OPS}
use Rattle.op_table.specs.declared.table.OpRow.{OpRow}
use Rattle.op_table.specs.Tables.{text_of, IsBest, StartsWith, Outdoes}
use Rattle.op_table.proofs.BestRows.{takes, keeps}
use Rattle.pipe_lexer.specs.declared.piece.Flaw.{Flaw}
use Rattle.pipe_lexer.specs.declared.piece.Flaw.TheVariants as flaws
use Rattle.pipe_lexer.specs.declared.piece.Piece.{Piece}
use Rattle.pipe_lexer.specs.LexingLaw.{IsLexedOrHasFault}
use Rattle.pipe_lexer.specs.Pieces.{length_of, tokens_of, BeginsPunctuation, IsFlaw, IsPiece, ABlank}
use Rattle.pipe_lexer.proofs.PieceLaws.{comment_piece, name_flaw, name_piece, number_flaw, number_piece, word_piece, word_place}
use Rattle.pipe_lexer.proofs.Punctuation.{no_token_begins, operator_piece, sign_piece}
use Rattle.pipe_lexer.proofs.ScanLaws.{at_end, at_flaw, at_start, past_piece, piece_within, Reaches}

-- ---- the longest symbol of a table

-- the bytes begin with the text, or they do not
front_or_not : (text bytes : List ℕ) → StartsWith text bytes ⊎ (StartsWith text bytes → ⊥)
front_or_not text bytes = by_test (bytes_eq (take (length text) bytes) text) refl
  where
    by_test : (b : Bool) → bytes_eq (take (length text) bytes) text ≡ b → StartsWith text bytes ⊎ (StartsWith text bytes → ⊥)
    by_test true e =
        let same = (bytes_eq-Decides (take (length text) bytes) text).0 e in
        inl (drop (length text) bytes, sym (take-append-drop (length text) bytes) ∙ ap (λ x. x ++ drop (length text) bytes) same)
    by_test false e = inr (λ front.
        let same : take (length text) bytes ≡ text = ap (λ x. take (length text) x) front.1 ∙ take-append_seam text front.0 in
        false≢true (sym e ∙ (bytes_eq-Decides (take (length text) bytes) text).1 same))

-- the row outdoes the best one so far, or it does not
outdoes_or_not : (row : OpRow) (best : Option OpRow) → Outdoes row best ⊎ (Outdoes row best → ⊥)
outdoes_or_not row None = inl tt
outdoes_or_not row (Some other) = elim (cases_lt (length (text_of other)) (length (text_of row)))
    [ inl h ↦ inl h | inr h ↦ inr (λ less. omega (arith, h, less)) ]

-- the best row after one more row
one_more_row : (seen : List OpRow) (bytes : List ℕ) (best : Option OpRow) (row : OpRow) → IsBest seen bytes best
    → (other : Option OpRow) × IsBest (seen ++ row ∷ []) bytes other
one_more_row seen bytes best row h = by_both (front_or_not (text_of row) bytes) (outdoes_or_not row best)
  where
    by_both : StartsWith (text_of row) bytes ⊎ (StartsWith (text_of row) bytes → ⊥) → Outdoes row best ⊎ (Outdoes row best → ⊥)
        → (other : Option OpRow) × IsBest (seen ++ row ∷ []) bytes other
    by_both (inl front) (inl out) = (Some row, takes seen bytes best row h front out)
    by_both (inl front) (inr not_out) = (best, keeps seen bytes best row h (λ front out. not_out out))
    by_both (inr no_front) out = (best, keeps seen bytes best row h (λ front out. no_front front))

-- the best of all rows
best_of : (rows seen : List OpRow) (bytes : List ℕ) (best : Option OpRow) → IsBest seen bytes best
    → (other : Option OpRow) × IsBest (seen ++ rows) bytes other
best_of [] seen bytes best h = (best, rw (append-nil seen) h)
best_of (row ∷ rows) seen bytes best h =
    let one = one_more_row seen bytes best row h in
    let all = best_of rows (seen ++ row ∷ []) bytes one.0 one.1 in
    (all.0, rw (← append_assoc seen (row ∷ []) rows) all.1)

-- ---- the piece with which bytes begin

-- the bytes begin with a piece, or something is wrong there
abbrev PieceOrFlaw : List ℕ → Type 0
PieceOrFlaw bytes = ((piece : Piece) × IsPiece bytes piece) ⊎ ((flaw : Flaw) × IsFlaw bytes flaw)

-- this holds if punctuation begins there
punctuation_or_flaw : (bytes : List ℕ) (first : ℕ) → BeginsPunctuation first bytes → PieceOrFlaw bytes
punctuation_or_flaw bytes first begins =
    let best = best_of OPS.rows [] bytes None (λ k d within. absurd (omega arith)) in by_best best.0 best.1
  where
    by_sign : (b : Bool) → is_sign first ≡ b → IsBest OPS.rows bytes None → PieceOrFlaw bytes
    by_sign true e none = inl (_, sign_piece bytes first begins none e)
    by_sign false e none = inr (_, no_token_begins bytes first begins none e)

    by_best : (best : Option OpRow) → IsBest OPS.rows bytes best → PieceOrFlaw bytes
    by_best (Some row) h = inl (_, operator_piece bytes first row.code begins (record { row = row; longest = h; same = refl }))
    by_best None h = by_sign (is_sign first) refl h

-- this holds if a word or name begins there
word_or_flaw : (bytes following : List ℕ) (b : ℕ) → bytes ≡ b ∷ following → is_letter b ≡ true → PieceOrFlaw bytes
word_or_flaw bytes following b e letter = by_place (word_place (take (1 + prefix_len is_name_byte following) bytes)) refl
  where
    by_length : word_place (take (1 + prefix_len is_name_byte following) bytes) ≡ None
        → (64 < length (take (1 + prefix_len is_name_byte following) bytes)) ⊎
        (length (take (1 + prefix_len is_name_byte following) bytes) ≤ 64)
        → PieceOrFlaw bytes
    by_length h (inl long) = inr (_, name_flaw bytes following _ b _ e letter refl refl h long)
    by_length h (inr short) = inl (_, name_piece bytes following _ b _ e letter refl refl h short)

    by_place : (o : Option ℕ) → word_place (take (1 + prefix_len is_name_byte following) bytes) ≡ o → PieceOrFlaw bytes
    by_place (Some k) h = inl (_, word_piece bytes following _ b _ k e letter refl refl h)
    by_place None h = by_length h (cases_lt 64 (length (take (1 + prefix_len is_name_byte following) bytes)))

-- this holds if a number begins there
number_or_flaw : (bytes following : List ℕ) (b : ℕ) → bytes ≡ b ∷ following → is_letter b ≡ false → is_digit b ≡ true → PieceOrFlaw bytes
number_or_flaw bytes following b e letter digit = by_value (cases_lt (number_of (take (1 + prefix_len is_digit following) bytes)) (2 ^ 63))
  where
    by_value : (number_of (take (1 + prefix_len is_digit following) bytes) < 2 ^ 63)
        ⊎ (2 ^ 63 ≤ number_of (take (1 + prefix_len is_digit following) bytes)) → PieceOrFlaw bytes
    by_value (inl fits) = inl (_, number_piece bytes following _ b _ _ e letter digit refl refl refl (omega (arith, ints, fits)))
    by_value (inr wide) = inr (_, number_flaw bytes following _ b _ e letter digit refl refl wide)

-- this holds whatever the first byte is
piece_or_flaw : (b : ℕ) (following : List ℕ) → PieceOrFlaw (b ∷ following)
piece_or_flaw b following = by_tests (is_blank b) (begins_comment (b ∷ following)) (is_letter b) (is_digit b) refl refl refl refl
  where
    by_tests : (blank comment letter digit : Bool) → is_blank b ≡ blank → begins_comment (b ∷ following) ≡ comment → is_letter b ≡ letter
        → is_digit b ≡ digit
        → PieceOrFlaw (b ∷ following)
    by_tests true comment letter digit h i j k = inl (_, ABlank b following refl h)
    by_tests false true letter digit h i j k = inl (_, comment_piece (b ∷ following) _ i refl)
    by_tests false false true digit h i j k = word_or_flaw (b ∷ following) following b refl j
    by_tests false false false true h i j k = number_or_flaw (b ∷ following) following b refl j k
    by_tests false false false false h i j k =
        punctuation_or_flaw (b ∷ following) b (record {
          following = following;
          parts = refl;
          no_blank = h;
          no_comment = i;
          no_letter =
              j;
          no_digit = k;
        })

-- ---- whole sources

-- a flaw after the tokens found so far is a fault of the source
flaw_is_fault : (source : List ℕ) (found : List Token) (rest : List ℕ) (flaw : Flaw) → Reaches source found rest → IsFlaw rest flaw
    → (fault : LexicalFault) × HasFault source fault
flaw_is_fault source found rest flaws.BadByte r f = (_, at_flaw source found rest flaws.BadByte _ r f refl)
flaw_is_fault source found rest flaws.TooWide r f = (_, at_flaw source found rest flaws.TooWide _ r f refl)
flaw_is_fault source found rest flaws.NameTooLong r f = (_, at_flaw source found rest flaws.NameTooLong _ r f refl)

-- if at most `bound` bytes are left, the source has tokens or a fault
goes_on : (bound : ℕ) (source : List ℕ) (found : List Token) (rest : List ℕ) → length rest ≤ bound → Reaches source found rest
    → IsLexedOrHasFault source
goes_on bound source found [] h r = inl (found, at_end source found r)
goes_on zero source found (b ∷ following) h r = absurd (omega arith)
goes_on (suc bound) source found (b ∷ following) h r = elim (piece_or_flaw b following) [
  | inl p ↦ (
      let within = piece_within p.1 in
      goes_on bound source (found ++ tokens_of p.0 (length source - length (b ∷ following))) (drop (length_of p.0) (b ∷ following))
      (omega (arith, h, within.0, within.1, length-drop (length_of p.0) (b ∷ following)))
      (past_piece source found (b ∷ following) p.0 _ r p.1 refl))
  | inr f ↦ inr (flaw_is_fault source found (b ∷ following) f.0 r f.1)
]

pub lexed_or_fault : (source : List ℕ) → IsLexedOrHasFault source
lexed_or_fault source = elim (cases_lt 1048576 (length source)) [
  | inl long ↦ inr (_, IsTooLong long)
  | inr short ↦ goes_on (length source) source [] source (omega arith) (at_start source short)
]
