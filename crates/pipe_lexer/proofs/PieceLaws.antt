-- The piece with which bytes begin, by the kind of the first byte: comments, words, names and numbers.
use Rattle.std.proofs.Common.{◌≡◌, ◌∙◌, ap, sym, ℕ, ℤ, pos, ◌+◌, ◌<◌, ◌≤◌, ◌^◌, ◌-◌, ◌≤ℤ◌, Bool, true, false, not, List, [], ◌∷◌, length}
use Rattle.std.proofs.Common.{length-take-le, take, drop, refl, suc, arith, position, Option, Some, None, ◌==◌}
use Rattle.std.specs.List.{prefix_len}
use Rattle.std.specs.Str.{bytes_eq}
use Rattle.std.proofs.lemmas.Bool.{not-false, and_parts}
use Rattle.std.proofs.lemmas.Bool.Decides.{nat_tests}
use Rattle.std.proofs.lemmas.List.{take-append-drop}
use Rattle.std.proofs.lemmas.List.Sums.{prefix_len-le-length}
use Rattle.pipe_model.specs.declared.symbol.Symbol.{Symbol}
use Rattle.pipe_model.specs.declared.symbol.Symbol.TheVariants as symbols
use Rattle.pipe_model.specs.declared.token.TokenKind.TheVariants as kinds
use Rattle.pipe_model.specs.Language.Lexis.{is_letter, is_digit, is_name_byte, number_of, reserved_words, symbol_of, word_or_name}
use Rattle.pipe_model.specs.Language.Lexis.{word_symbol, IsLongest}
use Rattle.pipe_model.specs.Language.Tokens.{begins_comment, is_line_feed, kind_of, BeginsWith, EndsComment, IsKindWithinBounds, IsToken}
use Rattle.pipe_lexer.specs.declared.piece.Flaw.TheVariants as flaws
use Rattle.pipe_lexer.specs.declared.piece.Piece.TheVariants as pieces
use Rattle.pipe_lexer.specs.Pieces.{IsFlaw, IsPiece, AComment, AToken, NameIsLong, NumberIsWide}
use Rattle.pipe_lexer.proofs.Longest.{front_passes, rest_fails, word_is, word_is_longest, number_is, number_is_longest}

-- the index of a text among the reserved words
abbrev pub word_place : List ℕ → Option ℕ
word_place text = position (λ word. bytes_eq word text) reserved_words

-- a prefix of bytes, split after the first byte
pub front_is : (bytes following : List ℕ) (b m : ℕ) → bytes ≡ b ∷ following → take (1 + m) bytes ≡ b ∷ take m following
front_is bytes following b m e = let s : 1 + m ≡ suc m = omega arith in rw (e, s) refl

-- ---- comments

-- a byte that is no line feed
abbrev in_line : ℕ → Bool
in_line b = not (is_line_feed b)

-- the two slashes of a comment are in its line
two_in_line : (a b : ℕ) (bs : List ℕ) → begins_comment (a ∷ b ∷ bs) ≡ true → prefix_len in_line (a ∷ b ∷ bs) ≡ suc
    (suc (prefix_len in_line bs))
two_in_line a b bs h =
    let parts : ((a == 47) ≡ true) × ((b == 47) ≡ true) = and_parts (a == 47) (b == 47) h in
    let first : in_line a ≡ true = grind (arith, nat_tests, parts.0) in
    let second : in_line b ≡ true = grind (arith, nat_tests, parts.1) in
    rw (first, second) (omega arith)

-- if a line ends here, so does a comment
line_ends : (bytes rest : List ℕ) → drop (prefix_len in_line bytes) bytes ≡ rest → EndsComment rest
line_ends bytes [] e = tt
line_ends bytes (c ∷ more) e = not-false (is_line_feed c) (rest_fails in_line bytes c more e)

-- a comment goes to the end of its line
pub comment_piece : (bytes : List ℕ) (n : ℕ) → begins_comment bytes ≡ true → n ≡ prefix_len in_line bytes → IsPiece bytes (pieces.Gap n)
comment_piece [] n h e = (let none : false ≡ true = h in cc (none))
comment_piece (a ∷ []) n h e = (let none : false ≡ true = h in cc (none))
comment_piece (a ∷ b ∷ bs) n h e =
    let counted : n ≡ suc (suc (prefix_len in_line bs)) = e ∙ two_in_line a b bs h in
    AComment n (omega (arith, counted)) (rw e (prefix_len-le-length in_line (a ∷ b ∷ bs))) (record {
      begins = rw counted h;
      inside = rw e (front_passes in_line (a ∷ b ∷ bs));
      ends = line_ends (a ∷ b ∷ bs) (drop n (a ∷ b ∷ bs)) (ap (λ x. drop x (a ∷ b ∷ bs)) (sym e));
    })

-- ---- tokens

-- the first byte and m more are a token
is_token : (b : ℕ) (bs : List ℕ) (m : ℕ) (s : Symbol) → symbol_of (b ∷ take m bs) ≡ Some s → IsLongest (b ∷ take m bs) (drop m bs)
    → begins_comment (b ∷ bs) ≡ false
    → IsToken (b ∷ take m bs) (drop m bs) s
is_token b bs m s symbol longest none =
    record { symbol = symbol; longest = longest; no_comment = ap (λ x. begins_comment (b ∷ x)) (take-append-drop m bs) ∙ none }

-- they are a piece if they are within their bounds
pub token_piece : (b : ℕ) (bs : List ℕ) (m : ℕ) (s : Symbol) → m ≤ length bs → symbol_of (b ∷ take m bs) ≡ Some s
    → IsLongest (b ∷ take m bs) (drop m bs)
    → begins_comment (b ∷ bs) ≡ false → IsKindWithinBounds (kind_of s) (1 + m) → IsPiece (b ∷ bs) (pieces.Taken (kind_of s) (1 + m))
token_piece b bs m s within symbol longest none bounded =
    let e : 1 + m ≡ suc m = omega arith in
    rw e (AToken s (suc m) (omega arith) (omega arith) (is_token b bs m s symbol longest none) (rw e at bounded))

-- the bytes begin with that token
pub begins_with : (b : ℕ) (bs : List ℕ) (m : ℕ) (s : Symbol) → symbol_of (b ∷ take m bs) ≡ Some s → IsLongest (b ∷ take m bs) (drop m bs)
    → begins_comment (b ∷ bs) ≡ false → BeginsWith (b ∷ bs) s
begins_with b bs m s symbol longest none =
    record {
      text = b ∷ take m bs;
      rest = drop m bs;
      parts = ap (λ x. b ∷ x) (sym (take-append-drop m bs));
      token =
          is_token b bs m s symbol longest none;
    }

-- a letter begins no comment
letter_no_comment : (b : ℕ) (bs : List ℕ) → is_letter b ≡ true → begins_comment (b ∷ bs) ≡ false
letter_no_comment b [] h = refl
letter_no_comment b (c ∷ bs) h = grind (arith, nat_tests)

-- nor does a digit begin one
digit_no_comment : (b : ℕ) (bs : List ℕ) → is_digit b ≡ true → begins_comment (b ∷ bs) ≡ false
digit_no_comment b [] h = refl
digit_no_comment b (c ∷ bs) h = grind (arith, nat_tests)

-- ---- words and names

-- a letter, with the letters, digits and `_` after it, is the reserved word at the given index, or a name if there is no index
as_word : (b : ℕ) (following text : List ℕ) (o : Option ℕ) → is_letter b ≡ true → text ≡ b ∷ take
    (prefix_len is_name_byte following) following
    → word_place text ≡ o
    → symbol_of (b ∷ take (prefix_len is_name_byte following) following) ≡ Some (word_or_name o text)
as_word b following text o letter t place = word_is b following letter ∙ ap (λ x. Some (word_symbol x)) (sym t)
    ∙ ap (λ p. Some (word_or_name p text)) place

-- the length of a prefix of 1 + m bytes
front_length : (bytes following text : List ℕ) (b m : ℕ) → bytes ≡ b ∷ following → m ≤ length following → text ≡ take (1 + m) bytes
    → length text ≡ 1 + m
front_length bytes following text b m e within t =
    ap length t ∙ length-take-le (1 + m) bytes (omega (arith, ap length e, within))

-- a reserved word
pub word_piece : (bytes following text : List ℕ) (b m k : ℕ) → bytes ≡ b ∷ following → is_letter b ≡ true
    → m ≡ prefix_len is_name_byte following
    → text ≡ take (1 + m) bytes
    → word_place text ≡ Some k → IsPiece bytes (pieces.Taken (kinds.Word k) (1 + m))
word_piece bytes following text b m k e letter counted t place =
    rw (e, counted) (token_piece b following _ (symbols.Word k) (prefix_len-le-length is_name_byte following)
    (as_word b following text (Some k) letter (rw (← counted) (t ∙ front_is bytes following b m e)) place)
    (word_is_longest b following letter)
    (letter_no_comment b following letter) tt)

-- a name within its bound
pub name_piece : (bytes following text : List ℕ) (b m : ℕ) → bytes ≡ b ∷ following → is_letter b ≡ true
    → m ≡ prefix_len is_name_byte following
    → text ≡ take (1 + m) bytes
    → word_place text ≡ None → length text ≤ 64 → IsPiece bytes (pieces.Taken kinds.Name (1 + m))
name_piece bytes following text b m e letter counted t place short =
    let within : m ≤ length following = rw counted (prefix_len-le-length is_name_byte following) in
    let bounded : 1 + prefix_len is_name_byte following ≤ 64 =
    rw (← counted) (omega (arith, front_length bytes following text b m e within t, short)) in
    rw (e, counted) (token_piece b following _ (symbols.Name text) (prefix_len-le-length is_name_byte following)
    (as_word b following text None letter (rw (← counted) (t ∙ front_is bytes following b m e)) place) (word_is_longest b following letter)
    (letter_no_comment b following letter) bounded)

-- a longer name
pub name_flaw : (bytes following text : List ℕ) (b m : ℕ) → bytes ≡ b ∷ following → is_letter b ≡ true
    → m ≡ prefix_len is_name_byte following
    → text ≡ take (1 + m) bytes
    → word_place text ≡ None → 64 < length text → IsFlaw bytes flaws.NameTooLong
name_flaw bytes following text b m e letter counted t place long =
    rw e (NameIsLong text (begins_with b following _ (symbols.Name text)
    (as_word b following text None letter (rw (← counted) (t ∙ front_is bytes following b m e)) place) (word_is_longest b following letter)
    (letter_no_comment b following letter)) long)

-- ---- numbers

-- the digits with which the bytes begin are this number
number_as : (bytes following text : List ℕ) (b m : ℕ) → bytes ≡ b ∷ following → is_letter b ≡ false → is_digit b ≡ true
    → m ≡ prefix_len is_digit following → text ≡ take (1 + m) bytes
    → symbol_of (b ∷ take (prefix_len is_digit following) following) ≡ Some (symbols.Number (pos (number_of text)))
number_as bytes following text b m e letter digit counted t =
    number_is b following letter digit ∙ rw (← (let s : text ≡ b ∷ take (prefix_len is_digit following) following = rw (← counted)
    (t ∙ front_is bytes following b m e) in s)) refl

-- a number that is an `i64`
pub number_piece : (bytes following text : List ℕ) (b m : ℕ) (v : ℤ) → bytes ≡ b ∷ following → is_letter b ≡ false → is_digit b ≡ true
    → m ≡ prefix_len is_digit following
    → text ≡ take (1 + m) bytes → v ≡ pos (number_of text) → v ≤ℤ pos (2 ^ 63 - 1) → IsPiece bytes (pieces.Taken (kinds.Number v) (1 + m))
number_piece bytes following text b m v e letter digit counted t value fits =
    rw (e, counted) (token_piece b following _ (symbols.Number v) (prefix_len-le-length is_digit following)
    (rw value (number_as bytes following text b m e letter digit counted t)) (number_is_longest b following letter digit)
    (digit_no_comment b following digit) fits)

-- a wider number
pub number_flaw : (bytes following text : List ℕ) (b m : ℕ) → bytes ≡ b ∷ following → is_letter b ≡ false → is_digit b ≡ true
    → m ≡ prefix_len is_digit following
    → text ≡ take (1 + m) bytes → 2 ^ 63 ≤ number_of text → IsFlaw bytes flaws.TooWide
number_flaw bytes following text b m e letter digit counted t wide =
    rw e (NumberIsWide (number_of text) (begins_with b following _ (symbols.Number (pos (number_of text)))
    (number_as bytes following text b m e letter digit counted t) (number_is_longest b following letter digit)
    (digit_no_comment b following digit)) wide)
