-- Pieces taken from the beginning of a source, one after the other.
use Rattle.std.proofs.Common.{◌≡◌, ◌∙◌, ap, sym, subst, ℕ, ◌+◌, ◌-◌, ◌<◌, ◌≤◌, List, [], ◌∷◌, ◌++◌, length, length-take-le, length-drop}
use Rattle.std.proofs.Common.{take, drop, refl, arith, All, append-nil, append_assoc}
use Rattle.std.proofs.lemmas.List.{drop-drop, take-append-drop}
use Rattle.std.proofs.lemmas.List.Elements.{All-push}
use Rattle.pipe_model.specs.declared.token.Token.{Token}
use Rattle.pipe_model.specs.Language.Tokens.{kind_of, token_at, IsLexed, IsReached, IsTokenWithinBounds, HasBadByte, HasLongName}
use Rattle.pipe_model.specs.Language.Tokens.{HasWideNumber, Scans, Stops, Blank, Comment, Taken}
use Rattle.pipe_lexer.specs.declared.piece.Flaw.{Flaw}
use Rattle.pipe_lexer.specs.declared.piece.Piece.{Piece}
use Rattle.pipe_lexer.specs.Faults.{fault_at, IsFaultOf}
use Rattle.pipe_lexer.specs.Pieces.{length_of, tokens_of, IsFlaw, IsPiece, ABlank, AComment, AToken, NoTokenBegins, NumberIsWide}
use Rattle.pipe_lexer.specs.Pieces.{NameIsLong}

-- a piece has at least one byte, and at most all bytes
pub piece_within : {bytes : List ℕ} {piece : Piece} → IsPiece bytes piece → (0 < length_of piece) × (length_of piece ≤ length bytes)
piece_within (ABlank b following e g) = (omega arith, omega (arith, ap length e))
piece_within (AComment n some within h) = (some, within)
piece_within (AToken s n some within t w) = (some, within)

-- `found` are the tokens before the rest, and a scan of the rest continues the scan of the source
pub record Reaches (source : List ℕ) (found : List Token) (rest : List ℕ) : Type 0 where
  pub short : length source ≤ 1048576
  pub place : ℕ
  pub within : place + length rest ≡ length source
  pub here : drop place source ≡ rest
  pub keeps : (others : List Token) (end : List ℕ) → Scans place rest others end → Scans 0 source (found ++ others) end
  pub bounded : All IsTokenWithinBounds found

-- at the beginning no token is found
pub at_start : (source : List ℕ) → length source ≤ 1048576 → Reaches source [] source
at_start source short =
    record {
      short = short;
      place = 0;
      within = omega arith;
      here = refl;
      keeps = λ others end d. d;
      bounded =
          λ k d h. absurd (omega arith);
    }

-- a scan goes on after a piece
scans_past : {bytes : List ℕ} {piece : Piece} (place : ℕ) (others : List Token) (end : List ℕ) → IsPiece bytes piece
    → Scans (place + length_of piece) (drop (length_of piece) bytes) others end → Scans place bytes (tokens_of piece place ++ others) end
scans_past {bytes} place others end (ABlank b following e g) d =
    let front : drop 1 bytes ≡ following = ap (λ x. drop 1 x) e in
    rw e (Blank b g (rw front at d))
scans_past {bytes} place others end (AComment n some within h) d =
    let n_is : length (take n bytes) ≡ n = length-take-le n bytes within in
    subst (λ x. Scans place x others end) (take-append-drop n bytes) (Comment (take n bytes) h (rw n_is d))
scans_past {bytes} place others end (AToken s n some within t w) d =
    let n_is : length (take n bytes) ≡ n = length-take-le n bytes within in
    let token : token_at place (take n bytes) s ≡ record { kind = kind_of s; place = place; length = n } =
    ap (λ x. record { kind = kind_of s; place = place; length = x }) n_is in
    subst (λ x. Scans place x (record { kind = kind_of s; place = place; length = n } ∷ others) end) (take-append-drop n bytes)
    (rw (← token) (Taken {place = place} {bytes = drop n bytes} {rest = end} {tokens = others} (take n bytes) s t (rw n_is d)))

-- the tokens of a piece are within their bounds
piece_bounded : {bytes : List ℕ} {piece : Piece} (place : ℕ) (found : List Token) → IsPiece bytes piece → All IsTokenWithinBounds found
    → All IsTokenWithinBounds (found ++ tokens_of piece place)
piece_bounded place found (ABlank b following e g) h = rw (append-nil found) h
piece_bounded place found (AComment n some within c) h = rw (append-nil found) h
piece_bounded place found (AToken s n some within t w) h = All-push IsTokenWithinBounds found
    (record { kind = kind_of s; place = place; length = n }) h w

-- `Reaches` holds after one more piece
pub past_piece : (source : List ℕ) (found : List Token) (rest : List ℕ) (piece : Piece) (place : ℕ) → Reaches source found rest
    → IsPiece rest piece
    → place ≡ length source - length rest → Reaches source (found ++ tokens_of piece place) (drop (length_of piece) rest)
past_piece source found rest piece place r p e =
    let same : place ≡ r.place = omega (arith, e, r.within) in
    let n = length_of piece in
    rw same (record {
      short = r.short;
      place = r.place + n;
      within = omega (arith, r.within, length-drop n rest, (piece_within p).1);
      here = sym (drop-drop n r.place source) ∙ ap (λ x. drop n x) r.here;
      keeps = λ others end d. rw (append_assoc found (tokens_of piece r.place) others)
          (r.keeps (tokens_of piece r.place ++ others) end (scans_past r.place others end p d));
      bounded = piece_bounded r.place found p r.bounded;
    })

-- at the end all tokens are found
pub at_end : (source : List ℕ) (found : List Token) → Reaches source found [] → IsLexed source found
at_end source found r = record {
  short = r.short;
  scanned = subst (λ x. Scans 0 source x []) (append-nil found) (r.keeps [] [] (Stops r.place []));
  bounded = r.bounded;
}

-- a scan reaches the offset of the rest
reached : (source : List ℕ) (found : List Token) (rest : List ℕ) → (r : Reaches source found rest) → IsReached source r.place
reached source found rest r = record {
  short = r.short;
  before = found;
  scanned = rw r.here (subst (λ x. Scans 0 source x rest) (append-nil found) (r.keeps [] rest (Stops r.place rest)));
  bounded = r.bounded;
}

-- a flaw at the beginning of the rest is the fault of the source
pub at_flaw : (source : List ℕ) (found : List Token) (rest : List ℕ) (flaw : Flaw) (place : ℕ) → Reaches source found rest
    → IsFlaw rest flaw
    → place ≡ length source - length rest → IsFaultOf source (fault_at flaw place)
at_flaw source found rest flaw place r f e = let same : place ≡ r.place = omega (arith, e, r.within) in rw same (by_flaw f)
  where
    by_flaw : {flaw : Flaw} → IsFlaw rest flaw → IsFaultOf source (fault_at flaw r.place)
    by_flaw (NoTokenBegins h) = HasBadByte r.place (reached source found rest r) (rw r.here h)
    by_flaw (NumberIsWide n h w) = HasWideNumber r.place n (reached source found rest r) (rw r.here h) w
    by_flaw (NameIsLong name h w) = HasLongName r.place name (reached source found rest r) (rw r.here h) w
