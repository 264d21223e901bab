-- A source has at most one list of tokens, or else at most one fault.
use Rattle.std.proofs.Common.{◌≡◌, ◌∙◌, ap, sym, subst, ℕ, ◌+◌, ◌-◌, ◌<◌, ◌≤◌, ◌^◌, ◌≤ℤ◌, pos, Bool, true, false, not, List, [], ◌∷◌, ◌++◌}
use Rattle.std.proofs.Common.{length, take, drop, refl, arith, cond, ◌⊎◌, inl, inr, Option, Some, None, All, ◌==◌, ◌&&◌, append-nil}
use Rattle.std.proofs.Common.{append_assoc, length-append, length-drop, position}
use Rattle.std.specs.List.{list_all}
use Rattle.std.specs.Str.{bytes_eq}
use Rattle.std.proofs.Math.Seq.{drop-append_seam, take-append_seam}
use Rattle.std.proofs.lemmas.Bool.{false≢true}
use Rattle.std.proofs.lemmas.Bool.Decides.{nat_tests}
use Rattle.std.proofs.lemmas.Int.{ints}
use Rattle.std.proofs.lemmas.List.{drop-drop}
use Rattle.std.proofs.lemmas.List.Elements.{All-nil, All-cons, All-drop}
use Rattle.pipe_model.specs.declared.symbol.Symbol.{Symbol}
use Rattle.pipe_model.specs.declared.symbol.Symbol.TheVariants as symbols
use Rattle.pipe_model.specs.declared.token.Token.{Token}
use Rattle.pipe_model.specs.Language.Lexis.{is_blank, is_letter, is_digit, is_name_byte, is_sign, number_of, operators, operator_or_sign}
use Rattle.pipe_model.specs.Language.Lexis.{punctuation_symbol, reserved_words, symbol_of, word_or_name, word_symbol}
use Rattle.pipe_model.specs.Language.Tokens.{begins_comment, is_line_feed, kind_of, symbol_as, symbol_in, text_in, token_at, BeginsNothing}
use Rattle.pipe_model.specs.Language.Tokens.{BeginsWith, HasTokens, IsComment, IsLexed, IsReached, IsToken, IsTokenWithinBounds}
use Rattle.pipe_model.specs.Language.Tokens.{LexicalFault, IsInSource, BadByte, TooWide, SourceTooLong, NameTooLong, HasFault, IsTooLong}
use Rattle.pipe_model.specs.Language.Tokens.{HasBadByte, HasWideNumber, HasLongName, Scans, Stops, Blank, Comment, Taken}
use Rattle.grammar_laws.proofs.LongestSymbols.{GoesOn, one_goes_on, blank_begins_no_symbol, one_longest}

-- ---- the text of a symbol

-- if the symbol of a word or a name is a name, the name is the text
word_is_text : (o : Option ℕ) (text name : List ℕ) → word_or_name o text ≡ symbols.Name name → name ≡ text
word_is_text (Some k) text name e = cc (e)
word_is_text None text name e = cc (e)

-- punctuation is no name
pub no_name : (o : Option ℕ) (text name : List ℕ) → operator_or_sign o text ≡ Some (symbols.Name name) → ⊥
no_name (Some k) text name e = cc (e)
no_name None [] name e = cc (e)
no_name None (b ∷ []) name e = by_sign (is_sign b) e
  where
    by_sign : (t : Bool) → cond t (Some (symbols.Sign b)) None ≡ Some (symbols.Name name) → ⊥
    by_sign true e = cc (e)
    by_sign false e = cc (e)
no_name None (b ∷ c ∷ bs) name e = cc (e)

-- a name is its own text
pub name_is_text : (text name : List ℕ) → symbol_of text ≡ Some (symbols.Name name) → name ≡ text
name_is_text [] name e = cc (e)
name_is_text (b ∷ bs) name e = by_kind (is_letter b) (list_all is_name_byte bs) (is_digit b) (list_all is_digit bs) e
  where
    by_kind : (letter named digit numbered : Bool)
        → cond letter (cond named (Some (word_symbol (b ∷ bs))) None)
        (cond digit (cond numbered (Some (symbols.Number (pos (number_of (b ∷ bs))))) None) (punctuation_symbol (b ∷ bs)))
        ≡ Some (symbols.Name name)
        → name ≡ b ∷ bs
    by_kind true true digit numbered e = word_is_text (position (λ word. bytes_eq word (b ∷ bs)) reserved_words) (b ∷ bs) name (cc (e))
    by_kind true false digit numbered e = cc (e)
    by_kind false named true true e = cc (e)
    by_kind false named true false e = cc (e)
    by_kind false named false numbered e = absurd (no_name (position (λ operator. bytes_eq operator (b ∷ bs)) operators) (b ∷ bs) name e)

-- a symbol has the kind and the text that its token records
pub symbol_of_kind : (text : List ℕ) (s : Symbol) → symbol_of text ≡ Some s → symbol_as (kind_of s) text ≡ s
symbol_of_kind text (symbols.Name name) e = ap symbols.Name (sym (name_is_text text name e))
symbol_of_kind text (symbols.Word k) e = refl
symbol_of_kind text (symbols.Number n) e = refl
symbol_of_kind text (symbols.Operator code) e = refl
symbol_of_kind text (symbols.Sign b) e = refl

-- ---- what bytes begin with

-- the text is a blank, a comment or a token
data IsPiece : List ℕ → List ℕ → Option Symbol → Type 0 where
  ABlank : (b : ℕ) (rest : List ℕ) → is_blank b ≡ true → IsPiece (b ∷ []) rest None
  AComment : (text rest : List ℕ) → IsComment text rest → IsPiece text rest None
  AToken : (text rest : List ℕ) (s : Symbol) → IsToken text rest s → IsPiece text rest (Some s)

-- no blank is a slash
no_blank_slash : (b c : ℕ) → is_blank b ≡ true → ((b == 47) && (c == 47)) ≡ true → ⊥
no_blank_slash b c g h = grind (arith, nat_tests)

-- text that begins a comment does so with more bytes after it
pub comment_begins : (text rest : List ℕ) → begins_comment text ≡ true → begins_comment (text ++ rest) ≡ true
comment_begins [] rest e = cc (e)
comment_begins (a ∷ []) rest e = cc (e)
comment_begins (a ∷ b ∷ bs) rest e = e

-- a blank begins no comment
blank_no_comment : (b : ℕ) (rest text after : List ℕ) → is_blank b ≡ true → begins_comment text ≡ true → b ∷ rest ≡ text ++ after → ⊥
blank_no_comment b rest [] after g h e = cc (h)
blank_no_comment b rest (a ∷ []) after g h e = cc (h)
blank_no_comment b rest (a ∷ c ∷ text) after g h e = let same : b ≡ a = cc (e) in no_blank_slash a c (ap is_blank (sym same) ∙ g) h

-- a comment contains no line feed
no_feed_inside : (x m : List ℕ) (c : ℕ) → is_line_feed c ≡ true → list_all (λ b. not (is_line_feed b)) (x ++ c ∷ m) ≡ true → ⊥
no_feed_inside [] m c f e = let none : false ≡ true = rw f at e in cc (none)
no_feed_inside (a ∷ x) m c f e = by_first (is_line_feed a) (no_feed_inside x m c f) e
  where
    by_first : (t : Bool) → (list_all (λ b. not (is_line_feed b)) (x ++ c ∷ m) ≡ true → ⊥)
        → (not t && list_all (λ b. not (is_line_feed b)) (x ++ c ∷ m)) ≡ true → ⊥
    by_first true ih e = cc (e)
    by_first false ih e = ih e

-- no comment extends another comment
same_comment : (x y u v : List ℕ) → IsComment x u → IsComment y v → GoesOn x y u v → (x ≡ y) × (u ≡ v)
same_comment x y u v h i r = by_more r.more refl
  where
    by_more : (m : List ℕ) → r.more ≡ m → (x ≡ y) × (u ≡ v)
    by_more [] e = (sym (r.front ∙ ap (λ m. x ++ m) e ∙ append-nil x), r.rest ∙ ap (λ m. m ++ v) e)
    by_more (c ∷ m) e =
        let following : u ≡ c ∷ (m ++ v) = r.rest ∙ ap (λ m. m ++ v) e in
        let whole : y ≡ x ++ c ∷ m = r.front ∙ ap (λ m. x ++ m) e in
        absurd (no_feed_inside x m c (rw following at h.ends) (rw whole at i.inside))

-- bytes begin with at most one comment
one_comment : (x y u v : List ℕ) → IsComment x u → IsComment y v → x ++ u ≡ y ++ v → (x ≡ y) × (u ≡ v)
one_comment x y u v h i e = elim (one_goes_on x y u v e) [
  | inl r ↦ same_comment x y u v h i r
  | inr r ↦ (let p = same_comment y x v u i h r in (sym p.0, sym p.1))
]

-- both texts, both rests and both symbols are equal
record AreSame (x y u v : List ℕ) (o o' : Option Symbol) : Type 0 where
  pub text : x ≡ y
  pub rest : u ≡ v
  pub symbol : o ≡ o'

-- no blank is a token
blank_no_token : (b : ℕ) (rest text after : List ℕ) (s : Symbol) → is_blank b ≡ true → IsToken text after s → b ∷ rest ≡ text ++ after → ⊥
blank_no_token b rest [] after s g t e = let none : None ≡ Some s = t.symbol in cc (none)
blank_no_token b rest (c ∷ text) after s g t e = let same : b ≡ c = cc (e) in blank_begins_no_symbol c text s
    (ap is_blank (sym same) ∙ g) t.symbol

-- no comment is a token
comment_no_token : (x u y v : List ℕ) (s : Symbol) → IsComment x u → IsToken y v s → x ++ u ≡ y ++ v → ⊥
comment_no_token x u y v s h t e = false≢true (sym t.no_comment ∙ ap begins_comment (sym e) ∙ comment_begins x u h.begins)

-- bytes begin with one blank, comment or token
one_piece : {x u y v : List ℕ} {o o' : Option Symbol} → IsPiece x u o → IsPiece y v o' → x ++ u ≡ y ++ v → AreSame x y u v o o'
one_piece (ABlank b rest g) (ABlank c after h) e = record { text = cc (e); rest = cc (e); symbol = refl }
one_piece (ABlank b rest g) (AComment y v h) e = absurd (blank_no_comment b rest y v g h.begins e)
one_piece (ABlank b rest g) (AToken y v s t) e = absurd (blank_no_token b rest y v s g t e)
one_piece (AComment x u h) (ABlank b rest g) e = absurd (blank_no_comment b rest x u g h.begins (sym e))
one_piece (AComment x u h) (AComment y v i) e = let p = one_comment x y u v h i e in record { text = p.0; rest = p.1; symbol = refl }
one_piece (AComment x u h) (AToken y v s t) e = absurd (comment_no_token x u y v s h t e)
one_piece (AToken x u s t) (ABlank b rest g) e = absurd (blank_no_token b rest x u s g t (sym e))
one_piece (AToken x u s t) (AComment y v h) e = absurd (comment_no_token y v x u s h t (sym e))
one_piece (AToken x u s t) (AToken y v s' t') e =
    let p = one_longest x y u v s s' t.longest t'.longest t.symbol t'.symbol e in
    record { text = p.0; rest = p.1; symbol = sym t.symbol ∙ ap symbol_of p.0 ∙ t'.symbol }

-- ---- scans of the same bytes

-- the token of a text at this offset, if the text is a token
taken : ℕ → List ℕ → Option Symbol → List Token
taken place text None = []
taken place text (Some s) = token_at place text s ∷ []

-- a scan goes past the blank, comment or token with which the bytes begin
record IsPast (place : ℕ) (bytes : List ℕ) (tokens : List Token) (rest : List ℕ) : Type 0 where
  pub text : List ℕ
  pub following : List ℕ
  pub symbol : Option Symbol
  pub others : List Token
  pub piece : IsPiece text following symbol
  pub parts : bytes ≡ text ++ following
  pub first : tokens ≡ taken place text symbol ++ others
  pub scan : Scans (place + length text) following others rest

-- a scan stops at once or goes past something
past_or_not : {place : ℕ} {bytes rest : List ℕ} {tokens : List Token} → Scans place bytes tokens rest
    → ((bytes ≡ rest) × (tokens ≡ [])) ⊎ IsPast place bytes tokens rest
unfolding taken
past_or_not (Stops place rest) = inl (refl, refl)
past_or_not (Blank {bytes} {tokens} b g d) =
    inr (record {
      text = b ∷ [];
      following = bytes;
      symbol = None;
      others = tokens;
      piece = ABlank b bytes g;
      parts = refl;
      first =
          refl;
      scan = d;
    })
past_or_not (Comment {bytes} {tokens} text h d) =
    inr (record {
      text = text;
      following = bytes;
      symbol = None;
      others = tokens;
      piece = AComment text bytes h;
      parts = refl;
      first =
          refl;
      scan = d;
    })
past_or_not (Taken {bytes} {tokens} text s t d) =
    inr (record {
      text = text;
      following = bytes;
      symbol = Some s;
      others = tokens;
      piece = AToken text bytes s t;
      parts = refl;
      first =
          refl;
      scan = d;
    })

-- of two scans of the same bytes, the second continues where the first stops
pub record GoesFurther (tokens further : List Token) (rest end : List ℕ) : Type 0 where
  pub more : List Token
  pub place : ℕ
  pub parts : further ≡ tokens ++ more
  pub scan : Scans place rest more end

abbrev Meet : List Token → List Token → List ℕ → List ℕ → Type 0
Meet tokens others rest end = GoesFurther tokens others rest end ⊎ GoesFurther others tokens end rest

-- the same with the same tokens before both lists
with_front : (xs tokens others : List Token) (rest end : List ℕ) → Meet tokens others rest end → Meet (xs ++ tokens) (xs ++ others) rest end
with_front xs tokens others rest end (inl f) =
    inl (record { more = f.more; place = f.place; parts = ap (λ y. xs ++ y) f.parts ∙ sym (append_assoc xs tokens f.more); scan = f.scan })
with_front xs tokens others rest end (inr f) =
    inr (record { more = f.more; place = f.place; parts = ap (λ y. xs ++ y) f.parts ∙ sym (append_assoc xs others f.more); scan = f.scan })

-- two scans that go past the same text meet if they meet after it
past_same : (place : ℕ) (text following bytes rest end : List ℕ) (o : Option Symbol) (tokens others : List Token)
    → IsPiece text following o → ((us : List Token) → Scans (place + length text) following us end → Meet tokens us rest end)
    → Scans place (text ++ following) (taken place text o ++ tokens) rest
    → Scans place bytes others end → text ++ following ≡ bytes → Meet (taken place text o ++ tokens) others rest end
past_same place text following bytes rest end o tokens others piece meets whole d e = elim (past_or_not d) [
  | inl p ↦ inr (record {
    more = taken place text o ++ tokens;
    place = place;
    parts = rw p.1 refl;
    scan = subst (λ x. Scans place x (taken place text o ++ tokens) rest) (e ∙ p.0) whole;
  })
  | inr p ↦ (
      let same = one_piece piece p.piece (e ∙ p.parts) in
      let first : others ≡ taken place text o ++ p.others = p.first ∙ ap (λ x. taken place x p.symbol ++ p.others) (sym same.text)
      ∙ ap (λ x. taken place text x ++ p.others) (sym same.symbol) in
      let scan : Scans (place + length text) following p.others end =
      subst (λ x. Scans (place + length x) following p.others end) (sym same.text)
      (subst (λ x. Scans (place + length p.text) x p.others end) (sym same.rest) p.scan) in
      rw first (with_front (taken place text o) tokens p.others rest end (meets p.others scan)))
]

-- of two scans of the same bytes from the same offset, one continues where the other stops
pub scans_meet : {place : ℕ} {bytes other rest end : List ℕ} {tokens others : List Token} → Scans place bytes tokens rest
    → Scans place other others end → bytes ≡ other
    → Meet tokens others rest end
unfolding taken
scans_meet {end} {others = us} (Stops place rest) d h =
    inl (record { more = us; place = place; parts = refl; scan = subst (λ x. Scans place x us end) (sym h) d })
scans_meet {other} {end} {others = us} (Blank {place} {bytes} {rest} {tokens} b g s) d h =
    past_same place (b ∷ []) bytes other rest end None tokens us (ABlank b bytes g) (λ vs w. scans_meet s w refl) (Blank b g s) d h
scans_meet {other} {end} {others = us} (Comment {place} {bytes} {rest} {tokens} text c s) d h =
    past_same place text bytes other rest end None tokens us (AComment text bytes c) (λ vs w. scans_meet s w refl) (Comment text c s) d h
scans_meet {other} {end} {others = us} (Taken {place} {bytes} {rest} {tokens} text symbol t s) d h =
    past_same place text bytes other rest end (Some symbol) tokens us (AToken text bytes symbol t) (λ vs w. scans_meet s w refl)
    (Taken text symbol t s) d h

-- ---- one list of tokens

-- a blank, a comment or a token has at least one byte
piece_is_some : {x u : List ℕ} {o : Option Symbol} → IsPiece x u o → [] ≡ x ++ u → ⊥
piece_is_some (ABlank b rest g) e = (let none : [] ≡ b ∷ rest = e in cc (none))
piece_is_some (AComment [] rest h) e = false≢true h.begins
piece_is_some (AComment (b ∷ text) rest h) e = (let none : [] ≡ b ∷ (text ++ rest) = e in cc (none))
piece_is_some (AToken [] rest s t) e = (let none : None ≡ Some s = t.symbol in cc (none))
piece_is_some (AToken (b ∷ text) rest s t) e = (let none : [] ≡ b ∷ (text ++ rest) = e in cc (none))

-- a scan from the end stays there
from_end : {place : ℕ} {rest : List ℕ} {tokens : List Token} → Scans place [] tokens rest → (rest ≡ []) × (tokens ≡ [])
from_end d = elim (past_or_not d) [
  | inl p ↦ (sym p.0, p.1)
  | inr p ↦ absurd (piece_is_some p.piece p.parts)
]

-- a source has one list of tokens
pub one_list : (source : List ℕ) (tokens others : List Token) → HasTokens source tokens → HasTokens source others → tokens ≡ others
one_list source tokens others d e = elim (scans_meet d e refl) [
  | inl f ↦ (let none = (from_end f.scan).1 in sym (f.parts ∙ ap (λ x. tokens ++ x) none ∙ append-nil tokens))
  | inr f ↦ (let none = (from_end f.scan).1 in f.parts ∙ ap (λ x. others ++ x) none ∙ append-nil others)
]

-- ---- one fault

-- a symbol within its bounds: a name has at most 64 bytes, and a number is an `i64`
abbrev pub IsWithinBounds : Symbol → Type 0
IsWithinBounds (symbols.Name text) = length text ≤ 64
IsWithinBounds (symbols.Word k) = Unit {0}
IsWithinBounds (symbols.Number n) = n ≤ℤ pos (2 ^ 63 - 1)
IsWithinBounds (symbols.Operator code) = Unit {0}
IsWithinBounds (symbols.Sign b) = Unit {0}

-- a token within its bounds is a symbol within its bounds
pub bounded_symbol : (place : ℕ) (text : List ℕ) (s : Symbol) → symbol_of text ≡ Some s → IsTokenWithinBounds (token_at place text s)
    → IsWithinBounds s
bounded_symbol place text (symbols.Name name) e w = rw (name_is_text text name e) w
bounded_symbol place text (symbols.Word k) e w = tt
bounded_symbol place text (symbols.Number n) e w = w
bounded_symbol place text (symbols.Operator code) e w = tt
bounded_symbol place text (symbols.Sign b) e w = tt

-- a scan must stop here: the bytes begin with nothing, or with a symbol that is beyond its bounds
data IsStop : List ℕ → Option Symbol → Type 0 where
  Nothing : {bytes : List ℕ} → BeginsNothing bytes → IsStop bytes None
  Beyond : {bytes : List ℕ} (s : Symbol) → BeginsWith bytes s → (IsWithinBounds s → ⊥) → IsStop bytes (Some s)

-- bytes that begin with nothing begin with no blank, comment or token
nothing_at : {x u : List ℕ} {o : Option Symbol} (bytes : List ℕ) → BeginsNothing bytes → IsPiece x u o → bytes ≡ x ++ u → ⊥
nothing_at [] n s e = n
nothing_at (b ∷ bs) n (ABlank c rest g) e = false≢true (sym n.0 ∙ ap is_blank (let same : b ≡ c = cc (e) in same) ∙ g)
nothing_at (b ∷ bs) n (AComment x u h) e = false≢true (sym n.1 ∙ ap begins_comment e ∙ comment_begins x u h.begins)
nothing_at (b ∷ bs) n (AToken x u s t) e = n.2 x u s e t.symbol

-- a stop is not at the end
stop_is_some : {bytes : List ℕ} {o : Option Symbol} → IsStop bytes o → bytes ≡ [] → ⊥
stop_is_some (Nothing {bytes} n) e = (let none : BeginsNothing [] = rw e at n in none)
stop_is_some (Beyond s w b) e = piece_is_some (AToken w.text w.rest s w.token) (sym e ∙ w.parts)

-- bytes have at most one cause to stop
one_thing : {bytes : List ℕ} {o o' : Option Symbol} → IsStop bytes o → IsStop bytes o' → o ≡ o'
one_thing (Nothing n) (Nothing m) = refl
one_thing (Nothing {bytes} n) (Beyond s w b) = absurd (nothing_at bytes n (AToken w.text w.rest s w.token) w.parts)
one_thing (Beyond s w b) (Nothing {bytes} n) = absurd (nothing_at bytes n (AToken w.text w.rest s w.token) w.parts)
one_thing (Beyond s w b) (Beyond s' w' b') =
    let same = one_piece (AToken w.text w.rest s w.token) (AToken w'.text w'.rest s' w'.token) (sym w.parts ∙ w'.parts) in same.symbol

-- a symbol beyond its bounds is not taken
not_taken : (place : ℕ) (bytes : List ℕ) (tokens : List Token) (end : List ℕ) (s : Symbol) → BeginsWith bytes s → (IsWithinBounds s → ⊥)
    → All IsTokenWithinBounds tokens
    → IsPast place bytes tokens end → ⊥
unfolding taken
not_taken place bytes tokens end s w b bounded p =
    let same = one_piece (AToken w.text w.rest s w.token) p.piece (sym w.parts ∙ p.parts) in
    let first : tokens ≡ token_at place w.text s ∷ p.others =
    p.first ∙ ap (λ x. taken place x p.symbol ++ p.others) (sym same.text) ∙ ap (λ x. taken place w.text x ++ p.others) (sym same.symbol) in
    let here : All IsTokenWithinBounds (token_at place w.text s ∷ p.others) = rw first at bounded in
    b (bounded_symbol place w.text s w.token.symbol (here 0 (token_at place w.text s) (omega arith)))

-- no scan within the bounds continues from a stop
stays : {place : ℕ} {bytes end : List ℕ} {tokens : List Token} {o : Option Symbol} → IsStop bytes o → Scans place bytes tokens end
    → All IsTokenWithinBounds tokens → bytes ≡ end
stays (Nothing {bytes} n) d w = elim (past_or_not d) [
  | inl p ↦ p.0
  | inr p ↦ absurd (nothing_at bytes n p.piece p.parts)
]
stays {place} {end} {tokens} (Beyond {bytes} s b beyond) d w = elim (past_or_not d) [
  | inl p ↦ p.0
  | inr p ↦ absurd (not_taken place bytes tokens end s b beyond w p)
]

-- the source stops at this offset
record StopsAt (source : List ℕ) (place : ℕ) (o : Option Symbol) : Type 0 where
  pub reached : IsReached source place
  pub stop : IsStop (drop place source) o

-- tokens after a prefix are bounded if all are
bounded_after : (front more whole : List Token) → whole ≡ front ++ more → All IsTokenWithinBounds whole → All IsTokenWithinBounds more
bounded_after front more whole e w = rw (← drop-append_seam front more)
    (All-drop IsTokenWithinBounds (length front) (front ++ more) (rw e at w))

-- of two stops in one source, neither comes after the other
same_bytes : (source : List ℕ) (p q : ℕ) (o o' : Option Symbol) → StopsAt source p o → StopsAt source q o' → drop p source ≡ drop q source
same_bytes source p q o o' s t = elim (scans_meet s.reached.scanned t.reached.scanned refl) [
  | inl f ↦ stays s.stop f.scan (bounded_after s.reached.before f.more t.reached.before f.parts t.reached.bounded)
  | inr f ↦ sym (stays t.stop f.scan (bounded_after t.reached.before f.more s.reached.before f.parts s.reached.bounded))
]

-- equal rests of a source that are not empty are at the same offset
same_place : (source : List ℕ) (p q : ℕ) → drop p source ≡ drop q source → (drop p source ≡ [] → ⊥) → p ≡ q
same_place source p q e some =
    by_length (drop p source) refl some
  where
    by_length : (bytes : List ℕ) → drop p source ≡ bytes → (drop p source ≡ [] → ⊥) → p ≡ q
    by_length [] h n = absurd (n h)
    by_length (b ∷ bs) h n = omega (arith, ap length h, ap length e, length-drop p source, length-drop q source)

-- a source stops at one offset at most
one_stop : (source : List ℕ) (p q : ℕ) (o o' : Option Symbol) → StopsAt source p o → StopsAt source q o' → (p ≡ q) × (o ≡ o')
one_stop source p q o o' s t =
    let same = same_bytes source p q o o' s t in
    (same_place source p q same (stop_is_some s.stop), one_thing s.stop (subst (λ x. IsStop x o') (sym same) t.stop))

-- the fault of a stop
fault_of : ℕ → Option Symbol → LexicalFault
fault_of place None = BadByte place
fault_of place (Some (symbols.Name name)) = NameTooLong place
fault_of place (Some (symbols.Word k)) = BadByte place
fault_of place (Some (symbols.Number n)) = TooWide place
fault_of place (Some (symbols.Operator code)) = BadByte place
fault_of place (Some (symbols.Sign b)) = BadByte place

-- a fault in the text is the fault at which the scan stops
record IsOfStop (source : List ℕ) (f : LexicalFault) : Type 0 where
  pub place : ℕ
  pub symbol : Option Symbol
  pub stops : StopsAt source place symbol
  pub fault : f ≡ fault_of place symbol

-- the fault of a source is its length, or the fault of a stop
by_length_or_stop : {source : List ℕ} {f : LexicalFault} → HasFault source f → ((f ≡ SourceTooLong) × (1048576 < length source)) ⊎ IsOfStop
    source f
unfolding fault_of
by_length_or_stop (IsTooLong h) = inl (refl, h)
by_length_or_stop (HasBadByte place r n) = inr (record {
  place = place;
  symbol = None;
  stops =
      record { reached = r; stop = Nothing n };
  fault = refl;
})
by_length_or_stop (HasWideNumber place n r w h) = inr (record {
  place = place;
  symbol = Some (symbols.Number (pos n));
  stops = record { reached = r; stop = Beyond (symbols.Number (pos n)) w (λ b. omega (arith, ints, b, h)) };
  fault = refl;
})
by_length_or_stop (HasLongName place name r w h) = inr (record {
  place = place;
  symbol = Some (symbols.Name name);
  stops = record { reached = r; stop = Beyond (symbols.Name name) w (λ b. omega (arith, b, h)) };
  fault = refl;
})

-- a source has at most one fault
pub one_fault : (source : List ℕ) (f g : LexicalFault) → HasFault source f → HasFault source g → f ≡ g
one_fault source f g h i = by_both (by_length_or_stop h) (by_length_or_stop i)
  where
    by_both : ((f ≡ SourceTooLong) × (1048576 < length source)) ⊎ IsOfStop source f
        → ((g ≡ SourceTooLong) × (1048576 < length source)) ⊎ IsOfStop source g → f ≡ g
    by_both (inl p) (inl q) = p.0 ∙ sym q.0
    by_both (inl p) (inr q) = absurd (omega (arith, p.1, q.stops.reached.short))
    by_both (inr p) (inl q) = absurd (omega (arith, q.1, p.stops.reached.short))
    by_both (inr p) (inr q) =
        let same = one_stop source p.place q.place p.symbol q.symbol p.stops q.stops in
        p.fault ∙ ap (λ x. fault_of x p.symbol) same.0 ∙ ap (λ x. fault_of q.place x) same.1 ∙ sym q.fault

-- a source with tokens within the bounds has no fault
pub no_fault : (source : List ℕ) (tokens : List Token) (f : LexicalFault) → IsLexed source tokens → HasFault source f → ⊥
no_fault source tokens f l h = by_fault (by_length_or_stop h)
  where
    by_fault : ((f ≡ SourceTooLong) × (1048576 < length source)) ⊎ IsOfStop source f → ⊥
    by_fault (inl p) = omega (arith, p.1, l.short)
    by_fault (inr p) = elim (scans_meet p.stops.reached.scanned l.scanned refl) [
      | inl m ↦ stop_is_some p.stops.stop (stays p.stops.stop m.scan (bounded_after p.stops.reached.before m.more tokens m.parts l.bounded))
      | inr m ↦ stop_is_some p.stops.stop (from_end m.scan).0
    ]

-- ---- the symbols of tokens

-- the text of a token is a symbol of its kind
token_symbol : (source text rest : List ℕ) (place : ℕ) (s : Symbol) → drop place source ≡ text ++ rest → symbol_of text ≡ Some s
    → symbol_of (text_in source (token_at place text s)) ≡ Some (symbol_in source (token_at place text s))
token_symbol source text rest place s e h =
    let same : text_in source (token_at place text s) ≡ text = ap (λ x. take (length text) x) e ∙ take-append_seam text rest in
    ap symbol_of same ∙ h ∙ sym (ap Some (ap (λ x. symbol_as (kind_of s) x) same ∙ symbol_of_kind text s h))

-- the token of a text is in the source that has the text at its offset
in_source : (source text rest : List ℕ) (place : ℕ) (s : Symbol) → drop place source ≡ text ++ rest → symbol_of text ≡ Some s
    → IsInSource source (token_at place text s)
in_source source [] rest place s e h = (let none : None ≡ Some s = h in cc (none))
in_source source (b ∷ text) rest place s e h = record {
  symbol = token_symbol source (b ∷ text) rest place s e h;
  within = omega (arith, ap length e, length-drop place source, length-append (b ∷ text) rest);
}

-- the bytes after a prefix
pub after_front : (source text rest : List ℕ) (place : ℕ) → drop place source ≡ text ++ rest → drop (place + length text) source ≡ rest
after_front source text rest place e = sym (drop-drop (length text) place source) ∙ ap (λ x. drop (length text) x) e
    ∙ drop-append_seam text rest

-- each token of a scan is in the source
all_in_source : {place : ℕ} {bytes rest : List ℕ} {tokens : List Token} (source : List ℕ) → Scans place bytes tokens rest
    → drop place source ≡ bytes
    → All (IsInSource source) tokens
all_in_source source (Stops place rest) e = All-nil (IsInSource source)
all_in_source source (Blank {place} {bytes} b g d) e = all_in_source source d (after_front source (b ∷ []) bytes place e)
all_in_source source (Comment {place} {bytes} text h d) e = all_in_source source d (after_front source text bytes place e)
all_in_source source (Taken {place} {bytes} {tokens} text s t d) e =
    All-cons (IsInSource source) (token_at place text s) tokens (in_source source text bytes place s e t.symbol)
    (all_in_source source d (after_front source text bytes place e))

-- each token of a source is in it, and its text there is the text of its symbol
pub tokens_in_source : (source : List ℕ) (tokens : List Token) → HasTokens source tokens → All (IsInSource source) tokens
tokens_in_source source tokens d = all_in_source source d refl
