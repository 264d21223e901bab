-- If a source spells a program, its marked tokens are the marks of the program, one by one.
use Rattle.std.proofs.Common.{◌≡◌, ◌∙◌, ap, sym, refl, ℕ, ℤ, pos, Bool, true, false, List, [], ◌∷◌, ◌++◌, length, arith, inl, inr}
use Rattle.std.proofs.Common.{if◌then◌else◌, ◌==◌, ◌||◌}
use Rattle.std.proofs.lemmas.Bool.Decides.{nat_tests}
use Rattle.pipe_model.specs.declared.symbol.Symbol.{Symbol}
use Rattle.pipe_model.specs.declared.symbol.Symbol.TheVariants as symbols
use Rattle.pipe_model.specs.declared.token.Token.{Token}
use Rattle.pipe_model.specs.declared.token.TokenKind.{TokenKind}
use Rattle.pipe_model.specs.declared.token.TokenKind.TheVariants as kinds
use Rattle.pipe_model.specs.Language.MarkPlaces.{is_mark, mark_places}
use Rattle.pipe_model.specs.Language.Marks.{Occurrence, DeclaredCell, DeclaredLocal, Plain, Indexed, IterWord, StageWord, Mark, marks_of}
use Rattle.pipe_model.specs.Language.SourceSpelling.{SourceSpells}
use Rattle.pipe_model.specs.Language.SyntaxTree.{SyntaxTree}
use Rattle.pipe_model.specs.Language.Tokens.{text_in, symbol_as, symbols_in}
use Rattle.language_laws.specs.MarkLaws.{OccursAs, HaveMarks, NoToken, OtherToken, MarkToken}
use Rattle.language_laws.proofs.SpelledMarks.{MarkText, NameText, IterText, StageText, text_at, texts_of, marked_text, texts_in}
use Rattle.language_laws.proofs.SpelledMarks.{program_texts}

-- ---- the kinds of occurrences, by the text at the mark

occurs_as_name : (o : Occurrence) (x : List ℕ) → text_at o ≡ NameText x → OccursAs o (symbols.Name x)
occurs_as_name (DeclaredCell y size) x h = cc (h)
occurs_as_name (DeclaredLocal y) x h = cc (h)
occurs_as_name (Plain y) x h = cc (h)
occurs_as_name (Indexed y) x h = cc (h)
occurs_as_name IterWord x h = cc (h)
occurs_as_name StageWord x h = cc (h)

occurs_as_iter : (o : Occurrence) (k : ℕ) → k ≡ 19 → text_at o ≡ IterText → OccursAs o (symbols.Word k)
occurs_as_iter (DeclaredCell y size) k e h = cc (h)
occurs_as_iter (DeclaredLocal y) k e h = cc (h)
occurs_as_iter (Plain y) k e h = cc (h)
occurs_as_iter (Indexed y) k e h = cc (h)
occurs_as_iter IterWord k e h = ap symbols.Word e
occurs_as_iter StageWord k e h = cc (h)

occurs_as_stage : (o : Occurrence) (s : Symbol) → OccursAs StageWord s → text_at o ≡ StageText → OccursAs o s
occurs_as_stage (DeclaredCell y size) s w h = cc (h)
occurs_as_stage (DeclaredLocal y) s w h = cc (h)
occurs_as_stage (Plain y) s w h = cc (h)
occurs_as_stage (Indexed y) s w h = cc (h)
occurs_as_stage IterWord s w h = cc (h)
occurs_as_stage StageWord s w h = w

-- ---- tokens

-- a token of this kind and length at this offset
abbrev token_of : TokenKind → (place size : ℕ) → Token
token_of kind place size = record { kind = kind; place = place; length = size }

-- tokens with the texts of marks have these marks
record RestHasMarks (source : List ℕ) (tokens : List Token) : Type 0 where
  pub marks : (ms : List Mark) → texts_of ms ≡ texts_in (symbols_in source tokens) → HaveMarks source tokens ms (mark_places tokens)

-- a marked token before others
first_mark : (source : List ℕ) (token : Token) (tokens : List Token) (text : MarkText) (ms : List Mark) → is_mark token.kind ≡ true
    → ((o : Occurrence) → text_at o ≡ text → OccursAs o (symbol_as token.kind (text_in source token)))
    → texts_of ms ≡ text ∷ texts_in (symbols_in source tokens) → RestHasMarks source tokens
    → HaveMarks source (token ∷ tokens) ms (pos token.place ∷ mark_places tokens)
first_mark source token tokens text [] h o e b = cc (e)
first_mark source token tokens text (m ∷ ms) h o e b = MarkToken token m h (o m.occurrence (cc (e))) (b.marks ms (cc (e)))

-- a token that is a reserved word before others
first_word : (source : List ℕ) (k place size : ℕ) (tokens : List Token) (ms : List Mark)
    → texts_of ms ≡ marked_text (symbols.Word k) ++ texts_in (symbols_in source tokens)
    → RestHasMarks source tokens → HaveMarks source (token_of (kinds.Word k) place size ∷ tokens) ms
    (mark_places (token_of (kinds.Word k) place size ∷ tokens))
first_word source k place size tokens ms e b =
    by_word (k == 9) (k == 10) (k == 19) (λ h. grind (arith, nat_tests, h)) (λ h. grind (arith, nat_tests, h))
    (λ h. grind (arith, nat_tests, h)) refl e
  where
    iter_word : k ≡ 19 → (o : Occurrence) → text_at o ≡ IterText → OccursAs o (symbols.Word k)
    iter_word same o w = occurs_as_iter o k same w

    stage_word : OccursAs StageWord (symbols.Word k) → (o : Occurrence) → text_at o ≡ StageText → OccursAs o (symbols.Word k)
    stage_word same o w = occurs_as_stage o (symbols.Word k) same w

    by_word : (p q r : Bool) → (p ≡ true → k ≡ 9) → (q ≡ true → k ≡ 10) → (r ≡ true → k ≡ 19) → is_mark (kinds.Word k) ≡ (p || (q || r))
        → texts_of ms ≡ (if r then IterText ∷ [] else (if p || q then StageText ∷ [] else [])) ++ texts_in (symbols_in source tokens)
        → HaveMarks source (token_of (kinds.Word k) place size ∷ tokens) ms
        (if p || (q || r) then pos place ∷ mark_places tokens else mark_places tokens)
    by_word true q true f g h i t = first_mark source _ tokens IterText ms i (iter_word (h refl)) t b
    by_word false true true f g h i t = first_mark source _ tokens IterText ms i (iter_word (h refl)) t b
    by_word false false true f g h i t = first_mark source _ tokens IterText ms i (iter_word (h refl)) t b
    by_word true q false f g h i t = first_mark source _ tokens StageText ms i (stage_word (inl (ap symbols.Word (f refl)))) t b
    by_word false true false f g h i t = first_mark source _ tokens StageText ms i (stage_word (inr (ap symbols.Word (g refl)))) t b
    by_word false false false f g h i t = OtherToken _ i (b.marks ms t)

-- a token before others
first_token : (source : List ℕ) (kind : TokenKind) (place size : ℕ) (tokens : List Token) (ms : List Mark)
    → texts_of ms ≡ texts_in (symbols_in source (token_of kind place size ∷ tokens)) → RestHasMarks source tokens
    → HaveMarks source (token_of kind place size ∷ tokens) ms (mark_places (token_of kind place size ∷ tokens))
first_token source kinds.Name place size tokens ms e b =
    first_mark source _ tokens (NameText (text_in source (token_of kinds.Name place size))) ms refl (λ o w. occurs_as_name o _ w) e b
first_token source (kinds.Word k) place size tokens ms e b = first_word source k place size tokens ms e b
first_token source (kinds.Number n) place size tokens ms e b = OtherToken _ refl (b.marks ms e)
first_token source (kinds.Operator code) place size tokens ms e b = OtherToken _ refl (b.marks ms e)
first_token source (kinds.Sign c) place size tokens ms e b = OtherToken _ refl (b.marks ms e)

-- tokens with the texts of marks have these marks
have_marks : (source : List ℕ) (tokens : List Token) → RestHasMarks source tokens
have_marks source [] = record { marks = none }
  where
    none : (ms : List Mark) → texts_of ms ≡ [] → HaveMarks source [] ms []
    none [] e = NoToken
    none (m ∷ ms) e = cc (e)
have_marks source (token ∷ tokens) = record {
  marks = λ ms e. first_token source token.kind token.place token.length tokens ms e
      (have_marks source tokens);
}

-- ---- programs

-- the tokens of a source have the marks of its program
pub source_marks : (source : List ℕ) (tree : SyntaxTree) (s : SourceSpells source tree) → HaveMarks source s.tokens (marks_of tree)
    (mark_places s.tokens)
source_marks source tree s = (have_marks source s.tokens).marks (marks_of tree)
    (program_texts s.spelled.derived ∙ ap texts_in (sym s.spelled.split))

as_many : {source : List ℕ} {tokens : List Token} {ms : List Mark} {places : List ℤ} → HaveMarks source tokens ms places
    → length ms ≡ length places
as_many NoToken = refl
as_many (OtherToken token h m) = as_many m
as_many (MarkToken token mark h o m) = let same = as_many m in omega (arith, same)

-- each mark has an offset
pub marks_have_places : (source : List ℕ) (tree : SyntaxTree) (s : SourceSpells source tree)
    → length (marks_of tree) ≡ length (mark_places s.tokens)
marks_have_places source tree s = as_many (source_marks source tree s)
