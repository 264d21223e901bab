-- If a source spells a program, its marked tokens are the marks of the program, one by one.
use Rattle.std.specs.Prelude.{◌≡◌, ℕ, ℤ, pos, true, false, List, [], ◌∷◌, ◌⊎◌, length}
use Rattle.pipe_model.specs.declared.symbol.Symbol.{Symbol}
use Rattle.pipe_model.specs.declared.symbol.Symbol.TheVariants as symbols
use Rattle.pipe_model.specs.declared.token.Token.{Token}
use Rattle.pipe_model.specs.Language.MarkPlaces.{is_mark, mark_places}
use Rattle.pipe_model.specs.Language.Marks.{Occurrence, DeclaredCell, DeclaredLocal, Plain, Indexed, IterWord, StageWord, Mark, marks_of}
use Rattle.pipe_model.specs.Language.SourceSpelling.{SourceSpells}
use Rattle.pipe_model.specs.Language.SyntaxTree.{SyntaxTree}
use Rattle.pipe_model.specs.Language.Tokens.{symbol_in}
use Rattle.pipe_model.specs.Language.Words.{word_pipe_wait, word_pipe_continue, word_iter}

-- the symbol is the text at such an occurrence
abbrev pub OccursAs : Occurrence → Symbol → Type 0
OccursAs (DeclaredCell x size) s = s ≡ symbols.Name x
OccursAs (DeclaredLocal x) s = s ≡ symbols.Name x
OccursAs (Plain x) s = s ≡ symbols.Name x
OccursAs (Indexed x) s = s ≡ symbols.Name x
OccursAs IterWord s = s ≡ word_iter
OccursAs StageWord s = (s ≡ word_pipe_wait) ⊎ (s ≡ word_pipe_continue)

-- the marked tokens of the source are these marks, in order, at these offsets
pub data HaveMarks (source : List ℕ) : List Token → List Mark → List ℤ → Type 0 where
  NoToken : HaveMarks source [] [] []
  OtherToken : {tokens : List Token} {marks : List Mark} {places : List ℤ} (token : Token) → is_mark token.kind ≡ false
      → HaveMarks source tokens marks places → HaveMarks source (token ∷ tokens) marks places
  MarkToken : {tokens : List Token} {marks : List Mark} {places : List ℤ} (token : Token) (mark : Mark) → is_mark token.kind ≡ true
      → OccursAs mark.occurrence (symbol_in source token) → HaveMarks source tokens marks places
      → HaveMarks source (token ∷ tokens) (mark ∷ marks) (pos token.place ∷ places)

-- a program has as many marks as its source has marked tokens, so each mark has an offset
abbrev pub MarksAreThoseOfTokens : Type 0
MarksAreThoseOfTokens = (source : List ℕ) (tree : SyntaxTree) (s : SourceSpells source tree)
    → length (marks_of tree) ≡ length (mark_places s.tokens)

-- each mark of a program is at the offset of its token
abbrev pub MarksOccurAsTokens : Type 0
MarksOccurAsTokens = (source : List ℕ) (tree : SyntaxTree) (s : SourceSpells source tree) → HaveMarks source s.tokens (marks_of tree)
    (mark_places s.tokens)
