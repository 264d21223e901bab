use Rattle.std.proofs.Common.{refl, [], ◌∷◌}
use Rattle.std.specs.Prelude.{codes}
use Rattle.pipe_model.specs.Language.Grammar.{LetIs, Tighter, Named, Single, FullExpression}
use Rattle.pipe_model.specs.Language.Tokens.{Blank, Taken, Stops}
use Rattle.pipe_model.specs.Language.Words.{word_let, equals, semicolon}
use Rattle.pipe_model.specs.declared.symbol.Symbol.TheVariants as symbols
use Rattle.grammar_laws.proofs.WrittenTokens.{word_token, spaced_token, closed_token}
use Rattle.language_laws.specs.LanguageExamples.{n, t}
use Rattle.language_laws.proofs.examples.let_is_spelled.Goals as goal

pub returns : goal.returns
returns c = (
  Taken (codes "let") word_let (word_token (codes "let") word_let 32 (codes "t = n;") refl refl refl) (Blank 32 refl
      (Taken t (symbols.Name t) (word_token t (symbols.Name t) 32 (codes "= n;") refl refl refl) (Blank 32 refl
      (Taken (codes "=") equals (spaced_token (codes "=") (codes "n;") equals refl (λ more. refl) refl) (Blank 32 refl
      (Taken n (symbols.Name n) (word_token n (symbols.Name n) 59 [] refl refl refl)
      (Taken (codes ";") semicolon (closed_token 59 [] semicolon refl (λ b more. refl) refl) (Stops 10 [])))))))),
  refl,
  (
    Single word_let ∷ Single (symbols.Name t) ∷ Single equals ∷ FullExpression (symbols.Name n ∷ []) ∷ Single semicolon ∷ [],
    refl,
    LetIs t (Tighter (Tighter (Tighter (Tighter (Tighter (Tighter (Named n))))))),
  ),
)
