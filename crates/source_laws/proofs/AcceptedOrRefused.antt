-- Each source is accepted or refused.
use Rattle.std.proofs.Common.{◌≡◌, refl, ℕ, List, ◌⊎◌, inl, inr, Option, Some, None}
use Rattle.pipe_model.specs.declared.token.Token.{Token}
use Rattle.pipe_model.specs.Language.CheckingRules as checking
use Rattle.pipe_model.specs.Language.CheckingRules.{Fault, Broken, fault_of}
use Rattle.pipe_model.specs.Language.SourceRefusals.{IsAccepted, fault_place, Refusal, Lexical, Syntactic, LimitOut, RuleBroken, IsRefused}
use Rattle.pipe_model.specs.Language.SourceRefusals.{ForItsText, ForAToken, ForALimit, ForARule}
use Rattle.pipe_model.specs.Language.SourceSpelling.{SourceSpells}
use Rattle.pipe_model.specs.Language.SyntaxTree.{SyntaxTree}
use Rattle.pipe_model.specs.Language.Tokens.{IsLexed, symbols_in}
use Rattle.pipe_lexer.proofs.EachSource.{lexed_or_fault}
use Rattle.pipe_parser.specs.ParsingLaw.{IsProgramOrFault}
use Rattle.pipe_parser.proofs.EachProgram.{program_or_fault}
use Rattle.language_laws.proofs.MarkPlaces.{place_of_broken}

-- the source is accepted as some program, or refused for some reason
abbrev AcceptedOrRefused : List ℕ → Type 0
AcceptedOrRefused source = ((tree : SyntaxTree) × IsAccepted source tree) ⊎ ((refusal : Refusal) × IsRefused source refusal)

-- a source that spells a program is accepted, or refused for the program's fault
by_rules : (source : List ℕ) (tree : SyntaxTree) (fault : Option Fault) → SourceSpells source tree → fault_of tree ≡ fault
    → AcceptedOrRefused source
by_rules source tree None s e = inl (tree, record { spelled = s; obeys = e })
by_rules source tree (Some (checking.LimitOut which)) s e = inr (LimitOut which, ForALimit tree which s e)
by_rules source tree (Some (Broken rule mark)) s e =
    let found = place_of_broken source tree s rule mark e in inr (RuleBroken rule found.0, ForARule tree rule mark found.0 s e found.1)

-- a source with tokens spells a program, or is refused for the first token that breaks a rule of the grammar
by_grammar : (source : List ℕ) (tokens : List Token) → IsLexed source tokens → IsProgramOrFault (symbols_in source tokens)
    → AcceptedOrRefused source
by_grammar source tokens l (inl p) = by_rules source p.0 (fault_of p.0) (record { tokens = tokens; lexed = l; spelled = p.1 }) refl
by_grammar source tokens l (inr f) =
    let place = fault_place source tokens f.1 in
    inr (Syntactic f.0 place, ForAToken tokens f.0 place l (record { before = f.1; breaks = f.2; place_is = refl }))

-- each source is accepted or refused
pub accepted_or_refused : (source : List ℕ) → AcceptedOrRefused source
accepted_or_refused source =
    elim (lexed_or_fault source) [
      | inl l ↦ by_grammar source l.0 l.1 (program_or_fault (symbols_in source l.0))
      | inr f ↦ inr (Lexical f.0, ForItsText f.0 f.1)
    ]
