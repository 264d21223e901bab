-- Laws of refusals: each source is accepted as one program or refused for one reason, and never both.
use Rattle.std.specs.Prelude.{◌≡◌, ℕ, List, ◌⊎◌}
use Rattle.pipe_model.specs.Language.SourceRefusals.{IsAccepted, Refusal, IsRefused}
use Rattle.pipe_model.specs.Language.SyntaxTree.{SyntaxTree}

-- a source is refused for at most one reason
abbrev pub SourcesHaveOneRefusal : Type 0
SourcesHaveOneRefusal = (source : List ℕ) (refusal other : Refusal) → IsRefused source refusal → IsRefused source other → refusal ≡ other

-- a source that is refused is not accepted
abbrev pub RefusedSourcesAreNotAccepted : Type 0
RefusedSourcesAreNotAccepted = (source : List ℕ) (refusal : Refusal) (tree : SyntaxTree) → IsRefused source refusal
    → IsAccepted source tree → ⊥

-- a source is accepted as at most one program
abbrev pub SourcesAreAcceptedAsOneProgram : Type 0
SourcesAreAcceptedAsOneProgram = (source : List ℕ) (tree other : SyntaxTree) → IsAccepted source tree → IsAccepted source other
    → tree ≡ other

-- each source is accepted or refused
abbrev pub SourcesAreAcceptedOrRefused : Type 0
SourcesAreAcceptedOrRefused = (source : List ℕ) → ((tree : SyntaxTree) × IsAccepted source tree) ⊎
    ((refusal : Refusal) × IsRefused source refusal)
