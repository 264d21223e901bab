-- Which sources are accepted, and why the others are refused: for the first fault of the text; or else for the first
-- token that breaks the grammar or one of its bounds; or else for the first rule that the program breaks.
use Rattle.std.specs.Prelude.{◌≡◌, ℕ, pos, List, length, slice_get, Option, Some, None}
use Rattle.pipe_model.specs.declared.token.Token.{Token}
use Rattle.pipe_model.specs.Language.CheckingRules as checking
use Rattle.pipe_model.specs.Language.CheckingRules.{Broken, fault_of}
use Rattle.pipe_model.specs.Language.MarkPlaces.{mark_places}
use Rattle.pipe_model.specs.Language.SourceSpelling.{SourceSpells}
use Rattle.pipe_model.specs.Language.Spelling as grammar
use Rattle.pipe_model.specs.Language.Spelling.{FirstFault}
use Rattle.pipe_model.specs.Language.SyntaxTree.{SyntaxTree}
use Rattle.pipe_model.specs.Language.Tokens.{HasFault, IsLexed, LexicalFault, symbols_in}

-- the source spells the program, and the program breaks no rule
pub record IsAccepted (source : List ℕ) (tree : SyntaxTree) : Type 0 where
  pub spelled : SourceSpells source tree
  pub obeys : fault_of tree ≡ None

-- the offset of a token, or the source's length if there is none
abbrev pub token_offset_or_end : List ℕ → Option Token → ℕ
token_offset_or_end source None = length source
token_offset_or_end source (Some token) = token.place

-- the offset of token k, counted from 0, or the source's length if it has at most k tokens
abbrev pub fault_place : List ℕ → List Token → ℕ → ℕ
fault_place source tokens k = token_offset_or_end source (slice_get tokens k)

-- the first token that breaks the rule is at this offset; if the source ends too early, the offset is the source's length
pub record BreaksAt (source : List ℕ) (tokens : List Token) (rule : grammar.GrammarRule) (place : ℕ) : Type 0 where
  pub before : ℕ
  pub breaks : FirstFault (symbols_in source tokens) rule before
  pub place_is : place ≡ fault_place source tokens before

-- why a source is refused, with the offset in bytes from 0
pub data Refusal : Type 0 where
  Lexical : LexicalFault → Refusal
  Syntactic : grammar.GrammarRule → ℕ → Refusal
  LimitOut : ℕ → Refusal  -- which limit
  RuleBroken : checking.CheckingRule → ℕ → Refusal

-- the source is refused for this reason
pub data IsRefused (source : List ℕ) : Refusal → Type 0 where
  ForItsText : (fault : LexicalFault) → HasFault source fault → IsRefused source (Lexical fault)
  ForAToken : (tokens : List Token) (rule : grammar.GrammarRule) (place : ℕ) → IsLexed source tokens → BreaksAt source tokens rule place
      → IsRefused source (Syntactic rule place)
  ForALimit : (tree : SyntaxTree) (which : ℕ) → SourceSpells source tree → fault_of tree ≡ Some (checking.LimitOut which)
      → IsRefused source (LimitOut which)
  ForARule : (tree : SyntaxTree) (rule : checking.CheckingRule) (mark place : ℕ) (spelled : SourceSpells source tree)
      → fault_of tree ≡ Some (Broken rule mark)
      → slice_get (mark_places spelled.tokens) mark ≡ Some (pos place) → IsRefused source (RuleBroken rule place)
