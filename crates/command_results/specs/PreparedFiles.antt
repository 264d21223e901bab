-- What a command that runs a program knows of its source and its input before that.
use Rattle.std.specs.Prelude.{◌≡◌, ℕ, ℤ, List, Bool, Option, IfSome}
use Rattle.pipe_model.specs.Language.SyntaxTree.{SyntaxTree, tree_of}
use Rattle.command_results.specs.declared.prepare.Prepared.{Prepared}
use Rattle.command_results.specs.declared.prepare.Prepared.TheVariants as prepared
use Rattle.command_results.specs.PrintedResults.{IsCallResult}
use Rattle.pipe_io.specs.Reads.{Content}
use Rattle.command_results.specs.ProgramFiles.{IsInputOf, IsSourceOf}
use Rattle.command_results.specs.CommandFiles.{CanRunBy, NamesInput, NamesSource, asks_wave, program_by}
use Rattle.cilkp_words.specs.Commands.{Command}

-- no read failed, the source is accepted as a program, whose lowered form this is if it is taken as a wave loop, and the input is these
-- numbers, by some content of the two files; where the content is known, by that one
pub record AreReady (holds : Option Content) (before now : ℕ) (source input : List ℕ) (wave : Bool) (program : SyntaxTree)
    (numbers : List ℤ) : Type 0 where
  pub source_file : Option (List ℕ)
  pub input_file : Option (List ℕ)
  pub tree : SyntaxTree
  pub calm : now ≡ before
  pub source_known : IfSome holds (λ content. content source ≡ source_file)
  pub input_known : IfSome holds (λ content. content input ≡ input_file)
  pub accepted : IsSourceOf source_file tree
  pub read : IsInputOf input_file numbers
  pub fits : CanRunBy wave tree
  pub program_is : program ≡ program_by wave tree

-- the files are ready, or the result of each command with these files is known already
abbrev pub IsPreparation : Option Content → ℕ → ℕ → List ℕ → List ℕ → Bool → Prepared → Type 0
IsPreparation holds before now source input wave (prepared.Ready checked numbers) = AreReady holds before now source input wave
    (tree_of checked) numbers
IsPreparation holds before now source input wave (prepared.Decided outcome) =
    (asked : Option Command) → NamesSource asked source → NamesInput asked input → asks_wave asked ≡ wave
    → IsCallResult asked holds before now outcome.status outcome.text outcome.run_log outcome.reports
