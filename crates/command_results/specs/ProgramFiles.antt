-- The files of a command: what they hold, and the lines that refuse them.
use Rattle.std.specs.Prelude.{◌≡◌, ℕ, ℤ, List, Option, Some, None}
use Rattle.pipe_model.specs.Language.SourceRefusals.{IsAccepted, IsRefused, Refusal}
use Rattle.pipe_model.specs.Language.SyntaxTree.{SyntaxTree}
use Rattle.pipe_model.specs.Texts.{refusal_line, refused_missing}
use Rattle.command_results.specs.CommandFiles.{NamesInput, NamesRecord, NamesSource}
use Rattle.command_results.specs.InputLines.{input_line}
use Rattle.cilkp_words.specs.Commands.{Command}
use Rattle.pipe_io.specs.declared.input_fault.InputFault.{InputFault}
use Rattle.pipe_io.specs.InputFile.{AreNumbersOf, HasFault}
use Rattle.pipe_io.specs.Reads.{Content}

-- the content of a command's source, input and record; none for a file that does not exist
pub record FileContents : Type 0 where
  pub source : Option (List ℕ)
  pub input : Option (List ℕ)
  pub saved : Option (List ℕ)

-- `held` is the content of the command's source, input and record
pub record AreHeldBy (content : Content) (asked : Option Command) (held : FileContents) : Type 0 where
  pub source : (name : List ℕ) → NamesSource asked name → content name ≡ held.source
  pub input : (name : List ℕ) → NamesInput asked name → content name ≡ held.input
  pub saved : (name : List ℕ) → NamesRecord asked name → content name ≡ held.saved

-- the file holds a source that is accepted as the program
pub record IsSourceOf (file : Option (List ℕ)) (tree : SyntaxTree) : Type 0 where
  pub bytes : List ℕ
  pub held : file ≡ Some bytes
  pub accepted : IsAccepted bytes tree

-- the file holds these numbers
pub record IsInputOf (file : Option (List ℕ)) (numbers : List ℤ) : Type 0 where
  pub bytes : List ℕ
  pub held : file ≡ Some bytes
  pub read : AreNumbersOf bytes numbers

-- the files hold an accepted program and its input numbers
pub record AreAccepted (held : FileContents) (tree : SyntaxTree) (numbers : List ℤ) : Type 0 where
  pub program : IsSourceOf held.source tree
  pub read : IsInputOf held.input numbers

-- the line that refuses a source of this name: there is no such file, or it is not accepted
pub data SourceRefusal (name : List ℕ) (file : Option (List ℕ)) : List ℕ → Type 0 where
  SourceMissing : file ≡ None → SourceRefusal name file (refused_missing name)
  NotAccepted : (bytes : List ℕ) (refusal : Refusal) → file ≡ Some bytes → IsRefused bytes refusal
      → SourceRefusal name file (refusal_line refusal)

-- the line that refuses an input of this name: there is no such file, or it is not a list of numbers within the bounds
pub data InputRefusal (name : List ℕ) (file : Option (List ℕ)) : List ℕ → Type 0 where
  InputMissing : file ≡ None → InputRefusal name file (refused_missing name)
  NoNumbers : (bytes : List ℕ) (fault : InputFault) → file ≡ Some bytes → HasFault bytes fault → InputRefusal name file (input_line fault)
