-- The results of loading a source and an input.
use Rattle.std.specs.Prelude.{◌≡◌, ℕ, ℤ, List, Option, Some, IfSome, Bool, true, false}
use Rattle.pipe_model.specs.Language.SourceRefusals.{IsAccepted, IsRefused, Refusal}
use Rattle.pipe_model.specs.Language.MarkPlaces.{mark_places}
use Rattle.pipe_model.specs.Language.SyntaxTree.{SyntaxTree, tree_of}
use Rattle.pipe_model.specs.Texts.{refusal_line}
use Rattle.command_results.specs.declared.load.Source.{Source}
use Rattle.command_results.specs.declared.load.Source.TheVariants as sources
use Rattle.command_results.specs.declared.load.Input.{Input}
use Rattle.command_results.specs.declared.load.Input.TheVariants as inputs
use Rattle.pipe_io.specs.Reads.{Content}
use Rattle.command_results.specs.ProgramFiles.{InputRefusal, IsInputOf, SourceRefusal}
use Rattle.command_results.specs.InputLines.{input_line}
use Rattle.pipe_io.specs.declared.input_fault.InputFault.{InputFault}
use Rattle.pipe_io.specs.InputFile.{AreNumbersOf, HasFault}

-- whether a read of the source failed
abbrev pub is_source_fault : Source → Bool
is_source_fault (sources.Accepted checked places) = false
is_source_fault (sources.Refused line) = false
is_source_fault sources.Failed = true

-- the bytes are refused, with this line
pub record AreRefused (bytes line : List ℕ) : Type 0 where
  pub refusal : Refusal
  pub refused : IsRefused bytes refusal
  pub line_is : line ≡ refusal_line refusal

-- the bytes are accepted as the program, whose marks have these offsets
pub record IsAcceptedWith (bytes : List ℕ) (tree : SyntaxTree) (places : List ℤ) : Type 0 where
  pub accepted : IsAccepted bytes tree
  pub placed : places ≡ mark_places accepted.spelled.tokens

-- the result of loading these bytes
abbrev pub IsLoadOf : List ℕ → Source → Type 0
IsLoadOf bytes (sources.Accepted checked places) = IsAcceptedWith bytes (tree_of checked) places
IsLoadOf bytes (sources.Refused line) = AreRefused bytes line
IsLoadOf bytes sources.Failed = ⊥

-- the file holds a source that is accepted as the program, whose marks have these offsets
pub record IsMarkedSource (file : Option (List ℕ)) (tree : SyntaxTree) (places : List ℤ) : Type 0 where
  pub bytes : List ℕ
  pub held : file ≡ Some bytes
  pub marked : IsAcceptedWith bytes tree places

-- the result of loading this file as a source: its program, or the line that refuses it
abbrev pub IsSourceFrom : List ℕ → Option (List ℕ) → Source → Type 0
IsSourceFrom name file (sources.Accepted checked places) = IsMarkedSource file (tree_of checked) places
IsSourceFrom name file (sources.Refused line) = SourceRefusal name file line
IsSourceFrom name file sources.Failed = Unit {0}

-- some content of the file explains the result; where the content is known, it is that one
pub record IsSourceResult (holds : Option Content) (name : List ℕ) (source : Source) : Type 0 where
  pub file : Option (List ℕ)
  pub known : IfSome holds (λ content. content name ≡ file)
  pub result_is : IsSourceFrom name file source

-- whether a read of the input failed
abbrev pub is_input_fault : Input → Bool
is_input_fault (inputs.Accepted numbers) = false
is_input_fault (inputs.Refused line) = false
is_input_fault inputs.Failed = true

-- the bytes have a fault, with this line
pub record AreFaulty (bytes line : List ℕ) : Type 0 where
  pub fault : InputFault
  pub faulty : HasFault bytes fault
  pub line_is : line ≡ input_line fault

-- the result of reading the numbers of these bytes
abbrev pub IsReadOf : List ℕ → Input → Type 0
IsReadOf bytes (inputs.Accepted numbers) = AreNumbersOf bytes numbers
IsReadOf bytes (inputs.Refused line) = AreFaulty bytes line
IsReadOf bytes inputs.Failed = ⊥

-- the result of loading this file as an input: its numbers, or the line that refuses it
abbrev pub IsInputFrom : List ℕ → Option (List ℕ) → Input → Type 0
IsInputFrom name file (inputs.Accepted numbers) = IsInputOf file numbers
IsInputFrom name file (inputs.Refused line) = InputRefusal name file line
IsInputFrom name file inputs.Failed = Unit {0}

-- some content of the file explains the result; where the content is known, it is that one
pub record IsInputResult (holds : Option Content) (name : List ℕ) (input : Input) : Type 0 where
  pub file : Option (List ℕ)
  pub known : IfSome holds (λ content. content name ≡ file)
  pub result_is : IsInputFrom name file input
