-- Loading a source and an input, from the result of reading a whole file.
use Rattle.std.proofs.Common.{◌≡◌, ◌<◌, ℕ, ℤ, List, length, Option, Some, None, Result, Ok, Err, IfOk, IfSome, refl, ap, sym, arith}
use Rattle.std.proofs.lemmas.List.{take_all}
use Rattle.grammar_laws.proofs.SourceRefusals.{one_refusal}
use Rattle.pipe_model.specs.declared.bounds.TheConstants.{LONGEST_SOURCE}
use Rattle.pipe_model.specs.declared.memory.NoMemory.{NoMemory}
use Rattle.pipe_model.specs.Language.SourceRefusals.{ForItsText, Lexical}
use Rattle.pipe_model.specs.Language.Tokens.{IsTooLong, SourceTooLong}
use Rattle.pipe_model.specs.Texts.{refused_missing}
use Rattle.pipe_io.specs.declared.bounds.TheConstants.{LONGEST_INPUT}
use Rattle.pipe_io.specs.declared.input_fault.InputFault.{InputFault}
use Rattle.pipe_io.specs.declared.input_fault.InputFault.TheVariants as inputs
use Rattle.pipe_io.specs.InputFile as input
use Rattle.pipe_io.specs.InputFile.{IsFaultOf}
use Rattle.command_results.specs.InputLines.{IsInputLine, input_line}
use Rattle.pipe_io.specs.declared.whole.Whole.{Whole}
use Rattle.pipe_io.specs.declared.whole.Whole.TheVariants as whole
use Rattle.pipe_io.specs.Reads.{Content}
use Rattle.command_results.specs.ProgramFiles.{InputRefusal, InputMissing, IsSourceOf, NoNumbers, SourceRefusal, SourceMissing, NotAccepted}
use Rattle.pipe_model.specs.Language.SyntaxTree.{SyntaxTree}
use Rattle.command_results.specs.LoadedFiles.{AreFaulty, IsInputFrom, IsMarkedSource, IsInputResult, IsLoadOf, IsReadOf, IsSourceFrom}
use Rattle.command_results.specs.LoadedFiles.{IsSourceResult}
use Rattle.command_results.specs.declared.load.Input.{Input}
use Rattle.command_results.specs.declared.load.Input.TheVariants as loaded
use Rattle.command_results.specs.declared.load.Source.{Source}
use Rattle.command_results.specs.declared.load.Source.TheVariants as sources
use Rattle.pipe_io.specs.WholeFiles.{IsUpTo, IsWholeOf}

-- some content of the file explains the result; where the content is known, it is that one
pub record IsOfFile (holds : Option Content) (name : List ℕ) (limit : ℕ) (outcome : Whole) : Type 0 where
  pub file : Option (List ℕ)
  pub known : IfSome holds (λ content. content name ≡ file)
  pub is : IsWholeOf file limit outcome

-- a content that explains the result, if the content is not known
some_file : (limit : ℕ) (outcome : Whole) → IsUpTo limit outcome → (file : Option (List ℕ)) × IsWholeOf file limit outcome
some_file limit (whole.Bytes bytes) up = (Some bytes, (refl, up))
some_file limit (whole.TooLong bytes) up = (Some bytes, ((sym (take_all (length bytes) bytes (omega arith)), omega arith), up))
some_file limit whole.Missing up = (None, tt)
some_file limit whole.Failed up = (None, tt)

-- some content explains each result
pub of_file : (holds : Option Content) (name : List ℕ) (limit : ℕ) (outcome : Whole) → IsUpTo limit outcome
    → IfSome holds (λ content. IsWholeOf (content name) limit outcome) → IsOfFile holds name limit outcome
of_file None name limit outcome up h = let f = some_file limit outcome up in record { file = f.0; known = tt; is = f.1 }
of_file (Some content) name limit outcome up h = record { file = content name; known = refl; is = h }

-- a source with the offsets of its marks is a source
pub source_of_marked : {file : Option (List ℕ)} {tree : SyntaxTree} {places : List ℤ} → IsMarkedSource file tree places
    → IsSourceOf file tree
source_of_marked s = record { bytes = s.bytes; held = s.held; accepted = s.marked.accepted }

-- the file is missing
pub missing_is_none : (file : Option (List ℕ)) (limit : ℕ) → IsWholeOf file limit whole.Missing → file ≡ None
missing_is_none None limit h = refl
missing_is_none (Some held) limit h = absurd h

-- the file exists, and is longer than the limit
pub too_long_is_held : (file : Option (List ℕ)) (limit : ℕ) (bytes : List ℕ) → IsWholeOf file limit (whole.TooLong bytes)
    → (held : List ℕ) × (file ≡ Some held) × (limit < length held) × (limit < length bytes)
too_long_is_held None limit bytes h = absurd h
too_long_is_held (Some held) limit bytes h = (held, refl, omega (arith, h.0.1, h.1), h.1)

-- the file exists, and these are its bytes
pub bytes_are_held : (file : Option (List ℕ)) (limit : ℕ) (bytes : List ℕ) → IsWholeOf file limit (whole.Bytes bytes) → file ≡ Some bytes
bytes_are_held None limit bytes h = absurd h
bytes_are_held (Some held) limit bytes h = ap Some (sym h.0)

-- a source that is missing is refused
pub source_is_missing : (file : Option (List ℕ)) (name line : List ℕ) (limit : ℕ) → line ≡ refused_missing name
    → IsWholeOf file limit whole.Missing → SourceRefusal name file line
source_is_missing file name line limit e h = rw e (SourceMissing (missing_is_none file limit h))

-- loading a file gives the same result as loading its bytes
pub file_result : (file : Option (List ℕ)) (name bytes : List ℕ) (limit : ℕ) (source : Source) → IsWholeOf file limit (whole.Bytes bytes)
    → IsLoadOf bytes source
    → IsSourceFrom name file source
file_result file name bytes limit (sources.Accepted checked places) h g =
    record { bytes = bytes; held = bytes_are_held file limit bytes h; marked = g }
file_result file name bytes limit (sources.Refused line) h g =
    rw g.line_is (NotAccepted bytes g.refusal (bytes_are_held file limit bytes h) g.refused)
file_result file name bytes limit sources.Failed h g = absurd g

-- the result for the bytes of a file
pub source_outcome : (holds : Option Content) (name : List ℕ) (limit : ℕ) (bytes : List ℕ) (r : Result Source NoMemory)
    → IsOfFile holds name limit (whole.Bytes bytes)
    → IfOk r (λ source. IsLoadOf bytes source) → IfOk r (λ source. IsSourceResult holds name source)
source_outcome holds name limit bytes (Ok source) f g =
    record { file = f.file; known = f.known; result_is = file_result f.file name bytes limit source f.is g }
source_outcome holds name limit bytes (Err m) f g = g

-- the lexer refuses the first bytes of a source that is too long, so the source is refused
prefix_result : (file : Option (List ℕ)) (name bytes : List ℕ) (source : Source) → IsWholeOf file LONGEST_SOURCE (whole.TooLong bytes)
    → IsLoadOf bytes source
    → IsSourceFrom name file source
prefix_result file name bytes (sources.Accepted checked places) h g =
    let f = too_long_is_held file LONGEST_SOURCE bytes h in
    let short = g.accepted.spelled.lexed.short in
    absurd (omega (arith, f.3, short))
prefix_result file name bytes (sources.Refused line) h g =
    let f = too_long_is_held file LONGEST_SOURCE bytes h in
    let same : g.refusal ≡ Lexical SourceTooLong = one_refusal g.refused (ForItsText SourceTooLong (IsTooLong f.3)) in
    rw (g.line_is, same) (NotAccepted f.0 (Lexical SourceTooLong) f.1 (ForItsText SourceTooLong (IsTooLong f.2)))
prefix_result file name bytes sources.Failed h g = absurd g

-- the result of loading a source that is too long
pub long_source_outcome : (holds : Option Content) (name bytes : List ℕ) (r : Result Source NoMemory)
    → IsOfFile holds name LONGEST_SOURCE (whole.TooLong bytes)
    → IfOk r (λ source. IsLoadOf bytes source) → IfOk r (λ source. IsSourceResult holds name source)
long_source_outcome holds name bytes (Ok source) f g =
    record { file = f.file; known = f.known; result_is = prefix_result f.file name bytes source f.is g }
long_source_outcome holds name bytes (Err m) f g = g

-- an input that is missing is refused
pub input_is_missing : (file : Option (List ℕ)) (name line : List ℕ) (limit : ℕ) → line ≡ refused_missing name
    → IsWholeOf file limit whole.Missing → InputRefusal name file line
input_is_missing file name line limit e h = rw e (InputMissing (missing_is_none file limit h))

-- an input that is too long is refused
pub input_is_too_long : (file : Option (List ℕ)) (name line bytes : List ℕ) → line ≡ input_line inputs.TooLong
    → IsWholeOf file LONGEST_INPUT (whole.TooLong bytes) → InputRefusal name file line
input_is_too_long file name line bytes e h =
    let f = too_long_is_held file LONGEST_INPUT bytes h in rw e (NoNumbers f.0 inputs.TooLong f.1 (input.IsTooLong f.2))

-- loading a file gives the same result as loading its bytes
input_result : (file : Option (List ℕ)) (name bytes : List ℕ) (limit : ℕ) (input : Input) → IsWholeOf file limit (whole.Bytes bytes)
    → IsReadOf bytes input → IsInputFrom name file input
input_result file name bytes limit (loaded.Accepted numbers) h g =
    record { bytes = bytes; held = bytes_are_held file limit bytes h; read = g }
input_result file name bytes limit (loaded.Refused line) h g =
    rw g.line_is (NoNumbers bytes g.fault (bytes_are_held file limit bytes h) g.faulty)
input_result file name bytes limit loaded.Failed h g = absurd g

-- the result for the bytes of a file
pub input_outcome : (holds : Option Content) (name : List ℕ) (limit : ℕ) (bytes : List ℕ) (r : Result Input NoMemory)
    → IsOfFile holds name limit (whole.Bytes bytes)
    → IfOk r (λ input. IsReadOf bytes input) → IfOk r (λ input. IsInputResult holds name input)
input_outcome holds name limit bytes (Ok input) f g =
    record { file = f.file; known = f.known; result_is = input_result f.file name bytes limit input f.is g }
input_outcome holds name limit bytes (Err m) f g = g

-- a fault of an input
pub input_faulty : (bytes : List ℕ) (fault : InputFault) (line : List ℕ) → IsFaultOf bytes fault → IsInputLine fault line
    → AreFaulty bytes line
input_faulty bytes (inputs.BadByte place) line h e = record { fault = inputs.BadByte place; faulty = h; line_is = e }
input_faulty bytes (inputs.TooWide place) line h e = record { fault = inputs.TooWide place; faulty = h; line_is = e }
input_faulty bytes (inputs.TooMany place) line h e = record { fault = inputs.TooMany place; faulty = h; line_is = e }
input_faulty bytes inputs.TooLong line h e = record { fault = inputs.TooLong; faulty = h; line_is = e }
input_faulty bytes inputs.NoMemory line h e = absurd e
