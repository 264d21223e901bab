-- What a file holds is refused with one line, or accepted as one program or one list of numbers.
use Rattle.std.proofs.Common.{◌≡◌, ◌∙◌, ℕ, ℤ, List, Option, Some, None, refl, ap, sym}
use Rattle.pipe_model.specs.Language.SyntaxTree.{SyntaxTree}
use Rattle.pipe_model.specs.Texts.{refusal_line}
use Rattle.grammar_laws.proofs.SourceRefusals.{one_accepted, one_refusal, refused_not_accepted}
use Rattle.command_results.specs.InputLines.{input_line}
use Rattle.pipe_io.proofs.OneFault.{numbers_have_no_fault, one_fault}
use Rattle.pipe_io.proofs.OneReading.{one_reading}
use Rattle.command_results.specs.ProgramFiles.{IsInputOf, IsSourceOf, SourceRefusal, SourceMissing, NotAccepted, InputRefusal, InputMissing}
use Rattle.command_results.specs.ProgramFiles.{NoNumbers}

-- a file that is missing has no content
pub missing_not_held : (file : Option (List ℕ)) (bytes : List ℕ) → file ≡ None → file ≡ Some bytes → ⊥
missing_not_held file bytes m h = let e : None ≡ Some bytes = sym m ∙ h in cc (e)

-- the content of a file is unique
pub one_held : (file : Option (List ℕ)) (bytes others : List ℕ) → file ≡ Some bytes → file ≡ Some others → bytes ≡ others
one_held file bytes others h g = let e : Some bytes ≡ Some others = sym h ∙ g in cc (e)

-- a source has at most one line of refusal
pub one_source_refusal : {file : Option (List ℕ)} {name text other : List ℕ} → SourceRefusal name file text → SourceRefusal name file other
    → text ≡ other
one_source_refusal (SourceMissing m) (SourceMissing m') = refl
one_source_refusal (SourceMissing m) (NotAccepted bytes refusal h r) = absurd (missing_not_held _ bytes m h)
one_source_refusal (NotAccepted bytes refusal h r) (SourceMissing m) = absurd (missing_not_held _ bytes m h)
one_source_refusal (NotAccepted bytes refusal h r) (NotAccepted bytes' refusal' h' r') =
    let same : bytes' ≡ bytes = one_held _ bytes' bytes h' h in ap refusal_line (one_refusal r (rw same at r'))

-- a source that is refused is not accepted
pub refused_not_accepted_file : {file : Option (List ℕ)} {name text : List ℕ} (tree : SyntaxTree) → SourceRefusal name file text
    → IsSourceOf file tree → ⊥
refused_not_accepted_file tree (SourceMissing m) s = missing_not_held _ s.bytes m s.held
refused_not_accepted_file tree (NotAccepted bytes refusal h r) s =
    let same : s.bytes ≡ bytes = one_held _ s.bytes bytes s.held h in refused_not_accepted tree r (rw same at s.accepted)

-- an input has at most one line of refusal
pub one_input_refusal : {file : Option (List ℕ)} {name text other : List ℕ} → InputRefusal name file text → InputRefusal name file other
    → text ≡ other
one_input_refusal (InputMissing m) (InputMissing m') = refl
one_input_refusal (InputMissing m) (NoNumbers bytes fault h f) = absurd (missing_not_held _ bytes m h)
one_input_refusal (NoNumbers bytes fault h f) (InputMissing m) = absurd (missing_not_held _ bytes m h)
one_input_refusal (NoNumbers bytes fault h f) (NoNumbers bytes' fault' h' f') =
    let same : bytes' ≡ bytes = one_held _ bytes' bytes h' h in ap input_line (one_fault f (rw same at f'))

-- an input that is refused is not a list of numbers
pub refused_no_input : {file : Option (List ℕ)} {name text : List ℕ} (numbers : List ℤ) → InputRefusal name file text
    → IsInputOf file numbers → ⊥
refused_no_input numbers (InputMissing m) s = missing_not_held _ s.bytes m s.held
refused_no_input numbers (NoNumbers bytes fault h f) s =
    let same : s.bytes ≡ bytes = one_held _ s.bytes bytes s.held h in numbers_have_no_fault f (rw same at s.read)

-- a file is at most one list of numbers
pub one_input : {file : Option (List ℕ)} (numbers others : List ℤ) → IsInputOf file numbers → IsInputOf file others → numbers ≡ others
one_input numbers others s o =
    let same : o.bytes ≡ s.bytes = one_held _ o.bytes s.bytes o.held s.held in
    one_reading s.bytes numbers others s.read (rw same at o.read)

-- a file is the source of at most one program
pub one_source : {file : Option (List ℕ)} (tree other : SyntaxTree) → IsSourceOf file tree → IsSourceOf file other → tree ≡ other
one_source tree other s o =
    let same : o.bytes ≡ s.bytes = one_held _ o.bytes s.bytes o.held s.held in
    one_accepted s.bytes tree other s.accepted (rw same at o.accepted)
