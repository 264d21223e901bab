-- What `bench` runs, and the summary that it prints.
use Rattle.std.specs.Prelude.{ℕ, ℤ, pos, ◌-◌, List, ◌++◌, length, Option, Some, None, slice_get, codes}
use Rattle.std.specs.Fmt.{decimal, signed_decimal}
use Rattle.pipe_gen.specs.Workload.{input_text, source_text}
use Rattle.pipe_io.specs.InputFile.{AreNumbersOf}
use Rattle.pipe_model.specs.Language.SourceRefusals.{IsAccepted}
use Rattle.pipe_model.specs.Language.SyntaxTree.{SyntaxTree}
use Rattle.schedule_laws.specs.StartCounts.{instances_in}
use Rattle.command_results.specs.SerialResults.{elision_columns, elision_output}

-- the program and the input numbers of the generated source and input
pub record IsGenerated (seed size : ℕ) (tree : SyntaxTree) (numbers : List ℤ) : Type 0 where
  pub program : IsAccepted (source_text size) tree
  pub read : AreNumbersOf (input_text seed size) numbers

-- the number, or 0 if there is none
abbrev pub number_or_zero : Option ℤ → ℤ
number_or_zero None = pos 0
number_or_zero (Some number) = number

-- the last number of a list, or 0 if it is empty
abbrev pub last_or_zero : List ℤ → ℤ
last_or_zero numbers = number_or_zero (slice_get numbers (length numbers - 1))

-- the line of a run: its workers, and the last number of its output
abbrev pub run_line : (workers : ℕ) (last : ℤ) → List ℕ
run_line workers last = codes "workers " ++ (decimal workers ++ (codes " last " ++ (signed_decimal last ++ codes "\n")))

-- the four lines of a summary: the items, the stage instances, and the lines of two runs
abbrev pub summary_text : (items instances workers : ℕ) (last : ℤ) (other_workers : ℕ) (other_last : ℤ) → List ℕ
summary_text items instances workers last other_workers other_last =
    (codes "items " ++ (decimal items ++ (codes "\ninstances " ++ (decimal instances ++ codes "\n"))) ++ run_line workers last)
    ++ run_line other_workers other_last

-- the summary of a program and its input: its items, the stage instances of its serial elision, and the last number of the elision's
-- output, or 0, for a run with 1 worker and one with 8
abbrev pub elision_summary : SyntaxTree → List ℤ → List ℕ
elision_summary tree numbers =
    summary_text (length numbers) (instances_in (elision_columns tree numbers)) 1 (last_or_zero (elision_output tree numbers))
    8 (last_or_zero (elision_output tree numbers))
