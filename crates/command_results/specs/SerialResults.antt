-- The serial elision of a program on an input: its output, its trap, its dag, its races, and what is printed for it.
use Rattle.std.specs.Prelude.{◌≡◌, ℕ, ℤ, ◌++◌, List, [], map, Option, Some, None}
use Rattle.pipe_model.specs.declared.access.NodeAccess.{NodeAccess}
use Rattle.pipe_model.specs.declared.event.RunLog.{RunLog}
use Rattle.pipe_model.specs.declared.node.Node.{Node}
use Rattle.pipe_model.specs.declared.report.Report.{Report}
use Rattle.pipe_model.specs.declared.trap.TrapAt.{TrapAt}
use Rattle.pipe_model.specs.Races.DeterminacyRaces.{IsRaceFree}
use Rattle.pipe_model.specs.Races.FirstRaces.{AreFirstRaces}
use Rattle.pipe_model.specs.Pipelines.Behaviour.{column_of}
use Rattle.pipe_model.specs.Pipelines.WholePrograms.{loop_accesses, loop_traces, program_log, program_output, program_trap}
use Rattle.pipe_model.specs.Language.ProgramsOfTrees.{whole_of}
use Rattle.pipe_model.specs.Language.SyntaxTree.{SyntaxTree}
use Rattle.pipe_model.specs.Texts.{output_lines, trap_line}
use Rattle.race_report.specs.CellNames.{race_lines}
use Rattle.pipe_model.specs.declared.exit_status.TheConstants as statuses

abbrev pub elision_output : SyntaxTree → List ℤ → List ℤ
elision_output tree input = program_output (whole_of tree input)

abbrev pub elision_output_text : SyntaxTree → List ℤ → List ℕ
elision_output_text tree input = output_lines (elision_output tree input)

abbrev pub elision_trap : SyntaxTree → List ℤ → Option TrapAt
elision_trap tree input = program_trap (whole_of tree input)

-- the columns of its loop
abbrev pub elision_columns : SyntaxTree → List ℤ → List (List Node)
elision_columns tree input = map column_of (loop_traces (whole_of tree input))

-- the accesses of its loop; accesses of `init` and `final` cannot race
abbrev pub elision_accesses : SyntaxTree → List ℤ → List NodeAccess
elision_accesses tree input = loop_accesses (whole_of tree input)

-- the elision as a run
abbrev pub elision_log : SyntaxTree → List ℤ → RunLog
elision_log tree input = program_log (whole_of tree input)

abbrev pub ElisionHasNoRace : SyntaxTree → List ℤ → Type 0
ElisionHasNoRace tree input = IsRaceFree (elision_columns tree input) (elision_accesses tree input)

-- the status, the text and the reports of the elision: if its dag has a race, status 2 and the first race of each cell; otherwise its
-- output with status 0, or its output and its trap with status 3
pub data ElisionResult (tree : SyntaxTree) (input : List ℤ) : ℕ → List ℕ → List Report → Type 0 where
  Races : (reports : List Report) → (ElisionHasNoRace tree input → ⊥) → AreFirstRaces (elision_columns tree input)
      (elision_accesses tree input) reports
      → ElisionResult tree input statuses.RACES (race_lines tree.cells reports) reports
  Finishes : ElisionHasNoRace tree input → elision_trap tree input ≡ None
      → ElisionResult tree input statuses.FINISHED (elision_output_text tree input) []
  Traps : (t : TrapAt) → ElisionHasNoRace tree input → elision_trap tree input ≡ Some t
      → ElisionResult tree input statuses.TRAPPED (elision_output_text tree input ++ trap_line t) []
