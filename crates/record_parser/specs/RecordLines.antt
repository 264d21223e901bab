-- The lines of a record: lines of the run's outcome, and then a line for each event.
use Rattle.std.specs.Prelude.{◌≡◌, ℕ, ℤ, List, [], ◌∷◌, ◌++◌, ◌+◌, ◌<◌, ◌≤◌, ◌==◌, All, FitsSigned, if◌then◌else◌, length, slice_index_or}
use Rattle.std.specs.Prelude.{take}
use Rattle.std.specs.Fmt.{signed_decimal}
use Rattle.std.specs.List.{AllZip}
use mir.Syntax.{w64}
use Rattle.pipe_model.specs.declared.event.Event.{Event}
use Rattle.pipe_model.specs.declared.event.Event.TheVariants.{Begin, Access, Advance, Enter, Finish, Stop}
use Rattle.pipe_model.specs.declared.report.Report.{Report}
use Rattle.pipe_model.specs.declared.trap.TrapAt.{TrapAt}
use Rattle.pipe_model.specs.declared.trap.TrapPlace.{TrapPlace}
use Rattle.pipe_model.specs.declared.trap.TrapPlace.TheVariants as places
use Rattle.pipe_model.specs.declared.tree.Declaration.{Declaration}
use Rattle.pipe_model.specs.Language.CheckingRules.{cell_total}
use Rattle.pipe_model.specs.Texts.{race_line, trap_line}
use Rattle.race_report.specs.CellNames.{cell_name}
use Rattle.run_record.specs.LogLines.{log_line}
use Rattle.record_parser.specs.declared.bounds.TheConstants.{LAST_ITERATION, LONGEST_RECORD}
use Rattle.record_parser.specs.declared.fault.RecordFault.{RecordFault}
use Rattle.record_parser.specs.declared.fault.RecordFault.TheVariants as faults

-- ---- lines

abbrev pub line_feed : ℕ
line_feed = 10

-- these lines, with the byte before the first of them
abbrev pub onto_first : ℕ → List (List ℕ) → List (List ℕ)
onto_first b [] = (b ∷ []) ∷ []
onto_first b (line ∷ lines) = (b ∷ line) ∷ lines

-- the lines of a text, without their line feeds; the last one may lack its line feed
abbrev pub lines_of : List ℕ → List (List ℕ)
lines_of [] = []
lines_of (b ∷ bs) = if b == line_feed then [] ∷ lines_of bs else onto_first b (lines_of bs)

-- ---- what a line may name

-- the number of an iteration
abbrev pub IsIteration : ℕ → Type 0
IsIteration i = i ≤ LAST_ITERATION

-- a cell of the program: the input's cursor, the output, or a declared one
abbrev pub IsCell : List Declaration → ℕ → Type 0
IsCell cells c = c < cell_total cells + 2

-- the iteration, the cell and the value of an event, and its stage number, are in their ranges
abbrev pub IsInRanges : List Declaration → Event → Type 0
IsInRanges cells (Begin i) = IsIteration i
IsInRanges cells (Access i a) = IsIteration i × (IsCell cells a.cell.0 × FitsSigned w64 a.value)
IsInRanges cells (Advance i kind n) = IsIteration i × FitsSigned w64 n
IsInRanges cells (Enter i) = IsIteration i
IsInRanges cells (Finish i end) = IsIteration i
IsInRanges cells Stop = Unit {0}

-- the place of a trap is in its ranges
abbrev pub IsPlaceInRanges : TrapPlace → Type 0
IsPlaceInRanges places.Init = Unit {0}
IsPlaceInRanges (places.At node n) = IsIteration node.iteration × FitsSigned w64 n
IsPlaceInRanges places.Last = Unit {0}

-- the cell and the instances of a race are in their ranges
pub record IsReportInRanges (cells : List Declaration) (r : Report) : Type 0 where
  pub cell : IsCell cells r.cell.0
  pub earlier : IsIteration r.earlier.iteration × FitsSigned w64 r.earlier_number
  pub later : IsIteration r.later.iteration × FitsSigned w64 r.later_number

-- ---- the forms of lines

-- the line of an event, without its line feed
pub record IsLogLine (cells : List Declaration) (line : List ℕ) (e : Event) : Type 0 where
  pub text : line ++ line_feed ∷ [] ≡ log_line (cell_name cells) e
  pub ranges : IsInRanges cells e

-- a line of a run's outcome, without its line feed: an emitted number, a race or a trap
pub data IsOutcomeLine (cells : List Declaration) (line : List ℕ) : Type 0 where
  IsOutput : (v : ℤ) → FitsSigned w64 v → line ≡ signed_decimal v → IsOutcomeLine cells line
  IsRace : (r : Report) → IsReportInRanges cells r → line ++ line_feed ∷ [] ≡ race_line (cell_name cells) r → IsOutcomeLine cells line
  IsTrap : (t : TrapAt) → IsPlaceInRanges t.place → line ++ line_feed ∷ [] ≡ trap_line t → IsOutcomeLine cells line

-- ---- records

-- the lines are lines of an outcome, which are passed over, and then the lines of these events
pub record IsRecord (cells : List Declaration) (lines : List (List ℕ)) (events : List Event) : Type 0 where
  pub passed : List (List ℕ)
  pub log : List (List ℕ)
  pub parts : lines ≡ passed ++ log
  pub outcome : All (IsOutcomeLine cells) passed
  pub read : AllZip (IsLogLine cells) log events

-- the line is no log line, and, if there is no event before it, no line of an outcome
pub record CannotFollow (cells : List Declaration) (before : List Event) (line : List ℕ) : Type 0 where
  pub no_event : (e : Event) → IsLogLine cells line e → ⊥
  pub no_outcome : before ≡ [] → IsOutcomeLine cells line → ⊥

-- the first n lines are a record, and the next line cannot follow them
pub record IsFirstBadLine (cells : List Declaration) (lines : List (List ℕ)) (n : ℕ) : Type 0 where
  pub within : n < length lines
  pub before : List Event
  pub record_before : IsRecord cells (take n lines) before
  pub bad : CannotFollow cells before (slice_index_or lines n [])

-- why a text is no record
pub data IsFaultOf (cells : List Declaration) (bytes : List ℕ) : RecordFault → Type 0 where
  IsTooLong : LONGEST_RECORD < length bytes → IsFaultOf cells bytes faults.TooLong
  HasBadLine : (n : ℕ) → length bytes ≤ LONGEST_RECORD → IsFirstBadLine cells (lines_of bytes) n → IsFaultOf cells bytes (faults.BadLine n)
  IsOutOfMemory : IsFaultOf cells bytes faults.NoMemory
