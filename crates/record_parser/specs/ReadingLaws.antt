-- Laws of the reading of records.
use Rattle.std.specs.Prelude.{◌≡◌, ℕ, List, All}
use Rattle.pipe_model.specs.declared.event.Event.{Event}
use Rattle.pipe_model.specs.declared.event.Event.TheVariants.{Begin, Access, Advance, Enter, Finish, Stop}
use Rattle.pipe_model.specs.declared.node.Kind.{Kind}
use Rattle.pipe_model.specs.declared.node.Kind.TheVariants.{Zero, Wait, Continue}
use Rattle.pipe_model.specs.declared.tree.Declaration.{Declaration}
use Rattle.pipe_model.specs.Language.SourceRefusals.{IsAccepted}
use Rattle.pipe_model.specs.Language.SyntaxTree.{SyntaxTree}
use Rattle.run_record.specs.LogLines.{log_text}
use Rattle.record_parser.specs.RecordLines.{IsFirstBadLine, IsInRanges, IsRecord, lines_of}

-- a stage is entered by waiting or at once; a log has no line for another kind, which no run names
abbrev pub IsEntered : Kind → Type 0
IsEntered Zero = ⊥
IsEntered Wait = Unit {0}
IsEntered Continue = Unit {0}

-- the log has a line for the event
abbrev pub HasLine : Event → Type 0
HasLine (Begin i) = Unit {0}
HasLine (Access i a) = Unit {0}
HasLine (Advance i kind n) = IsEntered kind
HasLine (Enter i) = Unit {0}
HasLine (Finish i end) = Unit {0}
HasLine Stop = Unit {0}

-- the text of a run log of an accepted program is read as its events
abbrev pub LogsAreReadAsTheirEvents : Type 0
LogsAreReadAsTheirEvents =
    (source : List ℕ) (tree : SyntaxTree) (events others : List Event) → IsAccepted source tree → All (IsInRanges tree.cells) events
    → All HasLine events
    → IsRecord tree.cells (lines_of (log_text tree.cells events)) others → others ≡ events

-- it has no bad line
abbrev pub LogsHaveNoBadLine : Type 0
LogsHaveNoBadLine =
    (source : List ℕ) (tree : SyntaxTree) (events : List Event) (n : ℕ) → IsAccepted source tree → All (IsInRanges tree.cells) events
    → All HasLine events
    → IsFirstBadLine tree.cells (lines_of (log_text tree.cells events)) n → ⊥

-- a record of an accepted program is a record of one list of events
abbrev pub RecordsHaveOneReading : Type 0
RecordsHaveOneReading =
    (source : List ℕ) (tree : SyntaxTree) (lines : List (List ℕ)) (events others : List Event) → IsAccepted source tree
    → IsRecord tree.cells lines events
    → IsRecord tree.cells lines others → events ≡ others

-- a record has no bad line
abbrev pub RecordsHaveNoBadLine : Type 0
RecordsHaveNoBadLine =
    (cells : List Declaration) (lines : List (List ℕ)) (events : List Event) (n : ℕ) → IsRecord cells lines events
    → IsFirstBadLine cells lines n → ⊥

-- a text has one first bad line at most
abbrev pub TextsHaveOneBadLine : Type 0
TextsHaveOneBadLine =
    (cells : List Declaration) (lines : List (List ℕ)) (n m : ℕ) → IsFirstBadLine cells lines n → IsFirstBadLine cells lines m → n ≡ m
