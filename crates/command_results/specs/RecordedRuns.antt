-- Runs whose log may be printed after their text.
use Rattle.std.specs.Prelude.{◌≡◌, ◌++◌, ℕ, ℤ, List, Bool, true, false, length, Option, Some, IfSome}
use Rattle.pipe_gen.specs.declared.choices.TheConstants.{MOST_INDEX}
use Rattle.pipe_io.specs.Reads.{Content}
use Rattle.pipe_model.specs.declared.event.Event.{Event}
use Rattle.pipe_model.specs.declared.event.RunLog.{RunLog}
use Rattle.pipe_model.specs.declared.report.Report.{Report}
use Rattle.pipe_model.specs.declared.tree.Declaration.{Declaration}
use Rattle.pipe_model.specs.Language.ProgramsOfTrees.{whole_of}
use Rattle.pipe_model.specs.Language.SyntaxTree.{SyntaxTree}
use Rattle.pipe_model.specs.Runs.RunLogs.{state_after}
use Rattle.pipe_model.specs.Runs.WholeProgramRuns.{ProgramIsFinished}
use Rattle.run_record.specs.LogLines.{log_text}
use Rattle.schedule_play.specs.ProgramPlays.{enough_turns, played_events}
use Rattle.schedule_play.specs.SeedChoices.{first_choices}
use Rattle.cilkp_words.specs.Commands.{Command, Play}
use Rattle.command_results.specs.Headline.{IsRunStatus, MeetsHeadline}
use Rattle.command_results.specs.ProgramFiles.{IsInputOf, IsSourceOf}
use Rattle.command_results.specs.TakenText.{HasTaken}

-- the text of a run, followed by the lines of its log if they are asked for
abbrev pub recorded : Bool → List Declaration → RunLog → List ℕ → List ℕ
recorded false cells log text = text
recorded true cells log text = text ++ log_text cells log.events

-- the text of a run that meets the headline, with the lines of its log if they are asked for
pub record IsRecordedRun (recording : Bool) (tree : SyntaxTree) (input : List ℤ) (limit : ℕ) (log : RunLog) (reports : List Report)
    (status : ℕ) (text : List ℕ)
    : Type 0 where
  pub outcome : List ℕ
  pub text_is : text ≡ recorded recording tree.cells log outcome
  pub meets : MeetsHeadline tree input limit log reports status outcome

-- the events of the schedule that the choices of a seed make
abbrev pub seeded_events : SyntaxTree → List ℤ → (workers throttle seed : ℕ) → List Event
seeded_events tree input workers throttle seed = played_events tree input workers throttle (first_choices seed MOST_INDEX)
    (enough_turns tree)

-- the command is `play` with a source that is accepted as the program, an input of these numbers, and these options
pub record IsToPlay (asked : Option Command) (content : Content) (tree : SyntaxTree) (numbers : List ℤ)
    (workers throttle seed : ℕ) : Type 0 where
  pub source : List ℕ
  pub input : List ℕ
  pub recording : Bool
  pub command : asked ≡ Some (Play source input workers throttle seed recording)
  pub program : IsSourceOf (content source) tree
  pub read : IsInputOf (content input) numbers

-- the log has the events of the schedule
abbrev pub HasSeededEvents : (tree : SyntaxTree) (input : List ℤ) (workers throttle seed : ℕ) → Option RunLog → Type 0
HasSeededEvents tree input workers throttle seed log = IfSome log (λ l. l.events ≡ seeded_events tree input workers throttle seed)

-- the log is there, and its run is finished
pub record IsFinishedLog (tree : SyntaxTree) (input : List ℤ) (run_log : Option RunLog) : Type 0 where
  pub log : RunLog
  pub logged : run_log ≡ Some log
  pub finished : ProgramIsFinished (whole_of tree input) (state_after log.events)

-- the call returned the log of a run that meets the headline under the throttling limit, and its text, with the lines of the log if they
-- are asked for, was written completely. An accepted program has no other result on its input
pub record ReturnsRun (recording : Bool) (tree : SyntaxTree) (numbers : List ℤ) (limit status written : ℕ) (run_log : Option RunLog)
    (reports : List Report)
    (taken_before taken_now : Option (List ℕ)) : Type 0 where
  pub log : RunLog
  pub logged : run_log ≡ Some log
  pub text : List ℕ
  pub whole : written ≡ length text
  pub taken : HasTaken written text taken_before taken_now
  pub complete : IsRunStatus status
  pub meets : IsRecordedRun recording tree numbers limit log reports status text
