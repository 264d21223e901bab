-- The files that a command names, and what it keeps of a run.
use Rattle.std.specs.Prelude.{◌≡◌, ℕ, List, Bool, true, false, Option, Some, None, option_and_then}
use Rattle.pipe_model.specs.Language.SyntaxTree.{SyntaxTree}
use Rattle.wave_laws.specs.Waves.LoweredLoops.{lowered}
use Rattle.wave_laws.specs.Waves.WaveFaults.{wave_fault}
use Rattle.cilkp_words.specs.Commands.{Command, Run, Play, Serial, Format, Bench, CheckRecord, Wave, Span}

-- the name of the command's source; none if it has no files
abbrev pub source_in : Command → Option (List ℕ)
source_in (Run source input workers throttle recording) = Some source
source_in (Play source input workers throttle seed recording) = Some source
source_in (Serial source input) = Some source
source_in (Format source) = Some source
source_in (Bench seed size) = None
source_in (CheckRecord source input saved throttle) = Some source
source_in (Wave source input workers throttle) = Some source
source_in (Span source input) = Some source

-- the name of the command's input; none if it has no input
abbrev pub input_in : Command → Option (List ℕ)
input_in (Run source input workers throttle recording) = Some input
input_in (Play source input workers throttle seed recording) = Some input
input_in (Serial source input) = Some input
input_in (Format source) = None
input_in (Bench seed size) = None
input_in (CheckRecord source input saved throttle) = Some input
input_in (Wave source input workers throttle) = Some input
input_in (Span source input) = Some input

-- the name of the saved run log that the command checks; none if it checks none
abbrev pub record_in : Command → Option (List ℕ)
record_in (Run source input workers throttle recording) = None
record_in (Play source input workers throttle seed recording) = None
record_in (Serial source input) = None
record_in (Format source) = None
record_in (Bench seed size) = None
record_in (CheckRecord source input saved throttle) = Some saved
record_in (Wave source input workers throttle) = None
record_in (Span source input) = None

-- whether the command returns the log of a run, if it is not refused
abbrev pub keeps_log : Command → Bool
keeps_log (Run source input workers throttle recording) = true
keeps_log (Play source input workers throttle seed recording) = true
keeps_log (Serial source input) = false
keeps_log (Format source) = false
keeps_log (Bench seed size) = false
keeps_log (CheckRecord source input saved throttle) = true
keeps_log (Wave source input workers throttle) = true
keeps_log (Span source input) = false

-- whether the command is `run` or `wave`, of whose runs no clause picks one
abbrev pub is_run : Command → Bool
is_run (Run source input workers throttle recording) = true
is_run (Play source input workers throttle seed recording) = false
is_run (Serial source input) = false
is_run (Format source) = false
is_run (Bench seed size) = false
is_run (CheckRecord source input saved throttle) = false
is_run (Wave source input workers throttle) = true
is_run (Span source input) = false

-- the words are a command with this source
abbrev pub NamesSource : Option Command → List ℕ → Type 0
NamesSource asked name = option_and_then source_in asked ≡ Some name

-- the words are a command with this input
abbrev pub NamesInput : Option Command → List ℕ → Type 0
NamesInput asked name = option_and_then input_in asked ≡ Some name

-- the words are a command that checks this record
abbrev pub NamesRecord : Option Command → List ℕ → Type 0
NamesRecord asked name = option_and_then record_in asked ≡ Some name

-- the words are a command that returns the log of a run
abbrev pub KeepsLog : Option Command → Type 0
KeepsLog None = ⊥
KeepsLog (Some command) = keeps_log command ≡ true

-- the words are a `run` or a `wave` command
abbrev pub AsksRun : Option Command → Type 0
AsksRun None = ⊥
AsksRun (Some command) = is_run command ≡ true

-- the throttling limit of `run` and `play`
abbrev pub throttle_in : Command → Option ℕ
throttle_in (Run source input workers throttle recording) = Some throttle
throttle_in (Play source input workers throttle seed recording) = Some throttle
throttle_in (Serial source input) = None
throttle_in (Format source) = None
throttle_in (Bench seed size) = None
throttle_in (CheckRecord source input saved throttle) = None
throttle_in (Wave source input workers throttle) = None
throttle_in (Span source input) = None

-- the words are a `run` or a `play` command with this throttling limit
abbrev pub RunsUnder : Option Command → ℕ → Type 0
RunsUnder asked throttle = option_and_then throttle_in asked ≡ Some throttle

-- whether the lines of the run log follow the text of the command
abbrev pub records : Command → Bool
records (Run source input workers throttle recording) = recording
records (Play source input workers throttle seed recording) = recording
records (Serial source input) = false
records (Format source) = false
records (Bench seed size) = false
records (CheckRecord source input saved throttle) = false
records (Wave source input workers throttle) = false
records (Span source input) = false

abbrev pub asks_record : Option Command → Bool
asks_record None = false
asks_record (Some command) = records command

-- whether the command takes its source as a wave loop
abbrev pub is_wave : Command → Bool
is_wave (Run source input workers throttle recording) = false
is_wave (Play source input workers throttle seed recording) = false
is_wave (Serial source input) = false
is_wave (Format source) = false
is_wave (Bench seed size) = false
is_wave (CheckRecord source input saved throttle) = false
is_wave (Wave source input workers throttle) = true
is_wave (Span source input) = false

abbrev pub asks_wave : Option Command → Bool
asks_wave None = false
asks_wave (Some command) = is_wave command

-- the program that is run: a wave loop is lowered first
abbrev pub program_by : (wave : Bool) → SyntaxTree → SyntaxTree
program_by false tree = tree
program_by true tree = lowered tree

-- the program can be run: it is a wave loop, if it is taken as one
abbrev pub CanRunBy : (wave : Bool) → SyntaxTree → Type 0
CanRunBy wave tree = wave ≡ true → wave_fault tree ≡ None
