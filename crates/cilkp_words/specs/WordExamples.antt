-- Worked command lines.
use Rattle.std.specs.Prelude.{◌≡◌, ℕ, ◌==◌, true, false, List, [], ◌∷◌, codes, Some, None, if◌then◌else◌}
use Rattle.clap.specs.Walk.{Text}
use Rattle.cilkp_words.specs.Commands.{Command, Run, Play, Serial, Format, Bench, CheckRecord, Wave, Span}
use Rattle.cilkp_words.specs.CommandWords.{command_of}

-- ---- the words of a line

-- the byte between two words
abbrev pub space : ℕ
space = 32

-- the first word with one more byte before it
abbrev pub with_byte : ℕ → List Text → List Text
with_byte b [] = (b ∷ []) ∷ []
with_byte b (word ∷ words) = (b ∷ word) ∷ words

-- the words of a line, each after one space; a line has at least one word, which may be empty
abbrev pub words_in : Text → List Text
words_in [] = [] ∷ []
words_in (b ∷ bs) = if b == space then [] ∷ words_in bs else with_byte b (words_in bs)

-- the words of the line ask for this command
abbrev pub Asks : Text → Command → Type 0
Asks line command = command_of (words_in line) ≡ Some command

-- the words of the line are no command
abbrev pub AsksNothing : Text → Type 0
AsksNothing line = command_of (words_in line) ≡ None

-- ---- the lines

-- an option's value is the next word, or joined by `=`; options may be anywhere among the files
abbrev pub SeparateAndJoinedValues : Type 0
SeparateAndJoinedValues =
    Asks (codes "run a b") (Run (codes "a") (codes "b") 4 16 false)
    × Asks (codes "run --workers 8 a b") (Run (codes "a") (codes "b") 8 32 false)
    × Asks (codes "run a --workers 8 b") (Run (codes "a") (codes "b") 8 32 false)
    × Asks (codes "run a b --workers 8") (Run (codes "a") (codes "b") 8 32 false)
    × Asks (codes "run --workers=8 a b") (Run (codes "a") (codes "b") 8 32 false)
    × Asks (codes "run a --workers=8 b") (Run (codes "a") (codes "b") 8 32 false)
    × Asks (codes "run a b --workers=8") (Run (codes "a") (codes "b") 8 32 false)
    × Asks (codes "run a b --throttle 3") (Run (codes "a") (codes "b") 4 3 false)
    × Asks (codes "run --workers=8 a --throttle 3 b") (Run (codes "a") (codes "b") 8 3 false)
    × Asks (codes "run --throttle=3 --workers 8 a b") (Run (codes "a") (codes "b") 8 3 false)

-- an option before the command, twice, without a value, abbreviated, or of another command is refused
abbrev pub MisplacedOptions : Type 0
MisplacedOptions =
    AsksNothing (codes "--workers 4 run a b")
    × AsksNothing (codes "run a b --workers 8 --workers 8")
    × AsksNothing (codes "run --workers=8 a b --workers 9")
    × AsksNothing (codes "run a b --workers")
    × AsksNothing (codes "run a b --workers --throttle 8")
    × AsksNothing (codes "run a b --workers -- 8")
    × AsksNothing (codes "run a b --worker 8")
    × AsksNothing (codes "run a b -w 8")
    × AsksNothing (codes "run a b --seed 1")
    × AsksNothing (codes "serial a b --workers 4")

-- a number is plain decimal and within its range
abbrev pub OptionNumbers : Type 0
OptionNumbers =
    Asks (codes "run a b --workers 1") (Run (codes "a") (codes "b") 1 4 false)
    × Asks (codes "run a b --workers 64") (Run (codes "a") (codes "b") 64 256 false)
    × AsksNothing (codes "run a b --workers 0")
    × AsksNothing (codes "run a b --workers 65")
    × AsksNothing (codes "run a b --workers 08")
    × AsksNothing (codes "run a b --workers +8")
    × AsksNothing (codes "run a b --workers -5")
    × AsksNothing (codes "run a b --workers=-5")
    × AsksNothing (codes "run a b --workers=")
    × AsksNothing (codes "run a b --workers 8x")
    × Asks (codes "run a b --throttle 1") (Run (codes "a") (codes "b") 4 1 false)
    × Asks (codes "run a b --throttle 1024") (Run (codes "a") (codes "b") 4 1024 false)
    × AsksNothing (codes "run a b --throttle 0")
    × AsksNothing (codes "run a b --throttle 1025")
    × AsksNothing (codes "run a b --throttle 18446744073709551620")

-- words after `--` are file names, and so are `-` and the empty word; another word with `-` first is not
abbrev pub FileNames : Type 0
FileNames =
    Asks (codes "run -- a --workers") (Run (codes "a") (codes "--workers") 4 16 false)
    × Asks (codes "run a -- b") (Run (codes "a") (codes "b") 4 16 false)
    × Asks (codes "run a b --") (Run (codes "a") (codes "b") 4 16 false)
    × Asks (codes "run -- -x b") (Run (codes "-x") (codes "b") 4 16 false)
    × Asks (codes "run - b") (Run (codes "-") (codes "b") 4 16 false)
    × Asks (codes "run  b") (Run (codes "") (codes "b") 4 16 false)
    × Asks (codes "run a ") (Run (codes "a") (codes "") 4 16 false)
    × AsksNothing (codes "-- run a b")
    × AsksNothing (codes "run -x b")
    × AsksNothing (codes "run a b -x")
    × AsksNothing (codes "run")
    × AsksNothing (codes "run a")
    × AsksNothing (codes "run a b c")

-- no command, and a call for help or a version
abbrev pub CallsForHelp : Type 0
CallsForHelp =
    (command_of [] ≡ None)
    × AsksNothing (codes "")
    × AsksNothing (codes "a")
    × AsksNothing (codes "help")
    × AsksNothing (codes "--help")
    × AsksNothing (codes "-h")
    × AsksNothing (codes "--version")
    × AsksNothing (codes "-V")
    × AsksNothing (codes "run --help")
    × AsksNothing (codes "run a b -h")
    × AsksNothing (codes "help run")

-- the commands `serial`, `span`, `format` and `bench`
abbrev pub OtherCommands : Type 0
OtherCommands =
    Asks (codes "serial a b") (Serial (codes "a") (codes "b"))
    × AsksNothing (codes "serial a")
    × Asks (codes "span a b") (Span (codes "a") (codes "b"))
    × AsksNothing (codes "span a")
    × Asks (codes "format a") (Format (codes "a"))
    × AsksNothing (codes "format")
    × AsksNothing (codes "format a b")
    × Asks (codes "bench") (Bench 1 1000)
    × Asks (codes "bench --seed 0 --size 1") (Bench 0 1)
    × Asks (codes "bench --size=40000 --seed=65535") (Bench 65535 40000)
    × AsksNothing (codes "bench --seed 65536")
    × AsksNothing (codes "bench --size 0")
    × AsksNothing (codes "bench --size 40001")
    × AsksNothing (codes "bench a")

-- the command `play`: `run` with a seed, from 0 to 65,535
abbrev pub PlayedLines : Type 0
PlayedLines =
    Asks (codes "play a b") (Play (codes "a") (codes "b") 4 16 1 false)
    × Asks (codes "play a b --seed 0 --record") (Play (codes "a") (codes "b") 4 16 0 true)
    × Asks (codes "play a b --seed=65535 --workers 2 --throttle 3") (Play (codes "a") (codes "b") 2 3 65535 false)
    × Asks (codes "play --workers 64 a --seed 7 b") (Play (codes "a") (codes "b") 64 256 7 false)
    × AsksNothing (codes "play a")
    × AsksNothing (codes "play a b c")
    × AsksNothing (codes "play a b --seed")
    × AsksNothing (codes "play a b --seed 65536")
    × AsksNothing (codes "play a b --seed 01")
    × AsksNothing (codes "play a b --seed 1 --seed 1")
    × AsksNothing (codes "play a b --workers 65")
    × AsksNothing (codes "play a b --throttle 1025")
    × AsksNothing (codes "play a b --size 1")

-- the flag `--record` of `run` and `play` may be anywhere among the files, once, and has no value
abbrev pub RecordedLines : Type 0
RecordedLines =
    Asks (codes "run a b --record") (Run (codes "a") (codes "b") 4 16 true)
    × Asks (codes "run --record a b") (Run (codes "a") (codes "b") 4 16 true)
    × Asks (codes "run a --record b --workers 8") (Run (codes "a") (codes "b") 8 32 true)
    × Asks (codes "play --record a b") (Play (codes "a") (codes "b") 4 16 1 true)
    × Asks (codes "run a -- --record") (Run (codes "a") (codes "--record") 4 16 false)
    × AsksNothing (codes "run a b --record --record")
    × AsksNothing (codes "run a b --record=true")
    × AsksNothing (codes "run a b --record true")
    × AsksNothing (codes "play a b --record --record")
    × AsksNothing (codes "--record run a b")
    × AsksNothing (codes "serial a b --record")
    × AsksNothing (codes "format a --record")
    × AsksNothing (codes "bench --record")

-- the command `check-record`: the throttling limit is 1,024 unless it is given
abbrev pub CheckedLines : Type 0
CheckedLines =
    Asks (codes "check-record a b c") (CheckRecord (codes "a") (codes "b") (codes "c") 1024)
    × Asks (codes "check-record a --throttle 3 b c") (CheckRecord (codes "a") (codes "b") (codes "c") 3)
    × AsksNothing (codes "check-record a b")
    × AsksNothing (codes "check-record a b c d")
    × AsksNothing (codes "check-record a b c --throttle 1025")
    × AsksNothing (codes "check-record a b c --workers 1")
    × AsksNothing (codes "check_record a b c")

-- the command `wave`: `run` without `--record`
abbrev pub WaveLines : Type 0
WaveLines =
    Asks (codes "wave a b") (Wave (codes "a") (codes "b") 4 16)
    × Asks (codes "wave a --workers 8 b --throttle=2") (Wave (codes "a") (codes "b") 8 2)
    × AsksNothing (codes "wave a")
    × AsksNothing (codes "wave a b c")
    × AsksNothing (codes "wave a b --record")
    × AsksNothing (codes "wave a b --seed 1")
    × AsksNothing (codes "wave a b --workers 65")
