-- Which command the words of a call ask for: `clap` states which lines it accepts, and which word each argument has.
use Rattle.std.specs.Prelude.{ℕ, ◌*◌, ◌==◌, Bool, false, List, length, map, codes, String, string_bytes, Option, None, if◌then◌else◌}
use Rattle.std.specs.Prelude.{option_and_then, option_map}
use Rattle.std.specs.Option.{option_map_or}
use Rattle.std.specs.Str.{bytes_eq}
use Rattle.std.specs.declared.alloc.Global.{Global}
use Rattle.clap.specs.Faults.{fault_of}
use Rattle.clap.specs.Simple.{subcommand_of}
use Rattle.clap.specs.Walk.{Row, Text, first_of}
use Rattle.pipe_gen.specs.declared.choices.TheConstants.{MOST_SEED}
use Rattle.pipe_gen.specs.declared.workload.TheConstants.{MOST_SIZE}
use Rattle.cilkp_words.specs.CommandLine.{command_line}
use Rattle.cilkp_words.specs.Commands.{Command, Run, Play, Serial, Format, Bench, CheckRecord, Wave, Span}
use Rattle.cilkp_words.specs.OptionNumbers.{number_or}
use Rattle.cilkp_words.specs.declared.ranges.TheConstants.{DEFAULT_SEED, DEFAULT_SIZE, DEFAULT_WORKERS, MOST_THROTTLE, MOST_WORKERS}
use Rattle.cilkp_words.specs.declared.ranges.TheConstants.{THROTTLE_PER_WORKER}

-- the words of a call, as bytes
abbrev pub words_of : List (String Global) → List Text
words_of words = map string_bytes words

-- ---- the options, each of which several subcommands have; none if a number is not plain or out of its range

abbrev pub workers_of : List Row → Option ℕ
workers_of rows = number_or DEFAULT_WORKERS 1 MOST_WORKERS (first_of (codes "workers") rows)

abbrev pub throttle_of : (workers : ℕ) → List Row → Option ℕ
throttle_of workers rows = number_or (THROTTLE_PER_WORKER * workers) 1 MOST_THROTTLE (first_of (codes "throttle") rows)

abbrev pub seed_of : List Row → Option ℕ
seed_of rows = number_or DEFAULT_SEED 0 MOST_SEED (first_of (codes "seed") rows)

-- the flag `--record` is given: its text is then `true`
abbrev pub records : List Row → Bool
records rows = option_map_or (λ text. bytes_eq text (codes "true")) (first_of (codes "record") rows) false

-- ---- the arguments that several subcommands have

-- the names of the source and the input
abbrev pub files_of : List Row → Option (Text × Text)
files_of rows = option_and_then (λ source. option_map (λ input. (source, input)) (first_of (codes "input") rows))
    (first_of (codes "source") rows)

-- how many workers run a loop, and how many of its iterations are alive
abbrev pub sizes_of : List Row → Option (ℕ × ℕ)
sizes_of rows = option_and_then (λ workers. option_map (λ throttle. (workers, throttle)) (throttle_of workers rows)) (workers_of rows)

-- the files of a run, and its sizes
abbrev pub run_words_of : List Row → Option ((Text × Text) × (ℕ × ℕ))
run_words_of rows = option_and_then (λ files. option_map (λ sizes. (files, sizes)) (sizes_of rows)) (files_of rows)

-- ---- the command of each subcommand, by the words of its arguments

abbrev pub run_of : List Row → Option Command
run_of rows = option_map (λ w. Run w.0.0 w.0.1 w.1.0 w.1.1 (records rows)) (run_words_of rows)

abbrev pub play_of : List Row → Option Command
play_of rows = option_and_then (λ w. option_map (λ seed. Play w.0.0 w.0.1 w.1.0 w.1.1 seed (records rows)) (seed_of rows))
    (run_words_of rows)

abbrev pub wave_of : List Row → Option Command
wave_of rows = option_map (λ w. Wave w.0.0 w.0.1 w.1.0 w.1.1) (run_words_of rows)

abbrev pub serial_of : List Row → Option Command
serial_of rows = option_map (λ files. Serial files.0 files.1) (files_of rows)

abbrev pub span_of : List Row → Option Command
span_of rows = option_map (λ files. Span files.0 files.1) (files_of rows)

abbrev pub format_of : List Row → Option Command
format_of rows = option_map (λ source. Format source) (first_of (codes "source") rows)

abbrev pub bench_of : List Row → Option Command
bench_of rows = option_and_then (λ seed. option_map (λ size. Bench seed size)
    (number_or DEFAULT_SIZE 1 MOST_SIZE (first_of (codes "size") rows))) (seed_of rows)

-- a record may be of a run under any throttling limit, so the greatest one is the default
abbrev pub check_record_of : List Row → Option Command
check_record_of rows = option_and_then (λ files. option_and_then (λ saved.
    option_map (λ throttle. CheckRecord files.0 files.1 saved throttle)
    (number_or MOST_THROTTLE 1 MOST_THROTTLE (first_of (codes "throttle") rows)))
    (first_of (codes "record") rows)) (files_of rows)

-- ---- the command of a whole line

-- the command of the subcommand with this name
abbrev pub command_named : Text → List Row → Option Command
command_named name rows =
    if bytes_eq name (codes "run") then run_of rows
    else (if bytes_eq name (codes "play") then play_of rows
    else (if bytes_eq name (codes "serial") then serial_of rows
    else (if bytes_eq name (codes "format") then format_of rows
    else (if bytes_eq name (codes "bench") then bench_of rows
    else (if bytes_eq name (codes "check-record") then check_record_of rows
    else (if bytes_eq name (codes "wave") then wave_of rows
    else (if bytes_eq name (codes "span") then span_of rows else None)))))))

-- the command that the words ask for, if they are one: the command line accepts them, and their subcommand has a command
abbrev pub command_of : List Text → Option Command
command_of words =
    if length (fault_of command_line words) == 0 then option_and_then (λ p. command_named p.0 p.1)
    (subcommand_of command_line words) else None
