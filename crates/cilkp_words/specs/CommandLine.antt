-- The command line: eight subcommands with their files and options, without help and version.
use Rattle.std.specs.Prelude.{true, false, List, [], ◌∷◌, ◌++◌, codes, Some}
use Rattle.clap.specs.Simple.{App, Shape, new_rule, new_shape}
use Rattle.clap.specs.Walk.{Rule, Text}
use Rattle.clap.specs.declared.builder.action.ArgAction.TheVariants.{SetTrue}

-- the name of a file, by its position among the words that are no options
abbrev pub file_rule : Text → Rule
file_rule name = record (new_rule name) { required = true }

-- an option `--NAME` with one value
abbrev pub option_rule : Text → Rule
option_rule name = record (new_rule name) { long = Some name }

-- a flag `--NAME` without a value
abbrev pub flag_rule : Text → Rule
flag_rule name = record (new_rule name) { long = Some name; action = Some SetTrue }

-- a subcommand with these arguments
abbrev pub subcommand_shape : Text → List Rule → Shape
subcommand_shape name rules = record (new_shape name) { rules = rules }

-- a subcommand with one more argument
abbrev pub with_argument : Shape → Rule → Shape
with_argument s r = record s { rules = s.rules ++ r ∷ [] }

-- run SOURCE INPUT [--workers P] [--throttle K] [--record]
abbrev pub run_shape : Shape
run_shape = subcommand_shape (codes "run") (file_rule (codes "source") ∷ file_rule (codes "input") ∷ option_rule
    (codes "workers") ∷ option_rule
    (codes "throttle") ∷ flag_rule (codes "record") ∷ [])

-- play SOURCE INPUT [--workers P] [--throttle K] [--seed n] [--record]
abbrev pub play_shape : Shape
play_shape = subcommand_shape (codes "play") (file_rule (codes "source") ∷ file_rule (codes "input") ∷ option_rule
    (codes "workers") ∷ option_rule
    (codes "throttle") ∷ option_rule (codes "seed") ∷ flag_rule (codes "record") ∷ [])

-- serial SOURCE INPUT
abbrev pub serial_shape : Shape
serial_shape = subcommand_shape (codes "serial") (file_rule (codes "source") ∷ file_rule (codes "input") ∷ [])

-- format SOURCE
abbrev pub format_shape : Shape
format_shape = subcommand_shape (codes "format") (file_rule (codes "source") ∷ [])

-- bench [--seed n] [--size m]
abbrev pub bench_shape : Shape
bench_shape = subcommand_shape (codes "bench") (option_rule (codes "seed") ∷ option_rule (codes "size") ∷ [])

-- check-record SOURCE INPUT RECORD [--throttle K]
abbrev pub check_record_shape : Shape
check_record_shape = subcommand_shape (codes "check-record")
    (file_rule (codes "source") ∷ file_rule (codes "input") ∷ file_rule (codes "record")
    ∷ option_rule (codes "throttle") ∷ [])

-- wave SOURCE INPUT [--workers P] [--throttle K]
abbrev pub wave_shape : Shape
wave_shape = subcommand_shape (codes "wave") (file_rule (codes "source") ∷ file_rule (codes "input") ∷ option_rule
    (codes "workers") ∷ option_rule
    (codes "throttle") ∷ [])

-- span SOURCE INPUT
abbrev pub span_shape : Shape
span_shape = subcommand_shape (codes "span") (file_rule (codes "source") ∷ file_rule (codes "input") ∷ [])

-- the command line without its subcommands; the name of the program is not among the words
abbrev pub bare_line : App
bare_line = record {
  top = record (new_shape (codes "cilkp")) { no_binary_name = true; disable_help_flag = true; disable_help_subcommand = true };
  subs = [];
}

-- the whole command line
abbrev pub command_line : App
command_line = record {
  top = record bare_line.top { is_leaf = false };
  subs = run_shape ∷ play_shape ∷ serial_shape ∷ format_shape ∷ bench_shape ∷ check_record_shape ∷ wave_shape ∷ span_shape ∷ [];
}
