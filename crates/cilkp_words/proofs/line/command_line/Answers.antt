use Rattle.clap.specs.Simple.{App, with_subcommand}
use Rattle.cilkp_words.specs.CommandLine.{bare_line, bench_shape, check_record_shape, format_shape, play_shape, run_shape, serial_shape}
use Rattle.cilkp_words.specs.CommandLine.{span_shape, wave_shape}
use Rattle.cilkp_words.proofs.line.command_line.Goals as goal

-- the command line after each of its first subcommands
abbrev one : App
one = with_subcommand bare_line run_shape

abbrev two : App
two = with_subcommand one play_shape

abbrev three : App
three = with_subcommand two serial_shape

abbrev four : App
four = with_subcommand three format_shape

abbrev five : App
five = with_subcommand four bench_shape

abbrev six : App
six = with_subcommand five check_record_shape

abbrev seven : App
seven = with_subcommand six wave_shape

pub returns : goal.returns
returns c =
    let first = c.with_command-line.ensures bare_line run_shape c.bare_line.ensures c.run.ensures.shape in
    let second = c.with_command-line-2.ensures one play_shape first c.play.ensures.shape in
    let third = c.with_command-line-3.ensures two serial_shape second c.serial.ensures.shape in
    let fourth = c.with_command-line-4.ensures three format_shape third c.format.ensures.shape in
    let fifth = c.with_command-line-5.ensures four bench_shape fourth c.bench.ensures.shape in
    let sixth = c.with_command-line-6.ensures five check_record_shape fifth c.check_record.ensures.shape in
    let seventh = c.with_command-line-7.ensures six wave_shape sixth c.wave.ensures.shape in
    c.with_command.ensures seven span_shape seventh c.span.ensures.shape
