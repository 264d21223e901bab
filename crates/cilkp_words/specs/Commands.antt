-- The commands, as plain data.
use Rattle.std.specs.Prelude.{ℕ, Bool}
use Rattle.clap.specs.Walk.{Text}
use Rattle.cilkp_words.specs.declared.commands.Command.{Command as RustCommand}
use Rattle.cilkp_words.specs.declared.commands.Command.TheVariants as commands

pub data Command : Type 0 where
  Run : (source input : Text) (workers throttle : ℕ) (recorded : Bool) → Command
  Play : (source input : Text) (workers throttle seed : ℕ) (recorded : Bool) → Command
  Serial : (source input : Text) → Command
  Format : (source : Text) → Command
  Bench : (seed size : ℕ) → Command
  CheckRecord : (source input saved : Text) (throttle : ℕ) → Command
  Wave : (source input : Text) (workers throttle : ℕ) → Command
  Span : (source input : Text) → Command

-- the plain data of a command
abbrev pub command_data : RustCommand → Command
command_data (commands.Run source input workers throttle recorded) = Run source.now input.now workers throttle recorded
command_data (commands.Play source input workers throttle seed recorded) = Play source.now input.now workers throttle seed recorded
command_data (commands.Serial source input) = Serial source.now input.now
command_data (commands.Format source) = Format source.now
command_data (commands.Bench seed size) = Bench seed size
command_data (commands.CheckRecord source input saved throttle) = CheckRecord source.now input.now saved.now throttle
command_data (commands.Wave source input workers throttle) = Wave source.now input.now workers throttle
command_data (commands.Span source input) = Span source.now input.now
