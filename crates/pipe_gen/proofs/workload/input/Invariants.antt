use Rattle.std.proofs.Common.{◌≡◌, string_bytes}
use Rattle.pipe_gen.specs.Workload.{input_text}
use Rattle.pipe_gen.proofs.workload.input.Given as goal

abbrev pub invariant-loop-k : goal.invariant-loop-k
invariant-loop-k l = string_bytes l.text ≡ input_text l.seed l.k
