use Rattle.std.proofs.Common.{◌≡◌, ◌++◌, drop}
use Rattle.pipe_model.specs.Runs.State.{accesses_of}
use Rattle.serial_elision.proofs.outer_parts.plain_accesses.Given as goal

abbrev pub invariant-loop-made : goal.invariant-loop-made
invariant-loop-made l = l.plain ++ accesses_of (drop l.made-index l.made-items) ≡ accesses_of l.made-items
