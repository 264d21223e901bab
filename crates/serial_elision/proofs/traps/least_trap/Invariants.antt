use Rattle.std.proofs.Common.{◌≡◌, take}
use Rattle.serial_elision.specs.ColumnTraps as column_traps
use Rattle.serial_elision.proofs.traps.least_trap.Given as goal

abbrev pub invariant-loop-iteration : goal.invariant-loop-iteration
invariant-loop-iteration l = l.trap ≡ column_traps.least_trap 0 (take l.iteration l.columns)
