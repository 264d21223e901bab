use Rattle.std.proofs.Common.{◌∙◌, ap, rules}
use Rattle.std.specs.Option.{option_or}
use Rattle.serial_elision.specs.ColumnTraps as column_traps
use Rattle.serial_elision.proofs.RunTraps.{least_trap_more}
use Rattle.serial_elision.proofs.traps.least_trap.Goals as goal

pub loop-iteration-preserved : goal.loop-iteration-preserved
loop-iteration-preserved c =
    let k = c.loop-iteration.iteration in
    least_trap_more c.args.columns.now k c.index-columns-iteration.result c.loop-iteration.trap c.or-trap.result
    (search rules) c.loop-iteration.invariant
    (c.or-trap.ensures ∙ ap (option_or c.loop-iteration.trap)
    (c.column_trap.ensures ∙ ap (column_traps.column_trap k) c.index-columns-iteration.is))
