use Rattle.std.proofs.Common.{◌≡◌, ◌++◌, replicate}
use Rattle.pipe_format.proofs.text.push_indented.Given as goal

abbrev pub invariant-loop : goal.invariant-loop
invariant-loop l = l.text.items ≡ l.fn.text.items ++ replicate l.counter 32
