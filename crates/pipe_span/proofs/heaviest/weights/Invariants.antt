use Rattle.std.proofs.Common.{◌≡◌, take}
use Rattle.pipe_span.specs.WorkAndSpan.{weights_of}
use Rattle.pipe_span.proofs.heaviest.weights.Given as goal

abbrev pub invariant-loop-step : goal.invariant-loop-step
invariant-loop-step l = l.weights.items ≡ weights_of (take l.step-index l.steps)
