use Rattle.std.proofs.Common.{◌≡◌}
use Rattle.race_detection.specs.NotedRuns.{nothing_noted}
use Rattle.race_detection.proofs.detect.empty_histories.Given as goal

abbrev pub invariant-loop : goal.invariant-loop
invariant-loop l = l.histories.items ≡ nothing_noted l.counter
