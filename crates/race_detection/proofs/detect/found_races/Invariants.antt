use Rattle.std.proofs.Common.{◌≡◌}
use Rattle.race_detection.specs.NotedRuns.{found_below}
use Rattle.race_detection.proofs.detect.found_races.Given as goal

abbrev pub invariant-loop-cell : goal.invariant-loop-cell
invariant-loop-cell l = l.found.items ≡ found_below l.histories l.cell
