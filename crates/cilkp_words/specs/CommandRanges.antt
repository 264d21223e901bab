-- The numbers of commands are within their ranges.
use Rattle.std.specs.Prelude.{◌≤◌}
use Rattle.pipe_gen.specs.declared.choices.TheConstants.{MOST_SEED}
use Rattle.pipe_gen.specs.declared.workload.TheConstants.{MOST_SIZE}
use Rattle.cilkp_words.specs.Commands.{Command, Run, Play, Serial, Format, Bench, CheckRecord, Wave, Span}
use Rattle.cilkp_words.specs.declared.ranges.TheConstants.{MOST_THROTTLE, MOST_WORKERS}

-- a command has from 1 to 64 workers, a throttling limit from 1 to 1,024, a seed up to 65,535, and a size from 1 to 40,000, as far as it
-- has them
abbrev pub IsInRange : Command → Type 0
IsInRange (Run source input workers throttle recorded) = ((1 ≤ workers) × (workers ≤ MOST_WORKERS))
    × ((1 ≤ throttle) × (throttle ≤ MOST_THROTTLE))
IsInRange (Play source input workers throttle seed recorded) =
    ((1 ≤ workers) × (workers ≤ MOST_WORKERS)) × (((1 ≤ throttle) × (throttle ≤ MOST_THROTTLE)) × (seed ≤ MOST_SEED))
IsInRange (Serial source input) = Unit {0}
IsInRange (Format source) = Unit {0}
IsInRange (Bench seed size) = (seed ≤ MOST_SEED) × ((1 ≤ size) × (size ≤ MOST_SIZE))
IsInRange (CheckRecord source input saved throttle) = (1 ≤ throttle) × (throttle ≤ MOST_THROTTLE)
IsInRange (Wave source input workers throttle) = ((1 ≤ workers) × (workers ≤ MOST_WORKERS)) × ((1 ≤ throttle) × (throttle ≤ MOST_THROTTLE))
IsInRange (Span source input) = Unit {0}
