use Rattle.std.proofs.Common.{◌≡◌, ◌≤◌}
use Rattle.std.specs.Prelude.{vec_capacity}
use Rattle.pipe_gen.specs.declared.choices.TheConstants.{MOST_INDEX}
use Rattle.schedule_play.specs.SeedChoices.{first_choices}
use Rattle.schedule_play.proofs.choices.choices.Given as goal

abbrev pub invariant-loop-k : goal.invariant-loop-k
invariant-loop-k l = (l.choices.items ≡ first_choices l.fn.number l.k) × (MOST_INDEX ≤ vec_capacity l.choices)
