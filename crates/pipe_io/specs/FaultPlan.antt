-- Plans of faults: which calls are to fail.
use Rattle.std.specs.Prelude.{◌==◌, ℕ, List, Bool}
use Rattle.std.specs.List.{list_any}
use Rattle.pipe_io.specs.Faults.{next_count, count_after}

-- the calls that are to fail, by their numbers from 0, and the counts of calls and faults so far
pub record Plan : Type 0 where
  pub fail_at : List ℕ
  pub calls : ℕ
  pub faults : ℕ

-- the plan before the first call
abbrev pub first_plan : List ℕ → Plan
first_plan fail_at = record { fail_at = fail_at; calls = 0; faults = 0 }

-- whether the next call is to fail
abbrev pub fails_next : Plan → Bool
fails_next plan = list_any (λ number. number == plan.calls) plan.fail_at

-- the plan after a call
abbrev pub after_call : Plan → Plan
after_call plan = record plan {
  calls = next_count plan.calls;
  faults = count_after (fails_next plan) plan.faults;
}
