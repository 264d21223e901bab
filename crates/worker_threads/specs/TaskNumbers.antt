-- Numbers of tasks, by which tallies of deques count them.
use Rattle.std.specs.Prelude.{◌≡◌, ◌+◌, ◌*◌, ℕ, zero, suc, refl}
use Rattle.pipe_frame.specs.TokenCounts.{tokens_in}
use Rattle.pipe_frame.specs.declared.token.Task.{Task}
use Rattle.pipe_frame.specs.declared.token.Task.TheVariants.{Begin, Resume}

-- how many indices a column can have
abbrev pub INDICES : ℕ
INDICES = 4294967296

-- 0 for the task to begin an iteration; each instance has a number of its own
abbrev pub task_number : {M : Type 0} → Task M → ℕ
task_number Begin = 0
task_number (Resume t) = suc (t.iteration * INDICES + t.index)

-- how many tokens a task with this number has
abbrev pub tokens_of_number : ℕ → ℕ
tokens_of_number zero = 0
tokens_of_number (suc n) = 1

-- a task to begin an iteration has no token, and any other task has one
pub number_weighs : {M : Type 0} (t : Task M) → tokens_of_number (task_number t) ≡ tokens_in t
number_weighs Begin = refl
number_weighs (Resume t) = refl
