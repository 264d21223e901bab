-- Tokens that a worker holds: those that its hall has given to it and those of the tasks that it has taken from deques, less those that it
-- has given back and those of the tasks that it has pushed. `weight` is how many tokens a task with a given number has.
use Rattle.std.specs.Prelude.{◌≡◌, ◌+◌, ℕ, Option, Some, None, sum_by}
use Rattle.pipe_frame.specs.TokenCounts.{TokenCounts, tokens_in}
use Rattle.pipe_frame.specs.declared.token.Task.{Task}
use Rattle.work_deques.specs.WorkerEnds.{front_tallies, own_tally}
use Rattle.work_deques.specs.declared.ends.Ends.{Ends}

-- how many tokens came with the task that was taken, if one was
abbrev pub tokens_taken : {M : Type 0} → Option (Task M) → ℕ
tokens_taken None = 0
tokens_taken (Some t) = tokens_in t

module _ {T Q : Type 0} (weight : ℕ → ℕ) where
  -- the tokens of all tasks that were taken through these ends, by pops and by thefts
  abbrev pub taken_by : Ends T Q → ℕ
  taken_by e = sum_by weight (own_tally e).taken + sum_by (λ v. sum_by weight v.taken) (front_tallies e)

  -- the tokens of all tasks that were pushed
  abbrev pub put_by : Ends T Q → ℕ
  put_by e = sum_by weight (own_tally e).put + sum_by (λ v. sum_by weight v.put) (front_tallies e)

  -- from `old` to `new`, the tasks taken have `more` tokens more than the tasks pushed
  abbrev pub TakesTokens : ℕ → Ends T Q → Ends T Q → Type 0
  TakesTokens more old new = taken_by new + put_by old ≡ taken_by old + put_by new + more

  -- a worker that holds `before` tokens at one moment holds `after` tokens at a later one: no token is lost, and none is made
  abbrev pub KeepsTokens : ℕ → ℕ → TokenCounts → Ends T Q → TokenCounts → Ends T Q → Type 0
  KeepsTokens before after c e d f = before + (d.given + taken_by f) + (c.returned + put_by e) ≡ after + (c.given + taken_by e)
      + (d.returned + put_by f)
