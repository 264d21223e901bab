-- How many tokens the calls of a hall have given to a worker, and how many they have taken back.
use Rattle.std.specs.Prelude.{◌≡◌, ◌+◌, ℕ, Option, Some, None}
use Rattle.pipe_frame.specs.declared.token.FrameToken.{FrameToken}
use Rattle.pipe_frame.specs.declared.token.Task.{Task}
use Rattle.pipe_frame.specs.declared.token.Task.TheVariants as tasks
use Rattle.pipe_frame.specs.declared.results.Begun.{Begun}
use Rattle.pipe_frame.specs.declared.results.Begun.TheVariants as begun
use Rattle.pipe_frame.specs.declared.results.Next.{Next}
use Rattle.pipe_frame.specs.declared.results.Next.TheVariants as next
use Rattle.pipe_frame.specs.declared.results.Rescue.{Rescue}
use Rattle.pipe_frame.specs.declared.results.Rescue.TheVariants as rescue

pub record TokenCounts : Type 0 where
  pub given : ℕ
  pub returned : ℕ

abbrev pub no_tokens : TokenCounts
no_tokens = record { given = 0; returned = 0 }

-- from `old` to `new`, the calls gave `given` tokens and took `returned` back. Only the difference matters: a token that was given and
-- taken back may count in both or in neither
abbrev pub Exchanges : ℕ → ℕ → TokenCounts → TokenCounts → Type 0
Exchanges given returned old new = new.given + old.returned + returned ≡ old.given + new.returned + given

-- ---- how many tokens a result holds

abbrev pub tokens_begun : {M : Type 0} → Begun M → ℕ
tokens_begun (begun.Started t) = 1
tokens_begun begun.Throttled = 0
tokens_begun begun.Closed = 0
tokens_begun begun.NotYet = 0
tokens_begun begun.Stopped = 0

abbrev pub tokens_next : {M : Type 0} → Next M → ℕ
tokens_next (next.Go t) = 1
tokens_next next.Suspended = 0
tokens_next next.Ended = 0
tokens_next next.Stopped = 0

abbrev pub tokens_rescued : {M : Type 0} → Rescue M → ℕ
tokens_rescued (rescue.Token t) = 1
tokens_rescued rescue.MayBegin = 0
tokens_rescued rescue.Nothing = 0
tokens_rescued rescue.Finished = 0
tokens_rescued rescue.Stopped = 0

abbrev pub tokens_entered : {M : Type 0} → Option (FrameToken M) → ℕ
tokens_entered None = 0
tokens_entered (Some t) = 1

-- how many tokens a task holds
abbrev pub tokens_in : {M : Type 0} → Task M → ℕ
tokens_in tasks.Begin = 0
tokens_in (tasks.Resume t) = 1
