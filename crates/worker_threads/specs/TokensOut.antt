-- Tokens that the calls of seats have given and not taken back, and tokens of tasks that workers have taken or pushed.
use Rattle.std.specs.Prelude.{◌≡◌, ◌+◌, ℕ, List, sum_by}
use Rattle.pipe_frame.specs.TokenCounts.{TokenCounts}
use Rattle.worker_threads.specs.Lanes.{ends_in, seat_in}
use Rattle.worker_threads.specs.TaskNumbers.{tokens_of_number}
use Rattle.worker_threads.specs.declared.lanes.Lane.{Lane}
use Rattle.worker_tasks.specs.HeldTokens.{KeepsTokens, put_by, taken_by}

module _ {H : Type 0} (tokens : H → TokenCounts) where
  -- all tokens that the calls of these seats have given, and all that they have taken back
  abbrev pub given_by : List H → ℕ
  given_by seats = sum_by (λ s. (tokens s).given) seats

  abbrev pub returned_to : List H → ℕ
  returned_to seats = sum_by (λ s. (tokens s).returned) seats

  -- from `old` to `new`, `count` more tokens were given than taken back
  abbrev pub AreOut : ℕ → List H → List H → Type 0
  AreOut count old new = given_by new + returned_to old ≡ given_by old + returned_to new + count

  -- a worker keeps its tokens
  abbrev pub LaneKeeps : {J M : Type 0} → Lane J M H → Lane J M H → Type 0
  LaneKeeps old new = KeepsTokens tokens_of_number 0 0 (tokens (seat_in old)) (ends_in old) (tokens (seat_in new)) (ends_in new)

  -- the tokens that came to the workers, by their halls and their deques, and those that went from them
  abbrev pub came : {J M : Type 0} → List (Lane J M H) → ℕ
  came lanes = sum_by (λ l. (tokens (seat_in l)).given + taken_by tokens_of_number (ends_in l)) lanes

  abbrev pub went : {J M : Type 0} → List (Lane J M H) → ℕ
  went lanes = sum_by (λ l. (tokens (seat_in l)).returned + put_by tokens_of_number (ends_in l)) lanes

  -- between two moments as many tokens came to the workers as went from them
  abbrev pub NoneIsLost : {J M : Type 0} → List (Lane J M H) → List (Lane J M H) → Type 0
  NoneIsLost old new = came new + went old ≡ came old + went new
