-- Workers with their seats.
use Rattle.std.specs.Prelude.{◌≡◌, ◌<◌, ℕ, List, get_or, length}
use Rattle.pipe_frame.specs.declared.token.Task.{Task}
use Rattle.worker_threads.specs.declared.lanes.Lane.{Lane}
use Rattle.worker_threads.specs.declared.task_test.TestOf.{TestOf}
use Rattle.pipe_worker.specs.Workers.{ends_of, number_of}
use Rattle.work_deques.specs.declared.ends.Ends.{Ends}

module _ {J M H : Type 0} where
  -- the worker's ends of the deques
  abbrev pub ends_in : Lane J M H → Ends (Task M) (TestOf J M)
  ends_in l = ends_of l.worker

  -- the seat beside the worker
  abbrev pub seat_in : Lane J M H → H
  seat_in l = l.seat

  -- each worker's number is its place in the list
  abbrev pub AreNumbered : List (Lane J M H) → Type 0
  AreNumbered lanes = (k : ℕ) (d : Lane J M H) → k < length lanes → number_of (get_or lanes k d).worker ≡ k
