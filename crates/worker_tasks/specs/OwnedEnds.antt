-- What contracts see of a worker's tasks.
use Rattle.std.specs.Prelude.{◌≡◌, ℕ}
use Rattle.pipe_frame.specs.declared.token.Task.{Task}
use Rattle.worker_tasks.specs.declared.tasks.WorkerTasks.{WorkerTasks}
use Rattle.work_deques.specs.WorkerEnds.{SameDeques}
use Rattle.work_deques.specs.declared.ends.Ends.{Ends}

module _ {M Q : Type 0} where
  -- the number of the worker
  abbrev pub owner_of : WorkerTasks M Q → ℕ
  owner_of t = t.number

  abbrev pub owned_ends : WorkerTasks M Q → Ends (Task M) Q
  owned_ends t = t.ends

  -- those of the same worker later: its number is the same, and its ends are ends of the same deques
  pub record OfSameWorker (old new : WorkerTasks M Q) : Type 0 where
    pub number : owner_of new ≡ owner_of old
    pub deques : SameDeques (owned_ends old) (owned_ends new)
