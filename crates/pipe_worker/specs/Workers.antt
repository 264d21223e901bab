-- What contracts see of a worker.
use Rattle.std.specs.Prelude.{ℕ}
use Rattle.pipe_frame.specs.declared.token.Task.{Task}
use Rattle.pipe_worker.specs.declared.worker.Worker.{Worker}
use Rattle.work_deques.specs.declared.ends.Ends.{Ends}
use Rattle.worker_tasks.specs.OwnedEnds.{OfSameWorker, owned_ends, owner_of}

module _ {M Q : Type 0} where
  abbrev pub number_of : Worker M Q → ℕ
  number_of w = owner_of w.tasks

  abbrev pub ends_of : Worker M Q → Ends (Task M) Q
  ends_of w = owned_ends w.tasks

  -- the same worker later: its number is the same, and its ends are ends of the same deques
  abbrev pub IsSameWorker : Worker M Q → Worker M Q → Type 0
  IsSameWorker old new = OfSameWorker old.tasks new.tasks
