-- Seats of one hall: the last one takes in the others.
use Rattle.std.proofs.Common.{◌≡◌, ◌∙◌, ◌++◌, ◌∷◌, [], List, All, sym}
use Rattle.pipe_frame.specs.Ties.{HallName}
use Rattle.hall_table.specs.WorkerSeats.{WorkerSeat, hall_name}
use Rattle.worker_tasks.specs.Tasks.{IsOver}
use Rattle.work_deques.proofs.TestedLists.{All_init, All_last}

module _ (name : HallName) (seats : List WorkerSeat) (last : WorkerSeat) where
  pub last_named : All (λ (s : WorkerSeat). hall_name s.hall ≡ name) (seats ++ last ∷ []) → hall_name last.hall ≡ name
  last_named h = All_last (λ (s : WorkerSeat). hall_name s.hall ≡ name) seats last h

  pub others_named : All (λ (s : WorkerSeat). hall_name s.hall ≡ name) (seats ++ last ∷ [])
      → All (λ (s : WorkerSeat). hall_name s.hall ≡ hall_name last.hall) seats
  others_named h = λ k d l. All_init (λ (s : WorkerSeat). hall_name s.hall ≡ name) seats last h k d l ∙ sym (last_named h)

pub last_over : (seats : List WorkerSeat) (last : WorkerSeat) → All (λ (s : WorkerSeat). IsOver s.seen) (seats ++ last ∷ [])
    → IsOver last.seen
last_over seats last h = All_last (λ (s : WorkerSeat). IsOver s.seen) seats last h
