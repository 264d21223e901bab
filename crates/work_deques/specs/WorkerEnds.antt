-- What contracts see of the ends of deques that a worker has: the back of its own deque, and a front of each deque.
use Rattle.std.specs.Prelude.{◌≡◌, ◌≤◌, ◌+◌, ◌-◌, [], ℕ, List, All, get_or, length, map, replicate, sum_by}
use Rattle.std.specs.declared.alloc.Global.{Global}
use Rattle.crossbeam_deque.specs.Handles.{stealer_deque, view, worker_capacity, worker_deque, worker_index, worker_view}
use Rattle.work_deques.specs.Tallies.{ALL_PARTS, tally}
use Rattle.work_deques.specs.declared.ends.Ends.{Ends}
use Rattle.work_deques.specs.declared.front.Front.{Front}
use Rattle.work_deques.specs.declared.tally.Tally.{Tally}

-- the identity of a deque
abbrev pub Deque : Type 0
Deque = (ℕ × ℕ) × Global

module _ {T Q : Type 0} where
  -- the worker's own deque
  abbrev pub deque_of : Ends T Q → Deque
  deque_of e = worker_deque e.own

  -- for how many tasks the own deque has room
  abbrev pub capacity_of : Ends T Q → ℕ
  capacity_of e = worker_capacity e.own

  -- how many tasks were pushed to the own deque, less those popped since the last of them was stolen
  abbrev pub index_of : Ends T Q → ℕ
  index_of e = worker_index e.own

  -- what the worker has pushed to its own deque and popped from it
  abbrev pub own_tally : Ends T Q → Tally
  own_tally e = worker_view e.own

  abbrev pub deque_of_front : Front T Q → Deque
  deque_of_front f = stealer_deque f.stealer

  abbrev pub tally_of_front : Front T Q → Tally
  tally_of_front f = view f.pass

  abbrev pub parts_of_front : Front T Q → ℕ
  parts_of_front f = (tally_of_front f).parts

  -- the deques that the worker has fronts of, in order
  abbrev pub front_deques : Ends T Q → List Deque
  front_deques e = map deque_of_front e.fronts.items

  -- what each front has taken from its deque
  abbrev pub front_tallies : Ends T Q → List Tally
  front_tallies e = map tally_of_front e.fronts.items

  abbrev pub front_count : Ends T Q → ℕ
  front_count e = length e.fronts.items

  abbrev pub front_tally : Ends T Q → ℕ → Tally
  front_tally e k = get_or (front_tallies e) k (tally 0 [] [])

  abbrev pub front_parts : Ends T Q → List ℕ
  front_parts e = map parts_of_front e.fronts.items

  -- new ends of a worker, into which nothing was pushed, with room for some tasks
  pub record AreFresh (workers capacity : ℕ) (e : Ends T Q) : Type 0 where
    pub index : index_of e ≡ 0
    pub room : capacity ≤ capacity_of e
    pub own : own_tally e ≡ tally (ALL_PARTS - workers) [] []
    pub fronts : front_tallies e ≡ replicate workers (tally 1 [] [])

  -- the ends of a worker among the workers with these deques: a front of each, which has one part, and the other parts of its own
  pub record AreEndsAmong (deques : List Deque) (e : Ends T Q) : Type 0 where
    pub fronts : front_deques e ≡ deques
    pub one_part : All (λ p. p ≡ 1) (front_parts e)
    pub own_parts : (own_tally e).parts + length deques ≡ ALL_PARTS

  -- the ends of all workers, by their numbers
  abbrev pub AreAllEnds : List (Ends T Q) → Type 0
  AreAllEnds ends = All (AreEndsAmong (map deque_of ends)) ends

  -- the same ends later: of the same deques, with the same parts
  pub record SameDeques (old new : Ends T Q) : Type 0 where
    pub own : deque_of new ≡ deque_of old
    pub fronts : front_deques new ≡ front_deques old
    pub own_parts : (own_tally new).parts ≡ (own_tally old).parts
    pub front_parts : front_parts new ≡ front_parts old

  -- a number of each tally, added up over all ends of all workers
  abbrev pub over_ends : (Tally → ℕ) → List (Ends T Q) → ℕ
  over_ends f ends = sum_by (λ e. f (own_tally e) + sum_by f (front_tallies e)) ends

  -- the weight of all tasks that were put into the deques, and of all that were taken out
  abbrev pub weight_put : (ℕ → ℕ) → List (Ends T Q) → ℕ
  weight_put h ends = over_ends (λ v. sum_by h v.put) ends

  abbrev pub weight_taken : (ℕ → ℕ) → List (Ends T Q) → ℕ
  weight_taken h ends = over_ends (λ v. sum_by h v.taken) ends
