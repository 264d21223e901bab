-- The ends of all workers while fronts are added, or taken away again: worker after worker, and of each the fronts in the order of the
-- deques.
use Rattle.std.specs.Prelude.{◌≡◌, ◌≤◌, ◌<◌, ◌+◌, [], ℕ, List, All, get_or, length, map, take}
use Rattle.work_deques.specs.Tallies.{ALL_PARTS, tally}
use Rattle.work_deques.specs.WorkerEnds.{Deque, capacity_of, deque_of, front_deques, front_parts, front_tallies, index_of, own_tally}
use Rattle.work_deques.specs.declared.ends.Ends.{Ends}

-- The worker number j, with these parts and fronts. The first `workers` workers have a front of each deque, and the next one has `some`.
-- Of each deque there is a front for each of these workers, and of the first `made` deques there is one more.
pub record IsSoFar (deques : List Deque) (workers made some j parts : ℕ) (fronts : List Deque) : Type 0 where
  pub before : j < workers → fronts ≡ deques
  pub here : j ≡ workers → fronts ≡ take some deques
  pub after : workers < j → fronts ≡ []
  pub more : j < made → parts + workers + 1 ≡ ALL_PARTS
  pub usual : made ≤ j → parts + workers ≡ ALL_PARTS

module _ {T Q : Type 0} where
  pub record AreSoFar (deques : List Deque) (workers made some : ℕ) (ends : List (Ends T Q)) : Type 0 where
    pub own : map deque_of ends ≡ deques
    pub one_part : All (λ e. All (λ p. p ≡ 1) (front_parts e)) ends
    pub each : (j : ℕ) (d : Ends T Q) → j < length ends → IsSoFar deques workers made some j (own_tally (get_or ends j d)).parts
        (front_deques (get_or ends j d))

  -- nothing was pushed, popped or stolen
  pub record AreUnused (capacity : ℕ) (e : Ends T Q) : Type 0 where
    pub index : index_of e ≡ 0
    pub room : capacity ≤ capacity_of e
    pub put : (own_tally e).put ≡ []
    pub taken : (own_tally e).taken ≡ []
    pub fronts : All (λ v. v ≡ tally 1 [] []) (front_tallies e)

  -- all fronts were given back to the owner of the deque
  abbrev pub IsWhole : Ends T Q → Type 0
  IsWhole e = ((own_tally e).parts ≡ ALL_PARTS) × (e.fronts.items ≡ [])
