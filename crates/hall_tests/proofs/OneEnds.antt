-- The ends of all workers, after one worker has used its own.
use Rattle.std.proofs.Common.{◌≡◌, ◌⊎◌, ◌<◌, ℕ, List, get_or, length, inl, inr, set, sym}
use Rattle.std.proofs.lemmas.Bool.{cases_eq}
use Rattle.std.proofs.lemmas.List.{get_or-set_other, get_or-set_same, get_or_default, length-set}
use Rattle.work_deques.proofs.AllEnds.{all_ends-same, same_deques-refl}
use Rattle.work_deques.specs.WorkerEnds.{AreAllEnds, SameDeques}
use Rattle.work_deques.specs.declared.ends.Ends.{Ends}

module _ {T Q : Type 0} (ends : List (Ends T Q)) (w : ℕ) (old new : Ends T Q) (within : w < length ends) (at : old ≡ get_or ends w old)
    (same : SameDeques old new) where
  each : (k : ℕ) (d : Ends T Q) → (k ≡ w) ⊎ (k ≡ w → ⊥) → SameDeques (get_or ends k d) (get_or (set ends w new) k d)
  each k d (inl here) = rw (here, get_or-set_same ends w new d within, get_or_default ends w d old within, sym at) same
  each k d (inr other) = rw (get_or-set_other ends w k new d other) (same_deques-refl (get_or ends k d))

  pub one_used : AreAllEnds ends → AreAllEnds (set ends w new)
  one_used h = all_ends-same ends (set ends w new) (length-set ends w new) (λ k d l. each k d (cases_eq k w)) h
