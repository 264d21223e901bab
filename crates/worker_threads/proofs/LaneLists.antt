-- Lists of lanes, and of their ends and seats.
use Rattle.std.proofs.Common.{◌≡◌, ◌∙◌, ◌<◌, ◌∷◌, ◌++◌, [], ℕ, List, All, drop, get_or, length, map, take, subst, sym, ap, ap₂, arith, inl}
use Rattle.std.proofs.Common.{inr, append-nil}
use Rattle.std.proofs.Math.ListN.{drop_of_length-le}
use Rattle.std.proofs.lemmas.Bool.{cases_lt}
use Rattle.std.proofs.lemmas.List.Elements.{All-map}
use Rattle.std.proofs.lemmas.List.{get_or-map, get_or_append_left, get_or_push, length-map, length_push, map_push, take_all}
use Rattle.pipe_frame.specs.declared.token.Task.{Task}
use Rattle.worker_threads.specs.Lanes.{AreNumbered, ends_in, seat_in}
use Rattle.worker_threads.specs.declared.lanes.Lane.{Lane}
use Rattle.worker_threads.specs.declared.task_test.TestOf.{TestOf}
use Rattle.pipe_worker.specs.Workers.{number_of}
use Rattle.work_deques.proofs.AllEnds.{all_ends-same}
use Rattle.work_deques.specs.WorkerEnds.{AreAllEnds, SameDeques}
use Rattle.work_deques.specs.declared.ends.Ends.{Ends}

-- a list whose elements were lent and written
pub written_back : {X : Type 0} (n : ℕ) (new old : List X) → length new ≡ n → length old ≡ n → take n (new ++ drop (length new) old) ≡ new
written_back n new old e f =
    ap (λ l. take n (new ++ l)) (drop_of_length-le old (omega (arith, e, f))) ∙ ap (take n) (append-nil new)
    ∙ take_all n new (omega (arith, e))

module _ {J M H : Type 0} where
  -- one more lane, with these ends
  pub ends_push : (lanes longer : List (Lane J M H)) (l : Lane J M H) (ends : List (Ends (Task M) (TestOf J M)))
      (e : Ends (Task M) (TestOf J M))
      → longer ≡ lanes ++ l ∷ [] → map ends_in lanes ≡ ends → ends_in l ≡ e → map ends_in longer ≡ ends ++ e ∷ []
  ends_push lanes longer l ends e is made own = ap (map ends_in) is ∙ map_push ends_in lanes l ∙ ap₂ (λ x y. x ++ y ∷ []) made own

  -- one more worker, whose number is the next
  pub numbered_push : (lanes : List (Lane J M H)) (l : Lane J M H) → AreNumbered lanes → number_of l.worker ≡ length lanes
      → AreNumbered (lanes ++ l ∷ [])
  numbered_push lanes l h e k d within = elim (cases_lt k (length lanes)) [
    | inl less ↦ subst (λ (x : Lane J M H). number_of x.worker ≡ k) (sym (get_or_append_left lanes (l ∷ []) d k less)) (h k d less)
    | inr more ↦ (
        let last : length lanes ≡ k = omega (arith, more, within, length_push lanes l) in
        subst (λ (x : Lane J M H). number_of x.worker ≡ k) (sym (get_or_push lanes l d k last)) (e ∙ last))
  ]

  -- lane by lane, the ends are ends of the same deques
  abbrev pub SameEnds : List (Lane J M H) → List (Lane J M H) → Type 0
  SameEnds old new = (k : ℕ) (d : Lane J M H) → k < length old → SameDeques (ends_in (get_or old k d)) (ends_in (get_or new k d))

  each : (old new : List (Lane J M H)) → length new ≡ length old → SameEnds old new → (k : ℕ) (d : Ends (Task M) (TestOf J M))
      → k < length (map ends_in old)
      → SameDeques (get_or (map ends_in old) k d) (get_or (map ends_in new) k d)
  each [] new count same k d l = absurd (omega (arith, l))
  each (x ∷ xs) new count same k d l =
      let within : k < length (x ∷ xs) = omega (arith, l, length-map (x ∷ xs) ends_in) in
      subst (λ e. SameDeques e (get_or (map ends_in new) k d)) (sym (get_or-map ends_in (x ∷ xs) k x d within))
      (subst (λ e. SameDeques (ends_in (get_or (x ∷ xs) k x)) e) (sym (get_or-map ends_in new k x d (omega (arith, count, within))))
      (same k x within))

  -- all ends of all workers stay that
  pub all_ends_stay : (old new : List (Lane J M H)) → length new ≡ length old → SameEnds old new → AreAllEnds (map ends_in old)
      → AreAllEnds (map ends_in new)
  all_ends_stay old new count same =
      all_ends-same (map ends_in old) (map ends_in new) (length-map new ends_in ∙ count ∙ sym (length-map old ends_in))
      (each old new count same)

  -- what holds of all seats
  pub all_seats : (P : H → Type 0) (seats : List H) (lanes : List (Lane J M H)) → seats ≡ map seat_in lanes
      → All (λ l. P (seat_in l)) lanes → All P seats
  all_seats P seats lanes e h = subst (All P) (sym e) (All-map P seat_in lanes h)
