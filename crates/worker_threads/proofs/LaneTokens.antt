-- Sums over lanes, their seats and their ends.
use Rattle.std.proofs.Common.{◌≡◌, ◌≤◌, ◌<◌, ◌+◌, ◌∙◌, ◌++◌, ◌∷◌, [], ℕ, zero, suc, List, All, get_or, length, map, sum_by}
use Rattle.std.proofs.Common.{refl, sym, ap, arith}
use Rattle.std.proofs.lemmas.List.Folds.{sum_by-replicate}
use Rattle.std.proofs.lemmas.List.Sums.{sum_by-cons, sum_by-le, sum_by_push}
use Rattle.pipe_frame.specs.TokenCounts.{TokenCounts}
use Rattle.pipe_frame.specs.declared.token.Task.{Task}
use Rattle.worker_threads.specs.Lanes.{ends_in, seat_in}
use Rattle.worker_threads.specs.TaskNumbers.{tokens_of_number}
use Rattle.worker_threads.specs.TokensOut.{AreOut, LaneKeeps, NoneIsLost}
use Rattle.worker_threads.specs.declared.lanes.Lane.{Lane}
use Rattle.worker_threads.specs.declared.task_test.TestOf.{TestOf}
use Rattle.worker_tasks.specs.HeldTokens.{put_by, taken_by}
use Rattle.work_deques.specs.Tallies.{tally}
use Rattle.work_deques.specs.WorkerEnds.{AreFresh, weight_put, weight_taken}
use Rattle.work_deques.specs.declared.ends.Ends.{Ends}
use Rattle.work_deques.specs.declared.tally.Tally.{Tally}

-- where each element gains as much in one count as in the other, so do the sums over a list
module _ {X : Type 0} (a b : X → ℕ) where
  pub sums_keep : (old new : List X) → length new ≡ length old
      → ((k : ℕ) (d : X) → k < length old → a (get_or new k d) + b (get_or old k d) ≡ a (get_or old k d) + b (get_or new k d))
      → sum_by a new + sum_by b old ≡ sum_by a old + sum_by b new
  sums_keep [] [] l h = refl
  sums_keep [] (y ∷ ys) l h = absurd (let w : suc (length ys) ≡ zero = l in cc)
  sums_keep (x ∷ xs) [] l h = absurd (let w : zero ≡ suc (length xs) = l in cc)
  sums_keep (x ∷ xs) (y ∷ ys) l h =
      let w : length ys ≡ length xs = (let w : suc (length ys) ≡ suc (length xs) = l in cc) in
      let r = sums_keep xs ys w (λ k d s. h (suc k) d (omega (arith, s))) in
      let z = h zero x (omega arith) in
      let p = sum_by-cons a y ys in
      let q = sum_by-cons b x xs in
      let s = sum_by-cons a x xs in
      let t = sum_by-cons b y ys in
      omega (arith, r, z, p, q, s, t)

module _ {J M H : Type 0} where
  -- a sum over lanes is one over their seats and one over their ends
  parts : (f : H → ℕ) (g : Ends (Task M) (TestOf J M) → ℕ) (lanes : List (Lane J M H))
      → sum_by (λ l. f (seat_in l) + g (ends_in l)) lanes ≡ sum_by f (map seat_in lanes) + sum_by g (map ends_in lanes)
  parts f g [] = refl
  parts f g (l ∷ ls) =
      let r = parts f g ls in
      let p = sum_by-cons (λ (x : Lane J M H). f (seat_in x) + g (ends_in x)) l ls in
      let q = sum_by-cons f (seat_in l) (map seat_in ls) in
      let s = sum_by-cons g (ends_in l) (map ends_in ls) in
      omega (arith, r, p, q, s)

  -- the same of the seats alone
  seats_alone : (f : H → ℕ) (lanes : List (Lane J M H)) → sum_by (λ l. f (seat_in l)) lanes ≡ sum_by f (map seat_in lanes)
  seats_alone f [] = refl
  seats_alone f (l ∷ ls) = sum_by-cons (λ (x : Lane J M H). f (seat_in x)) l ls
      ∙ (ap (λ n. f (seat_in l) + n) (seats_alone f ls) ∙ sym (sum_by-cons f (seat_in l) (map seat_in ls)))

  -- a seat goes from the end of a list to a lane
  pub sums_move : (f : H → ℕ) (lanes longer : List (Lane J M H)) (l : Lane J M H) (seats fewer : List H) (total : ℕ)
      → longer ≡ lanes ++ l ∷ [] → seats ≡ fewer ++ seat_in l ∷ []
      → sum_by (λ x. f (seat_in x)) lanes + sum_by f seats ≡ total → sum_by (λ x. f (seat_in x)) longer + sum_by f fewer ≡ total
  sums_move f lanes longer l seats fewer total is was h =
      let p = ap (sum_by (λ (x : Lane J M H). f (seat_in x))) is in
      let q = sum_by_push (λ (x : Lane J M H). f (seat_in x)) lanes l in
      let r = ap (sum_by f) was in
      let s = sum_by_push f fewer (seat_in l) in
      omega (arith, p, q, r, s, h)

  module _ (tokens : H → TokenCounts) where
    -- lane by lane
    pub none_is_lost : (old new : List (Lane J M H)) → length new ≡ length old
        → ((k : ℕ) (d : Lane J M H) → k < length old → LaneKeeps tokens (get_or old k d) (get_or new k d)) → NoneIsLost tokens old new
    none_is_lost old new count keeps =
        sums_keep (λ (l : Lane J M H). (tokens (seat_in l)).given + taken_by tokens_of_number (ends_in l))
        (λ (l : Lane J M H). (tokens (seat_in l)).returned + put_by tokens_of_number (ends_in l)) old new count
        (λ k d s. let h = keeps k d s in omega (arith, h))

-- an empty list weighs nothing
pub sum_of_none : {X : Type 0} (f : X → ℕ) (xs : List X) → length xs ≡ 0 → sum_by f xs ≡ 0
sum_of_none f [] l = refl
sum_of_none f (x ∷ xs) l = absurd (let w : suc (length xs) ≡ zero = l in cc)

-- new ends have taken and pushed nothing
module _ {T Q : Type 0} (workers capacity : ℕ) (weight : ℕ → ℕ) where
  none_taken : (e : Ends T Q) → AreFresh workers capacity e → taken_by weight e ≡ 0
  none_taken e h =
      let p = ap (λ (v : Tally). sum_by weight v.taken) h.own in
      let q = ap (sum_by (λ (v : Tally). sum_by weight v.taken)) h.fronts ∙ sum_by-replicate (λ (v : Tally). sum_by weight v.taken) workers
      (tally 1 [] []) in
      omega (arith, p, q)

  none_put : (e : Ends T Q) → AreFresh workers capacity e → put_by weight e ≡ 0
  none_put e h =
      let p = ap (λ (v : Tally). sum_by weight v.put) h.own in
      let q = ap (sum_by (λ (v : Tally). sum_by weight v.put)) h.fronts ∙ sum_by-replicate (λ (v : Tally). sum_by weight v.put) workers
      (tally 1 [] []) in
      omega (arith, p, q)

  none_of_all : (f : Ends T Q → ℕ) (ends : List (Ends T Q)) → All (λ e. f e ≡ 0) ends → sum_by f ends ≡ 0
  none_of_all f ends h =
      let s = sum_by-le f 0 ends (λ k d l. let e = h k d l in omega (arith, e)) in
      omega (arith, s)

  pub all_taken : (ends : List (Ends T Q)) → All (AreFresh workers capacity) ends → sum_by (taken_by weight) ends ≡ 0
  all_taken ends h = none_of_all (taken_by weight) ends (λ k d l. none_taken (get_or ends k d) (h k d l))

  pub all_put : (ends : List (Ends T Q)) → All (AreFresh workers capacity) ends → sum_by (put_by weight) ends ≡ 0
  all_put ends h = none_of_all (put_by weight) ends (λ k d l. none_put (get_or ends k d) (h k d l))

at_most_one : (n : ℕ) → tokens_of_number n ≤ 1
at_most_one zero = omega arith
at_most_one (suc n) = omega arith

module _ {J M H : Type 0} (tokens : H → TokenCounts) where
  -- what is out after a run is at most what is left in the deques
  pub left_out : (workers capacity : ℕ) (seats last : List H) (ends : List (Ends (Task M) (TestOf J M))) (old new : List (Lane J M H))
      (left : List ℕ) (count : ℕ)
      → All (AreFresh workers capacity) ends → map ends_in old ≡ ends → ((f : H → ℕ) → sum_by (λ l. f (seat_in l)) old ≡ sum_by f seats)
      → NoneIsLost tokens old new → last ≡ map seat_in new
      → length left ≡ count → ((h : ℕ → ℕ) → weight_put h (map ends_in new) ≡ weight_taken h (map ends_in new) + sum_by h left)
      → (n : ℕ) × (n ≤ count) × AreOut tokens n seats last
  left_out workers capacity seats last ends old new left count fresh are same kept is size account =
      let given = λ (s : H). (tokens s).given in
      let returned = λ (s : H). (tokens s).returned in
      let taken = taken_by {T = Task M} {Q = TestOf J M} tokens_of_number in
      let put = put_by {T = Task M} {Q = TestOf J M} tokens_of_number in
      let came_old = parts given taken old in
      let came_new = parts given taken new in
      let went_old = parts returned put old in
      let went_new = parts returned put new in
      let given_old = sym (seats_alone given old) ∙ same given in
      let returned_old = sym (seats_alone returned old) ∙ same returned in
      let given_new = ap (sum_by given) is in
      let returned_new = ap (sum_by returned) is in
      let taken_old = ap (sum_by taken) are ∙ all_taken workers capacity tokens_of_number ends fresh in
      let put_old = ap (sum_by put) are ∙ all_put workers capacity tokens_of_number ends fresh in
      let even = account tokens_of_number in
      let bounded = sum_by-le tokens_of_number 1 left (λ k d l. at_most_one (get_or left k d)) in (
        sum_by tokens_of_number left,
        omega (arith, bounded, size),
        omega (
          arith,
          kept,
          came_old,
          came_new,
          went_old,
          went_new,
          given_old,
          returned_old,
          given_new,
          returned_new,
          taken_old,
          put_old,
          even,
        ),
      )
