-- Tokens of the tasks in tallies, and calls that move tokens one after the other.
use Rattle.std.proofs.Common.{◌≡◌, ◌<◌, ◌+◌, ◌∙◌, ℕ, zero, suc, List, [], ◌∷◌, Option, Some, None, MatchOption, add-zero, arith, ap, ap₂}
use Rattle.std.proofs.Common.{get_or, length, refl, subst, sum_by, sym}
use Rattle.std.proofs.lemmas.List.{length-map}
use Rattle.std.proofs.lemmas.List.Sums.{sum_by-cons, sum_by_push}
use Rattle.pipe_frame.specs.TokenCounts.{Exchanges, TokenCounts, tokens_in}
use Rattle.pipe_frame.specs.declared.token.Task.{Task}
use Rattle.worker_tasks.specs.HeldTokens.{KeepsTokens, TakesTokens, tokens_taken}
use Rattle.work_deques.specs.WorkerEnds.{front_count, front_tallies, front_tally, own_tally, tally_of_front}
use Rattle.work_deques.specs.Tallies.{tally, with_taken}
use Rattle.work_deques.specs.declared.tally.Tally.{Tally}
use Rattle.work_deques.specs.declared.ends.Ends.{Ends}

-- ---- lists that differ in one place

module _ {X : Type 0} (f : X → ℕ) (d : X) where
  sum_same : (xs ys : List X) → length ys ≡ length xs → ((j : ℕ) → get_or ys j d ≡ get_or xs j d) → sum_by f ys ≡ sum_by f xs
  sum_same [] [] l e = refl
  sum_same [] (y ∷ ys) l e = absurd (let w : suc (length ys) ≡ zero = l in cc)
  sum_same (x ∷ xs) [] l e = absurd (let w : zero ≡ suc (length xs) = l in cc)
  sum_same (x ∷ xs) (y ∷ ys) l e =
      let w : length ys ≡ length xs = (let w : suc (length ys) ≡ suc (length xs) = l in cc) in
      let h = e 0 in
      sum_by-cons f y ys ∙ (ap₂ (λ a b. a + b) (ap f h) (sum_same xs ys w (λ j. e (suc j))) ∙ sym (sum_by-cons f x xs))

  pub sum_but_one : (xs ys : List X) (k more : ℕ) → length ys ≡ length xs → k < length xs →
      ((j : ℕ) → (j ≡ k → ⊥) → get_or ys j d ≡ get_or xs j d)
      → f (get_or ys k d) ≡ f (get_or xs k d) + more → sum_by f ys ≡ sum_by f xs + more
  sum_but_one [] ys k more l b e h = omega (arith, b)
  sum_but_one (x ∷ xs) [] k more l b e h = absurd (let w : zero ≡ suc (length xs) = l in cc)
  sum_but_one (x ∷ xs) (y ∷ ys) zero more l b e h =
      let w : length ys ≡ length xs = (let w : suc (length ys) ≡ suc (length xs) = l in cc) in
      let r = sum_same xs ys w (λ j. e (suc j) (λ z. cc)) in
      let p = sum_by-cons f y ys in
      let q = sum_by-cons f x xs in
      omega (arith, p, q, r, h)
  sum_but_one (x ∷ xs) (y ∷ ys) (suc k) more l b e h =
      let w : length ys ≡ length xs = (let w : suc (length ys) ≡ suc (length xs) = l in cc) in
      let r = sum_but_one xs ys k more w (omega (arith, b)) (λ j n. e (suc j) (λ z. n (let w : suc j ≡ suc k = z in cc))) h in
      let s = ap f (e zero (λ z. cc)) in
      let p = sum_by-cons f y ys in
      let q = sum_by-cons f x xs in
      omega (arith, p, q, r, s)

-- ---- thefts and pops

module _ {M Q : Type 0} (weight : ℕ → ℕ) (tag : Task M → ℕ) (weighs : (t : Task M) → weight (tag t) ≡ tokens_in t) (e f : Ends (Task M) Q)
    (victim : ℕ) where
  abbrev taken : Tally → ℕ
  taken v = sum_by weight v.taken

  abbrev put : Tally → ℕ
  put v = sum_by weight v.put

  -- a theft pushes nothing
  put_as_before : (r : Option (Task M)) → MatchOption r (front_tally f victim ≡ front_tally e victim)
      (λ t. front_tally f victim ≡ with_taken (front_tally e victim) (tag t ∷ []))
      → put (front_tally f victim) ≡ put (front_tally e victim) + 0
  put_as_before None h = ap put h ∙ sym (add-zero (put (front_tally e victim)))
  put_as_before (Some t) h = ap put h ∙ sym (add-zero (put (front_tally e victim)))

  -- what was taken from the victim's deque
  taken_more : (r : Option (Task M)) → MatchOption r (front_tally f victim ≡ front_tally e victim)
      (λ t. front_tally f victim ≡ with_taken (front_tally e victim) (tag t ∷ []))
      → taken (front_tally f victim) ≡ taken (front_tally e victim) + tokens_taken r
  taken_more None h = ap taken h ∙ sym (add-zero (taken (front_tally e victim)))
  taken_more (Some t) h = ap taken h ∙ (sum_by_push weight (front_tally e victim).taken (tag t)
      ∙ ap (λ n. taken (front_tally e victim) + n) (weighs t))

  pub theft_takes : (r : Option (Task M)) → victim < front_count e → own_tally f ≡ own_tally e
      → MatchOption r (front_tally f victim ≡ front_tally e victim)
      (λ t. front_tally f victim ≡ with_taken (front_tally e victim) (tag t ∷ []))
      → ((k : ℕ) → (k ≡ victim → ⊥) → front_tally f k ≡ front_tally e k) → front_count f ≡ front_count e
      → TakesTokens weight (tokens_taken r) e f
  theft_takes r there own front others count =
      let l : length (front_tallies f) ≡ length (front_tallies e) = length-map f.fronts.items tally_of_front
      ∙ (count ∙ sym (length-map e.fronts.items tally_of_front)) in
      let b : victim < length (front_tallies e) = subst (λ n. victim < n) (sym (length-map e.fronts.items tally_of_front)) there in
      let s = sum_but_one taken (tally 0 [] []) (front_tallies e) (front_tallies f) victim (tokens_taken r) l b others
      (taken_more r front) in
      let z = sum_but_one put (tally 0 [] []) (front_tallies e) (front_tallies f) victim 0 l b others (put_as_before r front) in
      let p = ap taken own in
      let q = ap put own in
      omega (arith, s, z, p, q)

  -- a pop takes what it returns
  pub pop_takes : (r : Option (Task M)) → MatchOption r (own_tally f ≡ own_tally e)
      (λ t. own_tally f ≡ with_taken (own_tally e) (tag t ∷ [])) → front_tallies f ≡ front_tallies e
      → TakesTokens weight (tokens_taken r) e f
  pop_takes None own fronts =
      let p = ap taken own in
      let q = ap put own in
      let s = ap (sum_by taken) fronts in
      let z = ap (sum_by put) fronts in
      omega (arith, p, q, s, z)
  pop_takes (Some t) own fronts =
      let p = ap taken own in
      let q = ap put own in
      let s = ap (sum_by taken) fronts in
      let z = ap (sum_by put) fronts in
      let u = sum_by_push weight (own_tally e).taken (tag t) in
      let w = weighs t in
      omega (arith, p, q, s, z, u, w)

  pub no_theft : (r : Option (Task M)) → ((t : Task M) → r ≡ Some t → ⊥) → tokens_taken r ≡ 0
  no_theft None none = refl
  no_theft (Some t) none = absurd (none t refl)

-- the one after the other
pub then_takes : {T Q : Type 0} (weight : ℕ → ℕ) (e f g : Ends T Q) (more : ℕ) → TakesTokens weight 0 e f → TakesTokens weight more f g
    → TakesTokens weight more e g
then_takes weight e f g more h k = omega (arith, h, k)

-- ---- what a worker keeps, by calls one after the other

pub then_exchanges : (c d k : TokenCounts) → Exchanges 0 0 c d → Exchanges 0 0 d k → Exchanges 0 0 c k
then_exchanges c d k p q = omega (arith, p, q)

module _ {T Q : Type 0} (weight : ℕ → ℕ) where
  pub then_keeps : (x y z : ℕ) (c d k : TokenCounts) (e f g : Ends T Q) → KeepsTokens weight x y c e d f → KeepsTokens weight y z d f k g
      → KeepsTokens weight x z c e k g
  then_keeps x y z c d k e f g p q = omega (arith, p, q)

  -- a call of the hall
  pub call_keeps : (given returned : ℕ) (c d : TokenCounts) (e : Ends T Q) → Exchanges given returned c d
      → KeepsTokens weight returned given c e d e
  call_keeps given returned c d e p = omega (arith, p)

  -- tasks that were taken, by a worker that holds some tokens
  pub take_keeps : (held more : ℕ) (c : TokenCounts) (e f : Ends T Q) → TakesTokens weight more e f
      → KeepsTokens weight held (held + more) c e c f
  take_keeps held more c e f p = omega (arith, p)

  -- a task that was taken, by a worker that holds none
  pub task_keeps : (more : ℕ) (c : TokenCounts) (e f : Ends T Q) → TakesTokens weight more e f → KeepsTokens weight 0 more c e c f
  task_keeps more c e f p = omega (arith, p)
