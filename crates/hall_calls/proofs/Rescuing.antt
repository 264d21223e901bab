-- The iterations that were left ready, as a list.
use Rattle.std.proofs.Common.{◌≡◌, ◌<◌, ⊎_elim, inl, inr, ℕ, zero, suc, List, [], ◌∷◌, ◌++◌, length, get_or, refl, sym, ap, ◌∙◌, subst}
use Rattle.std.proofs.Common.{arith, Bool, true, false, cond, Option, Some, None, Contains}
use Rattle.std.proofs.lemmas.Bool.{cases_lt}
use Rattle.pipe_model.specs.declared.status.Status.{Status}
use Rattle.pipe_model.specs.declared.status.Status.TheVariants.{Running, Pending, Completed}
use Rattle.pipe_model.specs.Runs.State.{Frame, State, frame_at}
use Rattle.pipe_frame.specs.CallResults.{RescueReturns, rescue_events}
use Rattle.pipe_frame.specs.TokenFields.{TokenFields}
use Rattle.pipe_frame.specs.declared.results.Rescue.{Rescue}
use Rattle.pipe_frame.specs.declared.results.Rescue.TheVariants as rescue
use Rattle.frame_book.specs.BookStates.{BookState, TokenState, Out, Kept, Spent, events_of, item_or, state_of}
use Rattle.frame_book.specs.CallEffects.{IsReady}
use Rattle.pipe_model.specs.declared.event.Event.{Event}
use Rattle.pipe_frame.specs.HallViews.{BeginsWith, RescueSees}

-- the result is right for any equal set of iterations that were left ready
pub returns_same : {M : Type 0} (limit : ℕ) (s : State) (P Q : ℕ → Type 0) (r : Rescue M) → ((i : ℕ) → P i → Q i) → ((i : ℕ) → Q i → P i)
    → RescueReturns limit s P r → RescueReturns limit s Q r
returns_same limit s P Q rescue.Stopped to of h = h
returns_same limit s P Q rescue.Finished to of h = h
returns_same limit s P Q (rescue.Token t) to of h = (
  h.0,
  record {
    can = ⊎_elim (λ a. inl (to t.iteration a)) (λ b. inr b) h.1.can;
    first = λ j l q. h.1.first j l (⊎_elim (λ a. inl (of j a)) (λ b. inr b) q);
  },
)
returns_same limit s P Q rescue.MayBegin to of h = (h.0, (λ i q. h.1 i (⊎_elim (λ a. inl (of i a)) (λ b. inr b) q)), h.2, h.3)
returns_same limit s P Q rescue.Nothing to of h = (h.0, (λ i q. h.1 i (⊎_elim (λ a. inl (of i a)) (λ b. inr b) q)), h.2, h.3)

is_kept : TokenState → Bool
is_kept Out = false
is_kept (Kept t) = true
is_kept Spent = false

kept_is : (t : TokenState) → is_kept t ≡ true → (f : TokenFields) × (t ≡ Kept f)
unfolding is_kept
kept_is Out e = absurd (let z : false ≡ true = e in cc)
kept_is (Kept f) e = (f, refl)
kept_is Spent e = absurd (let z : false ≡ true = e in cc)

is_running : Status → Bool
is_running Running = true
is_running (Pending k n) = false
is_running (Completed e) = false

running_is : (w : Status) → is_running w ≡ true → w ≡ Running
unfolding is_running
running_is Running e = refl
running_is (Pending k n) e = absurd (let z : false ≡ true = e in cc)
running_is (Completed x) e = absurd (let z : false ≡ true = e in cc)

runs : Option Frame → Bool
runs None = false
runs (Some f) = is_running f.status

runs_is : (o : Option Frame) → runs o ≡ true → (f : Frame) × (o ≡ Some f) × (f.status ≡ Running)
unfolding runs
runs_is None e = absurd (let z : false ≡ true = e in cc)
runs_is (Some f) e = (f, refl, running_is f.status e)

both : Bool → Bool → Bool
both true b = b
both false b = false

both_is : (a b : Bool) → both a b ≡ true → (a ≡ true) × (b ≡ true)
unfolding both
both_is true b e = (refl, e)
both_is false b e = absurd (let z : false ≡ true = e in cc)

is_ready : BookState → ℕ → Bool
is_ready b i = both (is_kept (item_or Spent b.tokens i)) (runs (frame_at (state_of b).frames i))

ready_of : (b : BookState) (i : ℕ) → is_ready b i ≡ true → IsReady b i
unfolding is_ready
ready_of b i e =
    let q = both_is (is_kept (item_or Spent b.tokens i)) (runs (frame_at (state_of b).frames i)) e in
    let k = kept_is (item_or Spent b.tokens i) q.0 in
    let r = runs_is (frame_at (state_of b).frames i) q.1 in
    record { fields = k.0; kept = k.1; runs = record { frame = r.0; is = r.1; runs = r.2 } }

ready_is : (b : BookState) (i : ℕ) → IsReady b i → is_ready b i ≡ true
unfolding is_ready both is_kept runs is_running
ready_is b i h = ap (λ t. both (is_kept t) (runs (frame_at (state_of b).frames i))) h.kept ∙ (ap runs h.runs.is ∙ ap is_running h.runs.runs)

-- the numbers below n that meet a test
below : (ℕ → Bool) → ℕ → List ℕ
below P zero = []
below P (suc n) = cond (P n) (n ∷ below P n) (below P n)

in_more : (x i : ℕ) (xs : List ℕ) → Contains xs i → Contains (x ∷ xs) i
in_more x i xs h = (suc h.0, (let l = h.1 in omega (arith, l)), h.2)

below_has : (P : ℕ → Bool) (n i : ℕ) → i < n → P i ≡ true → Contains (below P n) i
unfolding below
below_has P zero i l e = absurd (omega (arith, l))
below_has P (suc n) i l e = elim (cases_lt i n) [
  | inl less ↦ by (P n) (below_has P n i less e)
  | inr more ↦ (let z : i ≡ n = omega (arith, l, more) in subst (λ m. P m ≡ true → Contains (cond (P n) (n ∷ below P n) (below P n)) m)
      (sym z) (λ q. here (P n) q) e)
]
  where
    by : (t : Bool) → Contains (below P n) i → Contains (cond t (n ∷ below P n) (below P n)) i
    by true h = in_more n i (below P n) h
    by false h = h

    here : (t : Bool) → t ≡ true → Contains (cond t (n ∷ below P n) (below P n)) n
    here true q = (0, omega arith, refl)
    here false q = absurd (let z : false ≡ true = q in cc)

below_meets : (P : ℕ → Bool) (n i : ℕ) → Contains (below P n) i → P i ≡ true
unfolding below
below_meets P zero i h = absurd (let l = h.1 in omega (arith, l))
below_meets P (suc n) i h = by (P n) refl h (λ q. below_meets P n i q)
  where
    by : (t : Bool) → P n ≡ t → Contains (cond t (n ∷ below P n) (below P n)) i → (Contains (below P n) i → P i ≡ true) → P i ≡ true
    by false e h rest = rest h
    by true e (zero, l, q) rest = subst (λ m. P m ≡ true) q e
    by true e (suc k, l, q) rest = rest (k, omega (arith, l), q)

-- the iterations that were left ready
pub ready_list : BookState → List ℕ
ready_list b = below (is_ready b) (length b.tokens)

inside : (xs : List TokenState) (i : ℕ) (f : TokenFields) → get_or xs i Spent ≡ Kept f → i < length xs
inside [] i f e = absurd (let z : Spent ≡ Kept f = e in cc)
inside (x ∷ xs) zero f e = omega arith
inside (x ∷ xs) (suc i) f e = let h = inside xs i f e in omega (arith, h)

pub ready_in : (b : BookState) (i : ℕ) → IsReady b i → Contains (ready_list b) i
unfolding ready_list
ready_in b i h = below_has (is_ready b) (length b.tokens) i (inside b.tokens i h.fields h.kept) (ready_is b i h)

pub in_ready : (b : BookState) (i : ℕ) → Contains (ready_list b) i → IsReady b i
unfolding ready_list
in_ready b i h = ready_of b i (below_meets (is_ready b) (length b.tokens) i h)

-- what a call of `rescue` has seen
pub rescue_sees_of : {M : Type 0} (limit : ℕ) (before after : List Event) (b c : BookState) (r : Rescue M)
    → BeginsWith (events_of b.log) before → after ≡ events_of c.log
    → events_of c.log ≡ events_of b.log ++ rescue_events (state_of b) r → RescueReturns limit (state_of b) (IsReady b) r
    → RescueSees limit before after r
rescue_sees_of limit before after b c r later seen adds h = record {
  base = events_of b.log;
  later = later;
  adds = seen ∙ adds;
  ready = ready_list b;
  running = λ i h. (in_ready b i h).runs;
  returns = returns_same limit (state_of b) (IsReady b) (λ i. Contains (ready_list b) i) r (ready_in b) (in_ready b) h;
}
