-- Lists in order, by a test of each element and the next.
use Rattle.std.proofs.Common.{◌∙◌, sym, ap, subst, ℕ, zero, suc, ◌<◌, List, [], ◌∷◌, get_or, AllPairs, arith, inl, inr}
use Rattle.pipe_model.specs.Races.DeterminacyRaces.{Among}
use Rattle.pipe_model.specs.Runs.TicketLogs.{ComesBefore, InOrder, LogEntry, TicketsRise, TimedAction}
use Rattle.pipe_model.proofs.Members.{among_at, among_either, none_among, only_one}

-- ---- rising numbers

-- the numbers of the elements rise strictly, and are above `low` and below `top`
abbrev pub Rises : {A : Type 0} → (A → ℕ) → ℕ → ℕ → List A → Type 0
Rises number low top [] = Unit {0}
Rises number low top (x ∷ xs) = (low < number x) × (number x < top) × Rises number (number x) top xs

pub rises_within : {A : Type 0} (number : A → ℕ) (low top : ℕ) (xs : List A) → Rises number low top xs → (x : A) → Among x xs
    → (low < number x) × (number x < top)
rises_within number low top [] h x m = absurd (none_among x m)
rises_within number low top (y ∷ ys) h x m = elim (among_either x (y ∷ []) ys m) [
  | inl here ↦ (let same = ap number (only_one x y here) in let a = h.0 in let b = h.1 in (omega (arith, same, a), omega (arith, same, b)))
  | inr there ↦ (let w = rises_within number (number y) top ys h.2 x there in let a = w.0 in let b = h.0 in (omega (arith, a, b), w.1))
]

pub rises_pairs : {A : Type 0} (number : A → ℕ) (low top : ℕ) (xs : List A) → Rises number low top xs
    → AllPairs (λ (a : A) (b : A). number a < number b) xs
rises_pairs number low top [] h i j d l w = absurd (omega (arith, w))
rises_pairs number low top (x ∷ xs) h zero zero d l w = absurd (omega (arith, l))
rises_pairs number low top (x ∷ xs) h zero (suc j) d l w =
    (rises_within number (number x) top xs h.2 (get_or xs j d) (among_at xs j d (omega (arith, w)))).0
rises_pairs number low top (x ∷ xs) h (suc i) zero d l w = absurd (omega (arith, l))
rises_pairs number low top (x ∷ xs) h (suc i) (suc j) d l w = rises_pairs number (number x) top xs h.2 i j d (omega (arith, l))
    (omega (arith, w))

abbrev pub time : TimedAction → ℕ
time x = x.ticket

pub rises_in_trace : (low top : ℕ) (xs : List TimedAction) → Rises time low top xs → TicketsRise xs
rises_in_trace low top [] h = tt
rises_in_trace low top (x ∷ xs) h = (λ y m. (rises_within time x.ticket top xs h.2 y m).0, rises_in_trace x.ticket top xs h.2)

-- ---- a merge

-- each entry precedes the next one
abbrev pub Follow : LogEntry → List LogEntry → Type 0
Follow x [] = Unit {0}
Follow x (y ∷ ys) = ComesBefore x y × Follow y ys

before_transitive : (x y z : LogEntry) → ComesBefore x y → ComesBefore y z → ComesBefore x z
before_transitive x y z (inl a) (inl b) = inl (omega (arith, a, b))
before_transitive x y z (inl a) (inr b) = (let q = b.0 in inl (omega (arith, a, q)))
before_transitive x y z (inr a) (inl b) = (let q = a.0 in inl (omega (arith, b, q)))
before_transitive x y z (inr a) (inr b) = (let q = a.0 in let r = b.0 in let s = a.1 in let t = b.1 in inr (q ∙ r, omega (arith, s, t)))

all_follow : (x : LogEntry) (ys : List LogEntry) → Follow x ys → (z : LogEntry) → Among z ys → ComesBefore x z
all_follow x [] h z m = absurd (none_among z m)
all_follow x (y ∷ ys) h z m = elim (among_either z (y ∷ []) ys m) [
  | inl here ↦ subst (ComesBefore x) (sym (only_one z y here)) h.0
  | inr there ↦ before_transitive x y z h.0 (all_follow y ys h.1 z there)
]

pub in_order : (x : LogEntry) (ys : List LogEntry) → Follow x ys → InOrder (x ∷ ys)
in_order x [] h = (λ y m. absurd (none_among y m), tt)
in_order x (y ∷ ys) h = (all_follow x (y ∷ ys) h, in_order y ys h.1)
