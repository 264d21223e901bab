-- Tallies of tasks: what was put into a deque is what was taken out and what is there.
use Rattle.std.specs.Prelude.{◌≡◌, ◌+◌, ◌++◌, ◌∷◌, [], ℕ, List, map, All, sum_by}
use Rattle.work_deques.specs.declared.tally.Tally.{Tally}

abbrev pub tally : ℕ → List ℕ → List ℕ → Tally
tally parts put taken = record { parts = parts; put = put; taken = taken }

-- more parts than a deque has ends
abbrev pub ALL_PARTS : ℕ
ALL_PARTS = 8589934592

abbrev pub with_put : Tally → List ℕ → Tally
with_put v xs = tally v.parts (v.put ++ xs) v.taken

abbrev pub with_taken : Tally → List ℕ → Tally
with_taken v xs = tally v.parts v.put (v.taken ++ xs)

abbrev pub joined : Tally → Tally → Tally
joined v w = tally (v.parts + w.parts) (v.put ++ w.put) (v.taken ++ w.taken)

-- a number of a tally that is the sum of the numbers of its parts
abbrev pub IsAdditive : (Tally → ℕ) → Type 0
IsAdditive f = (v w : Tally) → f (joined v w) ≡ f v + f w

-- an end without a part has put and taken nothing
abbrev pub IsIdle : Tally → Type 0
IsIdle v = v.parts ≡ 0 → (v.put ≡ []) × (v.taken ≡ [])

abbrev pub AreIdle : List Tally → Type 0
AreIdle [] = Unit {0}
AreIdle (v ∷ vs) = IsIdle v × AreIdle vs

-- however the tasks are weighed: what was put in is what was taken out and what is left
abbrev pub IsEven : Tally → List ℕ → Type 0
IsEven v left = (h : ℕ → ℕ) → sum_by h v.put ≡ sum_by h v.taken + sum_by h left

-- the tasks in a deque and the tallies of all its ends
pub record IsBalanced {T : Type 0} (meets : T → Type 0) (tag : T → ℕ) (items : List T) (tallies : List Tally) : Type 0 where
  pub met : All meets items
  pub parts : sum_by (λ v. v.parts) tallies ≡ ALL_PARTS
  pub even : (h : ℕ → ℕ) → sum_by (λ v. sum_by h v.put) tallies ≡ sum_by (λ v. sum_by h v.taken) tallies + sum_by h (map tag items)
  pub idle : AreIdle tallies
