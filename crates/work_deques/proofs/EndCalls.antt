-- What a call on one end of a deque leaves of the worker's ends.
use Rattle.std.proofs.Common.{◌≡◌, ◌∙◌, ◌<◌, ◌∷◌, [], ℕ, List, All, Option, None, Some, Result, Ok, Err, IfSome, MatchOption, MatchResult}
use Rattle.std.proofs.Common.{get_or, length, map, set, sym, ap, arith}
use Rattle.std.proofs.lemmas.List.{get_or-map, get_or-set_other, get_or-set_same, length-set, map-set}
use Rattle.std.proofs.lemmas.List.Elements.{All-head}
use Rattle.work_deques.specs.Tallies.{with_taken}
use Rattle.work_deques.specs.declared.tally.Tally.{Tally}

-- a task that was taken meets the test
pub taken_meets : {T : Type 0} (P : T → Type 0) (r : Option T) (A : Type 0) (B : T → Type 0) → MatchOption r A (λ x. All P (x ∷ []) × B x)
    → IfSome r P
taken_meets P None A B h = tt
taken_meets P (Some x) A B h = All-head P x [] h.0

-- what holds after each result
pub either_option : {T : Type 0} (r : Option T) (A : Type 0) (B : T → Type 0) → MatchOption r A B → (C : Type 0) → (A → C)
    → ((x : T) → B x → C) → C
either_option None A B h C a b = a h
either_option (Some x) A B h C a b = b x h

pub either_result : {T E : Type 0} (r : Result T E) (A : T → Type 0) (B : E → Type 0) → MatchResult r A B → (C : Type 0)
    → ((x : T) → A x → C) → ((x : E) → B x → C) → C
either_result (Ok x) A B h C a b = a x h
either_result (Err x) A B h C a b = b x h

step : {T : Type 0} (r : Option T) (tag : T → ℕ) (old new was is : Tally) → is ≡ new → old ≡ was
    → MatchOption r (new ≡ old) (λ t. new ≡ with_taken old (tag t ∷ [])) → MatchOption r (is ≡ was) (λ t. is ≡ with_taken was (tag t ∷ []))
step None tag old new was is e a h = e ∙ h ∙ a
step (Some t) tag old new was is e a h = e ∙ h ∙ ap (λ v. with_taken v (tag t ∷ [])) a

module _ {X : Type 0} (f : X → Tally) (xs : List X) (k : ℕ) (new : X) (none : Tally) where
  -- the tally of another front
  pub other_tally : (j : ℕ) → (j ≡ k → ⊥) → get_or (map f (set xs k new)) j none ≡ get_or (map f xs) j none
  other_tally j apart = ap (λ ts. get_or ts j none) (map-set f xs k new) ∙ get_or-set_other (map f xs) k j (f new) none apart

  -- the tally of the front that took a task, if there was one
  pub stolen : {T : Type 0} (r : Option T) (tag : T → ℕ) (old : X) → k < length xs → old ≡ get_or xs k old
      → MatchOption r (f new ≡ f old) (λ t. f new ≡ with_taken (f old) (tag t ∷ []))
      → MatchOption r (get_or (map f (set xs k new)) k none ≡ get_or (map f xs) k none)
      (λ t. get_or (map f (set xs k new)) k none ≡ with_taken (get_or (map f xs) k none) (tag t ∷ []))
  stolen r tag old l at h =
      let was : f old ≡ get_or (map f xs) k none = ap f at ∙ sym (get_or-map f xs k old none l) in
      let within : k < length (set xs k new) = omega (arith, length-set xs k new, l) in
      let is : get_or (map f (set xs k new)) k none ≡ f new = get_or-map f (set xs k new) k new none within
      ∙ ap f (get_or-set_same xs k new new l) in
      step r tag (f old) (f new) _ _ is was h
