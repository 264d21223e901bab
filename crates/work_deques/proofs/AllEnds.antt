-- All ends of all workers: calls on the ends keep this.
use Rattle.std.proofs.Common.{◌≡◌, ◌∙◌, ◌<◌, ◌∷◌, [], ℕ, suc, List, All, get_or, length, map, refl, sym, subst, arith}
use Rattle.work_deques.specs.WorkerEnds.{AreAllEnds, AreEndsAmong, Deque, SameDeques, deque_of}
use Rattle.work_deques.specs.declared.ends.Ends.{Ends}

module _ {T Q : Type 0} where
  pub same_deques-refl : (e : Ends T Q) → SameDeques e e
  same_deques-refl e = record { own = refl; fronts = refl; own_parts = refl; front_parts = refl }

  pub same_deques-trans : (a b c : Ends T Q) → SameDeques a b → SameDeques b c → SameDeques a c
  same_deques-trans a b c h k = record {
    own = k.own ∙ h.own;
    fronts = k.fronts ∙ h.fronts;
    own_parts = k.own_parts ∙ h.own_parts;
    front_parts = k.front_parts ∙ h.front_parts;
  }

  ends_among-same : (deques : List Deque) (old new : Ends T Q) → SameDeques old new → AreEndsAmong deques old → AreEndsAmong deques new
  ends_among-same deques old new same h = record {
    fronts = same.fronts ∙ h.fronts;
    one_part = subst (λ ps. All (λ p. p ≡ 1) ps) (sym same.front_parts) h.one_part;
    own_parts = omega (arith, same.own_parts, h.own_parts);
  }

  own_deques : (old new : List (Ends T Q)) → length new ≡ length old
      → ((k : ℕ) (d : Ends T Q) → k < length old → SameDeques (get_or old k d) (get_or new k d))
      → map deque_of new ≡ map deque_of old
  own_deques [] [] count same = refl
  own_deques [] (y ∷ ys) count same = absurd (omega (arith, count))
  own_deques (x ∷ xs) [] count same = absurd (omega (arith, count))
  own_deques (x ∷ xs) (y ∷ ys) count same =
      let here = (same 0 x (omega arith)).own in
      let there = own_deques xs ys (omega (arith, count)) (λ k d l. same (suc k) d (omega (arith, l))) in
      cc

  -- element by element, the same ends later
  pub all_ends-same : (old new : List (Ends T Q)) → length new ≡ length old
      → ((k : ℕ) (d : Ends T Q) → k < length old → SameDeques (get_or old k d) (get_or new k d))
      → AreAllEnds old → AreAllEnds new
  all_ends-same old new count same h = λ k d l.
      let within : k < length old = omega (arith, count, l) in
      subst (λ ds. AreEndsAmong ds (get_or new k d)) (sym (own_deques old new count same))
      (ends_among-same (map deque_of old) (get_or old k d) (get_or new k d) (same k d within) (h k d within))
