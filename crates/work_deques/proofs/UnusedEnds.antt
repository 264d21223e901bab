-- Ends into which nothing was pushed stay so while fronts are added.
use Rattle.std.proofs.Common.{◌≡◌, ◌∙◌, ◌<◌, ◌≤◌, ◌+◌, ◌-◌, ◌++◌, ◌∷◌, [], ℕ, List, All, get_or, length, map, replicate, sym, ap, refl}
use Rattle.std.proofs.Common.{subst, arith}
use Rattle.std.proofs.lemmas.List.{length-map, map-append}
use Rattle.std.proofs.lemmas.List.Elements.{All-get_or, All-head, All-push, All-tail}
use Rattle.crossbeam_deque.specs.Handles.{worker_capacity, worker_index, worker_view}
use Rattle.work_deques.specs.FrontsSoFar.{AreUnused}
use Rattle.work_deques.specs.Tallies.{ALL_PARTS, tally}
use Rattle.work_deques.specs.WorkerEnds.{AreEndsAmong, AreFresh, Deque, capacity_of, front_tallies, index_of, own_tally, tally_of_front}
use Rattle.work_deques.specs.declared.ends.Ends.{Ends}
use Rattle.work_deques.specs.declared.front.Front.{Front}
use Rattle.work_deques.specs.declared.tally.Tally.{Tally}

all_same : {X : Type 0} (x : X) (xs : List X) → All (λ y. y ≡ x) xs → xs ≡ replicate (length xs) x
all_same x [] h = refl
all_same x (y ∷ ys) h =
    let here = All-head (λ z. z ≡ x) y ys h in
    let there = all_same x ys (All-tail (λ z. z ≡ x) y ys h) in
    cc

same_tally : (v : Tally) (parts : ℕ) → v.parts ≡ parts → v.put ≡ [] → v.taken ≡ [] → v ≡ tally parts [] []
same_tally v parts p q r = ap (λ n. tally n v.put v.taken) p ∙ ap (λ xs. tally parts xs v.taken) q ∙ ap (λ xs. tally parts [] xs) r

module _ {T Q : Type 0} (capacity : ℕ) where
  pub unused_at : (ends : List (Ends T Q)) (k : ℕ) (e : Ends T Q) → k < length ends → e ≡ get_or ends k e → All (AreUnused capacity) ends
      → AreUnused capacity e
  unused_at ends k e l at h = subst (AreUnused capacity) (sym at) (All-get_or (AreUnused capacity) ends k e l h)

  pub unused_made : (old new : Ends T Q) → AreUnused capacity old → index_of new ≡ index_of old → capacity_of old ≤ capacity_of new
      → own_tally old ≡ tally ((own_tally new).parts + 1) (own_tally new).put (own_tally new).taken → new.fronts ≡ old.fronts
      → AreUnused capacity new
  unused_made old new h index room own fronts = record {
    index = index ∙ h.index;
    room = omega (arith, h.room, room);
    put = sym (ap (λ (v : Tally). v.put) own) ∙ h.put;
    taken = sym (ap (λ (v : Tally). v.taken) own) ∙ h.taken;
    fronts = subst (λ fs. All (λ v. v ≡ tally 1 [] []) (map tally_of_front fs.items)) (sym fronts) h.fronts;
  }

  pub unused_given : (old new : Ends T Q) (f : Front T Q) → AreUnused capacity old → new.own ≡ old.own
      → new.fronts.items ≡ old.fronts.items ++ f ∷ []
      → tally_of_front f ≡ tally 1 [] [] → AreUnused capacity new
  unused_given old new f h own items new_tally =
      let more : front_tallies new ≡ front_tallies old ++ tally_of_front f ∷ [] = ap (map tally_of_front) items
      ∙ map-append tally_of_front old.fronts.items (f ∷ []) in
      record {
        index = ap worker_index own ∙ h.index;
        room = let r = ap worker_capacity own in omega (arith, r, h.room);
        put = ap (λ (v : Tally). v.put) (ap worker_view own) ∙ h.put;
        taken = ap (λ (v : Tally). v.taken) (ap worker_view own) ∙ h.taken;
        fronts = subst (λ vs. All (λ v. v ≡ tally 1 [] []) vs) (sym more)
            (All-push (λ v. v ≡ tally 1 [] []) (front_tallies old) (tally_of_front f) h.fronts new_tally);
      }

  pub fresh : (deques : List Deque) (workers : ℕ) (e : Ends T Q) → AreUnused capacity e → AreEndsAmong deques e → length deques ≡ workers
      → AreFresh workers capacity e
  fresh deques workers e h all count =
      let many = ap length all.fronts in
      let fronts : length (front_tallies e) ≡ workers = length-map e.fronts.items tally_of_front ∙ sym (length-map e.fronts.items _) ∙ many
      ∙ count in
      let parts : (own_tally e).parts ≡ ALL_PARTS - workers = omega (arith, all.own_parts, count) in
      record {
        index = h.index;
        room = h.room;
        own = same_tally (own_tally e) (ALL_PARTS - workers) parts h.put h.taken;
        fronts = all_same (tally 1 [] []) (front_tallies e) h.fronts ∙ ap (λ n. replicate n (tally 1 [] [])) fronts;
      }
