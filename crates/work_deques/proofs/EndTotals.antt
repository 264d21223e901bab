-- Numbers of all tallies, added up over all ends of all workers, do not change while fronts are given back.
use Rattle.std.proofs.Common.{◌≡◌, ◌∙◌, ◌<◌, ◌+◌, ◌++◌, ◌∷◌, [], ℕ, List, get_or, length, map, set, sum_by, ap, arith}
use Rattle.std.proofs.lemmas.List.{map-append}
use Rattle.std.proofs.lemmas.List.Sums.{sum_by-set, sum_by_push}
use Rattle.crossbeam_deque.specs.Handles.{worker_view}
use Rattle.work_deques.specs.FrontsSoFar.{IsWhole}
use Rattle.work_deques.specs.Tallies.{IsAdditive, joined}
use Rattle.work_deques.specs.WorkerEnds.{front_tallies, over_ends, own_tally, tally_of_front}
use Rattle.work_deques.specs.declared.ends.Ends.{Ends}
use Rattle.work_deques.specs.declared.front.Front.{Front}
use Rattle.work_deques.specs.declared.tally.Tally.{Tally}

module _ {T Q : Type 0} (f : Tally → ℕ) where
  abbrev of_worker : Ends T Q → ℕ
  of_worker e = f (own_tally e) + sum_by f (front_tallies e)

  module _ (ends : List (Ends T Q)) (k : ℕ) (old new : Ends T Q) (front : Front T Q) (l : k < length ends)
      (at : old ≡ get_or ends k old) where
    changes : over_ends f (set ends k new) + of_worker old ≡ over_ends f ends + of_worker new
    changes = let same = ap of_worker at in omega (arith, sum_by-set of_worker ends k new old l, same)

    pub taken_away : new.own ≡ old.own → old.fronts.items ≡ new.fronts.items ++ front ∷ []
        → over_ends f (set ends k new) + f (tally_of_front front) ≡ over_ends f ends
    taken_away own items =
        let less : front_tallies old ≡ front_tallies new ++ tally_of_front front ∷ [] = ap (map tally_of_front) items
        ∙ map-append tally_of_front new.fronts.items (front ∷ []) in
        let fronts = ap (sum_by f) less ∙ sum_by_push f (front_tallies new) (tally_of_front front) in
        let mine : f (own_tally new) ≡ f (own_tally old) = ap f (ap worker_view own) in
        omega (arith, changes, fronts, mine)

    pub given_back : IsAdditive f → own_tally new ≡ joined (own_tally old) (tally_of_front front) → new.fronts ≡ old.fronts
        → over_ends f (set ends k new) ≡ over_ends f ends + f (tally_of_front front)
    given_back additive own fronts =
        let mine : f (own_tally new) ≡ f (own_tally old) + f (tally_of_front front) = ap f own
        ∙ additive (own_tally old) (tally_of_front front) in
        let same : sum_by f (front_tallies new) ≡ sum_by f (front_tallies old) = ap (λ fs. sum_by f (map tally_of_front fs.items)) fronts in
        omega (arith, changes, mine, same)

  -- of ends that got all fronts back only the own tally is left
  pub one_less : (ends rest : List (Ends T Q)) (e : Ends T Q) → ends ≡ rest ++ e ∷ [] → IsWhole e
      → over_ends f ends ≡ over_ends f rest + f (own_tally e)
  one_less ends rest e items whole =
      let all = ap (over_ends f) items in
      let fronts : sum_by f (front_tallies e) ≡ 0 = ap (λ fs. sum_by f (map tally_of_front fs)) whole.1 in
      omega (arith, all, sum_by_push of_worker rest e, fronts)
