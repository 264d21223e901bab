-- The histories of a hall that has ended, and what they have found.
use Rattle.std.proofs.Common.{◌≡◌, ◌∙◌, refl, sym, ap, subst, ℕ, ◌+◌, ◌*◌, ◌<◌, ◌%◌, ◌/◌, List, [], ◌∷◌, ◌++◌, length, map, arith, suc}
use Rattle.std.proofs.Common.{Option, Some, None}
use Rattle.access_history.specs.declared.history.History.{History}
use Rattle.race_detection.specs.NotedRuns.{found_of as race_of}
use Rattle.std.specs.Prelude.{slice_index_or}
use Rattle.std.specs.List.{flat_map}
use Rattle.access_history.specs.declared.history.Found.{Found}
use Rattle.std.proofs.lemmas.List.{get_or-map, length-map}
use Rattle.std.proofs.lemmas.Nat.{div-add-mod', mod_below}
use Rattle.access_history.specs.KeptInstances.{IsHistoryAfter}
use Rattle.pipe_model.specs.Orders.TwoOrders.{down_place, right_place}
use Rattle.pipe_model.specs.declared.access.CellId.{CellId}
use Rattle.run_record.specs.MergedLogs.{shard_at}
use Rattle.hall_laws.specs.HallReports.{AreFound, AreFoundInShard, columns_of_book, found_in_slots as reports_in_slots, starts_of_book}
use Rattle.hall_laws.specs.HallRuns.{entries_to}
use Rattle.hall_laws.proofs.ShardRaces.{shards_find_all}
use Rattle.hall_laws.proofs.SlotRaces.{slots_are_found}
use Rattle.hall_calls.specs.Closing.{no_shard, shard_in}
use Rattle.hall_shards.specs.FoundRaces.{found_by, found_in, found_in_slots, found_of}
use Rattle.hall_table.specs.Logs.{noted_to}
use Rattle.hall_shards.specs.ShardValues.{ShardValue, history_at}
use Rattle.hall_headline.specs.HallEnds.{HallEndsHaveHistories, HallEndsFindAll, history_of, logs_of}
use Rattle.hall_headline.proofs.HallEnds.{has_shard, log_is, width}

pub hall_ends_have_histories : HallEndsHaveHistories
hall_ends_have_histories before b shards h = record { each = each }
  where
    each : (c : ℕ) → IsHistoryAfter (down_place (starts_of_book b)) (right_place (columns_of_book b) (starts_of_book b))
        (entries_to (logs_of shards) c) (history_of shards c)
    each c =
        let k = c % 16 in
        let slot = c / 16 in
        let less : k < 16 = mod_below c 16 (omega arith) in
        let log = (shard_in shards k).log in
        let cell : k + 16 * slot ≡ c = (let whole = div-add-mod' c 16 in omega (arith, whole)) in
        let noted : noted_to (k + 16 * slot) log ≡ entries_to (logs_of shards) c =
        ap (λ n. noted_to n log) cell ∙ ap (noted_to c) (sym (log_is before b shards h k less))
        ∙ ap (λ n. noted_to c (shard_at (logs_of shards) (c % n))) (sym (width before b shards h)) in
        subst (λ l. IsHistoryAfter (down_place (starts_of_book b)) (right_place (columns_of_book b) (starts_of_book b)) l
        (history_of shards c)) noted
        (h.ended.histories k less slot)

-- ---- what was found

one_report : (c : ℕ) (found : Option Found) (xs ys : List (CellId × Found)) → xs ≡ ys → found_of c found ++ xs ≡ race_of c found ++ ys
one_report c None xs ys e = e
one_report c (Some f) xs ys e = ap (λ l. (record { 0 = c }, f) ∷ l) e

-- what a shard returns is what its histories report
slots_are : (width k slot : ℕ) (histories : List History) → found_in_slots width k slot histories ≡ reports_in_slots width k slot histories
slots_are width k slot [] = refl
slots_are width k slot (h ∷ hs) = one_report (slot * width + k) h.report _ _ (slots_are width k (suc slot) hs)

flat_map_is : (shards : List ShardValue) → flat_map (λ x. x) (map found_in shards) ≡ found_by shards
flat_map_is [] = refl
flat_map_is (x ∷ shards) = ap (λ l. found_in x ++ l) (flat_map_is shards)

pub hall_ends_find_all : HallEndsFindAll
hall_ends_find_all before b shards h =
    subst (AreFound (history_of shards)) (flat_map_is shards)
    (shards_find_all (history_of shards) founds (omega (arith, wide)) found_at)
  where
    founds : List (List (CellId × Found))
    founds = map found_in shards

    wide : length founds ≡ 16
    wide = length-map shards found_in ∙ h.count

    found_at : (k : ℕ) → k < length founds → AreFoundInShard (length founds) k (history_of shards) (slice_index_or founds k [])
    found_at k l =
        let count = h.count in
        let less : k < 16 = omega (arith, l, wide) in
        let x = shard_in shards k in
        let here : slice_index_or founds k [] ≡ reports_in_slots 16 k 0 x.histories =
        get_or-map found_in shards k no_shard [] (omega (arith, less, count))
        ∙ (ap (λ n. found_in_slots 16 n 0 x.histories) (has_shard before b shards h k less).shard.number ∙ slots_are 16 k 0 x.histories) in
        subst (λ n. AreFoundInShard n k (history_of shards) (slice_index_or founds k [])) (sym wide)
        (subst (AreFoundInShard 16 k (history_of shards)) (sym here)
        (slots_are_found 16 k x.histories (history_of shards) less
        (λ c own. ap (λ m. history_at (shard_in shards m).histories (c / 16)) own)))
