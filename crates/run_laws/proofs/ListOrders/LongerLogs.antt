-- A longer log keeps the order of the elements that were there; the logs of a run are logs.
use Rattle.std.proofs.Common.{ℕ, List, true, ◌≡◌, ◌↔◌, [], ◌∷◌, ◌+◌, arith, length, ◌++◌, ap, suc, ◌∙◌, subst, sym, ◌*◌, ◌<◌}
use Rattle.pipe_model.specs.Orders.OrderList.{IsLog, has, IsBeforeIn, inserted, insert_after, list_of_log}
use Rattle.pipe_model.specs.Orders.Starts.{start_at, AreStarts, start_number, starts_of}
use Rattle.pipe_model.specs.Runs.State.{own_columns}
use Rattle.pipe_model.specs.Orders.TwoOrders.{log_entries, down_first_taken, right_first_taken}
use Rattle.pipe_model.specs.declared.node.Node.{Node}
use Rattle.pipe_model.specs.declared.node.NodeId.{NodeId}
use Rattle.run_laws.proofs.ListOrders.InsertionLists.{HasBelow, has_below-insert_after, has_old, order_kept, list_has_below}
use Rattle.run_laws.proofs.ListOrders.StartNumbers.{counted_down, counted_right}
use Rattle.run_laws.proofs.ListOrders.StartPlaces.{IsCounted}
use Rattle.run_laws.proofs.ListOrders.SoundStarts.{of_each_run}
use Rattle.run_laws.proofs.ListOrders.StartsOfRuns.{are_columns}
use Rattle.run_laws.specs.OrderLaws.{LongerLogsKeepTheOrder, LogsNameEarlierElements}

module _ (x y : ℕ) where
  -- further entries keep the order of two elements
  inserted_keeps_order : (xs : List ℕ) (e : ℕ) (log : List ℕ) → IsLog e log → HasBelow e xs → has x xs ≡ true
      → has y xs ≡ true → IsBeforeIn (inserted xs e log) x y ↔ IsBeforeIn xs x y
  inserted_keeps_order xs e [] ok h a b = ((λ p. p), (λ p. p))
  inserted_keeps_order xs e (z ∷ log) ok h a b =
      let there = h.each z ok.0 in
      let r = inserted_keeps_order (insert_after z e xs) (e + 1) log ok.1 (has_below-insert_after e xs z ok.0 h)
      (has_old xs z e x there a) (has_old xs z e y there b) in
      let lx = h.only x a in
      let ly = h.only y b in
      let k = order_kept xs z e x y (λ q. omega (arith, q, lx)) (λ q. omega (arith, q, ly)) in
      ((λ p. k.0 (r.0 p)), (λ p. r.1 (k.1 p)))

-- the entries of two logs, one after the other
inserted-append : (xs : List ℕ) (e : ℕ) (log more : List ℕ)
    → inserted xs e (log ++ more) ≡ inserted (inserted xs e log) (e + length log) more
inserted-append xs e [] more = let z : e ≡ e + 0 = omega arith in ap (λ k. inserted xs k more) z
inserted-append xs e (z ∷ log) more = inserted-append (insert_after z e xs) (e + 1) log more ∙ (
    let q : e + 1 + length log ≡ e + suc (length log) = omega arith in
    ap (λ k. inserted (inserted (insert_after z e xs) (e + 1) log) k more) q)

-- both parts of a log are logs
log_parts : (e : ℕ) (log more : List ℕ) → IsLog e (log ++ more) → IsLog e log × IsLog (e + length log) more
log_parts e [] more h = (tt, (let z : e ≡ e + 0 = omega arith in subst (λ k. IsLog k more) z h))
log_parts e (z ∷ log) more h = let r = log_parts (e + 1) log more h.1 in
    ((h.0, r.0), (let q : e + 1 + length log ≡ e + suc (length log) = omega arith in subst (λ k. IsLog k more) q r.1))

-- the law of longer logs
pub longer_logs_keep_the_order : LongerLogsKeepTheOrder
longer_logs_keep_the_order log more x y ok a b =
    let parts = log_parts 1 log more ok in
    let below = list_has_below log parts.0 in
    let q : length log + 1 ≡ 1 + length log = omega arith in
    let below' : HasBelow (1 + length log) (list_of_log log) = subst (λ k. HasBelow k (list_of_log log)) q below in
    subst (λ l. IsBeforeIn l x y ↔ IsBeforeIn (list_of_log log) x y) (sym (inserted-append (0 ∷ []) 1 log more))
    (inserted_keeps_order x y (list_of_log log) (1 + length log) more parts.1 below' a b)

-- the entries of starts are a log
log_entries_are_log : (taken : ℕ → ℕ → ℕ) (m : ℕ) (xs : List NodeId)
    → ((t : ℕ) → t < length xs → taken (start_at xs t).iteration (start_at xs t).index < 1 + 2 * (m + t))
    → IsLog (1 + 2 * m) (log_entries taken m xs)
log_entries_are_log taken m [] h = tt
log_entries_are_log taken m (x ∷ xs) h =
    let first : taken x.iteration x.index < 1 + 2 * (m + 0) = h 0 (omega arith) in
    let q : 1 + 2 * (m + 1) ≡ 1 + 2 * m + 1 + 1 = omega arith in (
      (omega (arith, first)),
      (
        (omega arith),
        subst (λ k. IsLog k (log_entries taken (m + 1) xs)) q
            (log_entries_are_log taken (m + 1) xs (λ t l. (
            let g : taken (start_at xs t).iteration (start_at xs t).index < 1 + 2 * (m + suc t) =
            h (suc t) (omega (arith, l)) in
            omega (arith, g)))),
      ),
    )

-- the entries are a log if each start takes an element of an earlier one
counted_is_log : (columns : List (List Node)) (starts : List NodeId) (taken : ℕ → ℕ → ℕ) → AreStarts columns starts
    → IsCounted (start_number starts) taken (length starts) → IsLog 1 (log_entries taken 0 starts)
counted_is_log columns starts taken ord c = log_entries_are_log taken 0 starts (λ t l.
    let once = ord.once t l in
    let b = c.below (start_at starts t).iteration (start_at starts t).index (omega (arith, once, l)) in
    omega (arith, once, b))

-- the logs of a run
pub logs_name_earlier_elements : LogsNameEarlierElements
logs_name_earlier_elements = of_each_run (λ limit events s r. let h = r.sound in (
  counted_is_log (own_columns s) (starts_of events) (down_first_taken (start_number (starts_of events))) h.ordered
      (counted_down (own_columns s) (starts_of events) (are_columns s.frames (starts_of events) h) h.ordered),
  counted_is_log (own_columns s) (starts_of events)
      (right_first_taken (own_columns s) (start_number (starts_of events))) h.ordered
      (counted_right (own_columns s) (starts_of events) (are_columns s.frames (starts_of events) h) h.ordered),
))
