-- Logs that grow by the entries of a start, and the elements of their lists.
use Rattle.std.proofs.Common.{◌≡◌, subst, ℕ, ◌+◌, ◌≤◌, List, [], ◌∷◌, ◌++◌, length, length-append, true, arith, append_assoc}
use Rattle.std.proofs.lemmas.List.{length_push}
use Rattle.pipe_model.specs.Orders.OrderList.{IsLog, has, list_of_log}
use Rattle.run_laws.proofs.ListOrders.InsertionLists.{entries_insert_elements, list_has_below}

-- a log with the entries of a start
pub pair_is_log : (log : List ℕ) (x : ℕ) → IsLog 1 log → x ≤ length log → IsLog 1 (log ++ x ∷ (1 + length log) ∷ [])
pair_is_log log x ok l =
    let long = length_push log x in
    subst (IsLog 1) (append_assoc log (x ∷ []) ((1 + length log) ∷ []))
    ((entries_insert_elements (log ++ x ∷ []) (1 + length log)).names
    ((entries_insert_elements log x).names ok (omega (arith, l))) (omega (arith, long)))

-- its length
pub length_of_pair : (log : List ℕ) (x y : ℕ) → length (log ++ x ∷ y ∷ []) ≡ length log + 2
length_of_pair log x y = length-append log (x ∷ y ∷ [])

-- the elements of a list are at most the length of its log
pub element_within : (log : List ℕ) (x : ℕ) → IsLog 1 log → has x (list_of_log log) ≡ true → x ≤ length log
element_within log x ok h = let l = (list_has_below log ok).only x h in omega (arith, l)
