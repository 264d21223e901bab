-- Prefixes of a log of insertions.
use Rattle.std.proofs.Common.{◌≡◌, ℕ, ◌+◌, ◌<◌, ◌≤◌, ◌↔◌, List, [], ◌∷◌, ◌++◌, length, Bool, true, false, cond, leb, refl, sym, ap, ◌∙◌}
use Rattle.std.proofs.Common.{arith, append_assoc, append-nil}
use Rattle.std.proofs.lemmas.Bool.{le-leb, lt-leb}
use mathlib.Core.Logic.{dite}
use native.Mathlib.Decide.{dec_le}
use Rattle.pipe_model.specs.Orders.OrderList.{IsLog, IsBeforeIn, list_of_log}
use Rattle.run_laws.proofs.ListOrders.InsertionLists.{list_has_below}
use Rattle.run_laws.proofs.ListOrders.LongerLogs.{longer_logs_keep_the_order}
use Rattle.om_shared.specs.SharedLists.{StartsWith}
use Rattle.om_shared.specs.Steps.{longer}

-- a prefix of a log is a log
pub log_prefix : (e : ℕ) (log more : List ℕ) → IsLog e (log ++ more) → IsLog e log
log_prefix e [] more h = tt
log_prefix e (z ∷ log) more h = (h.0, log_prefix (e + 1) log more h.1)

-- a longer log changes the order of no two elements that were there
pub longer_order : (log rest : List ℕ) (x y : ℕ) → IsLog 1 (log ++ rest) → x ≤ length log → y ≤ length log
    → IsBeforeIn (list_of_log (log ++ rest)) x y ↔ IsBeforeIn (list_of_log log) x y
longer_order log rest x y ok lx ly =
    let below = list_has_below log (log_prefix 1 log rest ok) in
    longer_logs_keep_the_order log rest x y ok (below.each x (omega (arith, lx))) (below.each y (omega (arith, ly)))

-- a prefix stays one if the log gets longer
pub prefix_extended : (log seen more : List ℕ) → StartsWith log seen → StartsWith (log ++ more) seen
prefix_extended log seen more p = (p.0 ++ more, ap (λ xs. xs ++ more) p.1 ∙ append_assoc seen p.0 more)

-- of two prefixes of one list the shorter is a prefix of the longer
shorter_prefix : (log a b : List ℕ) → StartsWith log a → StartsWith log b → length a ≤ length b → StartsWith b a
shorter_prefix log [] b pa pb le = (b, refl)
shorter_prefix log (x ∷ a) [] pa pb le = absurd (omega (arith, le))
shorter_prefix [] (x ∷ a) (y ∷ b) pa pb le = let e = pa.1 in cc
shorter_prefix (z ∷ log) (x ∷ a) (y ∷ b) pa pb le =
    let ea : z ∷ log ≡ x ∷ (a ++ pa.0) = pa.1 in
    let eb : z ∷ log ≡ y ∷ (b ++ pb.0) = pb.1 in
    let same : y ≡ x = cc in
    let ra : log ≡ a ++ pa.0 = cc in
    let rb : log ≡ b ++ pb.0 = cc in
    let t = shorter_prefix log a b (pa.0, ra) (pb.0, rb) (omega (arith, le)) in (t.0, λ i. same i ∷ t.1 i)

-- the longer of two prefixes begins with both
pub longer_prefix : (log a b : List ℕ) → StartsWith log a → StartsWith log b
    → StartsWith log (longer a b) × StartsWith (longer a b) a × StartsWith (longer a b) b
longer_prefix log a b pa pb = dite (dec_le (length a) (length b))
    (λ le.
    let t : leb (length a) (length b) ≡ true = le-leb (length a) (length b) le in
    rw t (pb, shorter_prefix log a b pa pb le, ([], sym (append-nil b))))
    (λ no.
    let t : leb (length a) (length b) ≡ false = lt-leb (length a) (length b) (omega (arith, no)) in
    rw t (pa, ([], sym (append-nil a)), shorter_prefix log b a pb pa (omega (arith, no))))

pub length_longer : (a b : List ℕ) (n : ℕ) → length a < n → length b < n → length (longer a b) < n
length_longer a b n la lb = by_test (leb (length a) (length b))
  where
    by_test : (t : Bool) → length (cond t b a) < n
    by_test true = lb
    by_test false = la
