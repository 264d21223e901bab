-- Reports whose cells differ rise by cell once they are sorted.
use Rattle.std.proofs.Common.{◌≡◌, ◌≢◌, ◌∙◌, ap, sym, subst, refl, ℕ, ◌≤◌, List, [], ◌∷◌, map, length, get_or, eqb, arith, ◌<◌, AllPairs}
use Rattle.std.proofs.lemmas.Bool.Decides.{Decides-eqb, nat_tests}
use Rattle.std.proofs.lemmas.List.{get_or-map, length-map}
use Rattle.std.proofs.lemmas.List.Sorted.{IsPermutation-map}
use Rattle.std.proofs.lemmas.Map.Keys.{IsDistinct-IsPermutation}
use Rattle.std.proofs.lemmas.Map.Made.{AllPairs-from_IsDistinct, IsDistinct-from_AllPairs}
use Rattle.std.specs.List.Sorted.{IsNonDecreasingBy, IsPermutation}
use Rattle.access_history.specs.declared.history.Found.{Found}
use Rattle.pipe_model.specs.declared.access.CellId.{CellId}
use Rattle.pipe_model.specs.declared.node.Node.{Node}
use Rattle.pipe_model.specs.declared.report.Report.{Report}
use Rattle.pipe_model.specs.Races.Reports.{RiseByCell}
use Rattle.race_report.specs.RaceReports.{report_found}

flips : (m n : ℕ) → eqb m n ≡ eqb n m
flips m n = grind (arith, nat_tests)

-- numbers of elements that differ are a list of numbers that differ
AllPairs-map : {X : Type 0} (f : X → ℕ) (xs : List X) → AllPairs (λ a b. f a ≢ f b) xs → AllPairs (λ m n. m ≢ n) (map f xs)
AllPairs-map f [] h i j d less within e = omega arith
AllPairs-map f (x ∷ xs) h i j d less within e =
    let w : j < length (x ∷ xs) = omega (arith, length-map (x ∷ xs) f) in
    h i j x less w (sym (get_or-map f (x ∷ xs) i x d (omega (arith, less, w))) ∙ e ∙ get_or-map f (x ∷ xs) j x d w)

-- and back
AllPairs-from_map : {X : Type 0} (f : X → ℕ) (xs : List X) → AllPairs (λ m n. m ≢ n) (map f xs) → AllPairs (λ a b. f a ≢ f b) xs
AllPairs-from_map f xs h i j d less within e =
    let w : j < length (map f xs) = omega (arith, length-map xs f) in
    h i j 0 less w (get_or-map f xs i d 0 (omega (arith, less, within)) ∙ e ∙ sym (get_or-map f xs j d 0 within))

-- the numbers of the cells of the races, and of their reports
cell_numbers : (columns : List (List Node)) (found : List (CellId × Found))
    → map (λ (r : Report). r.cell.0) (map (λ f. report_found columns f.0 f.1) found) ≡ map (λ (f : CellId × Found). f.0.0) found
cell_numbers columns [] = refl
cell_numbers columns (f ∷ fs) = ap (λ l. f.0.0 ∷ l) (cell_numbers columns fs)

cells_apart : (found : List (CellId × Found)) → AllPairs (λ a b. a.0 ≢ b.0) found → AllPairs (λ a b. a.0.0 ≢ b.0.0) found
cells_apart found h i j d less within e = h i j d less within (ap (λ n. record { 0 = n }) e)

pub sorted_rise : (columns : List (List Node)) (found : List (CellId × Found)) (reports : List Report)
    → AllPairs (λ a b. a.0 ≢ b.0) found
    → IsPermutation (map (λ f. report_found columns f.0 f.1) found) reports
    → IsNonDecreasingBy (λ (r : Report). r.cell.0) reports
    → RiseByCell reports
sorted_rise columns found reports apart same sorted =
    let numbers = IsDistinct-from_AllPairs Decides-eqb _ (AllPairs-map (λ (f : CellId × Found). f.0.0) found (cells_apart found apart)) in
    let moved = subst (λ l. IsPermutation l (map (λ (r : Report). r.cell.0) reports)) (cell_numbers columns found)
    (IsPermutation-map (λ (r : Report). r.cell.0) _ reports same) in
    let differ = AllPairs-from_map (λ (r : Report). r.cell.0) reports
    (AllPairs-from_IsDistinct Decides-eqb _ (IsDistinct-IsPermutation eqb flips _ _ moved numbers)) in
    λ i j d less within.
    let most = sorted i j d (omega (arith, less)) within in
    let apart_here : (get_or reports i d).cell.0 ≢ (get_or reports j d).cell.0 = differ i j d less within in
    strict _ _ most apart_here
  where
    strict : (m n : ℕ) → m ≤ n → m ≢ n → m < n
    strict m n le ne = grind arith
