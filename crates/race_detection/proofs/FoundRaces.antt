-- What the histories have found, as reports.
use Rattle.std.proofs.Common.{◌≡◌, ◌≢◌, ◌∙◌, ◌<◌, ◌≤◌, ℕ, zero, suc, List, [], ◌∷◌, ◌++◌, All, AllPairs, Contains, Result, Ok, Err, IfOk}
use Rattle.std.proofs.Common.{◌⊎◌, inl, inr, Option, Some, None, IfSome, length, map, ap, ap₂, refl, sym, subst, arith}
use Rattle.std.proofs.lemmas.List.{append-nil, get_or-map, length-map, map-append}
use Rattle.std.proofs.lemmas.List.Elements.{All-append, All-cons}
use Rattle.std.proofs.lemmas.List.Quantifiers.{all_pairs_push}
use Rattle.std.proofs.lemmas.List.Sorted.{Contains-permutation, IsPermutation-sym}
use Rattle.std.specs.List.Sorted.{IsPermutation}
use Rattle.access_history.specs.declared.history.Found.{Found}
use Rattle.access_history.specs.declared.history.History.{History}
use Rattle.access_history.specs.KeptInstances.{report_of_race}
use Rattle.pipe_model.specs.declared.memory.NoMemory.{NoMemory}
use Rattle.pipe_model.specs.declared.access.CellId.{CellId}
use Rattle.pipe_model.specs.declared.access.NodeAccess.{NodeAccess}
use Rattle.pipe_model.specs.declared.node.Node.{Node}
use Rattle.pipe_model.specs.declared.node.NodeId.{NodeId}
use Rattle.pipe_model.specs.declared.report.Report.{Report}
use Rattle.pipe_model.specs.Orders.AccessHistory.{FoundRace}
use Rattle.pipe_model.specs.Orders.HistoryRaces.{found_race_of_cell}
use Rattle.pipe_model.specs.Orders.HistoryReports as reports
use Rattle.pipe_model.specs.Orders.HistoryReports.{reports_below}
use Rattle.pipe_model.specs.Orders.TwoOrders.{down_place, right_place}
use Rattle.pipe_model.specs.Races.CellRaces.{NotedAccess, accesses_to}
use Rattle.pipe_model.specs.Races.Reports.{RiseByCell}
use Rattle.schedule_laws.proofs.HistoryFolds.{histories_are_states}
use Rattle.race_report.specs.RaceReports.{IsFoundIn, report_found}
use Rattle.race_detection.specs.NotedRuns.{HaveNoted, found_below, found_of, history_at}

-- ---- the cells of what was found

-- one more at the end of a list of cells that rise
rising_with : (found : List (CellId × Found)) (c : ℕ) (report : Option Found) → AllPairs (λ (a b : CellId × Found). a.0.0 < b.0.0) found
    → All (λ (f : CellId × Found). f.0.0 < c) found → AllPairs (λ (a b : CellId × Found). a.0.0 < b.0.0) (found ++ found_of c report)
rising_with found c None rise below = rw (append-nil found) rise
rising_with found c (Some race) rise below =
    all_pairs_push (λ (a b : CellId × Found). a.0.0 < b.0.0) found (record { 0 = c }, race) rise below

one_below : (c : ℕ) (report : Option Found) → All (λ (f : CellId × Found). f.0.0 < suc c) (found_of c report)
one_below c None = λ k d w. absurd (omega (arith, w))
one_below c (Some race) =
    All-cons (λ (f : CellId × Found). f.0.0 < suc c) (record { 0 = c }, race) [] (omega arith) (λ k d w. absurd (omega (arith, w)))

below_with : (found : List (CellId × Found)) (c : ℕ) (report : Option Found) → All (λ (f : CellId × Found). f.0.0 < c) found
    → All (λ (f : CellId × Found). f.0.0 < suc c) (found ++ found_of c report)
below_with found c report below =
    All-append (λ (f : CellId × Found). f.0.0 < suc c) found (found_of c report) (λ k d w. let l = below k d w in omega (arith, l))
    (one_below c report)

found_is_below : (histories : List History) (n : ℕ) → All (λ (f : CellId × Found). f.0.0 < n) (found_below histories n)
found_is_below histories zero = λ k d w. absurd (omega (arith, w))
found_is_below histories (suc n) = below_with (found_below histories n) n (history_at histories n).report (found_is_below histories n)

found_rises : (histories : List History) (n : ℕ) → AllPairs (λ (a b : CellId × Found). a.0.0 < b.0.0) (found_below histories n)
found_rises histories zero = λ i j d l w. absurd (omega (arith, w))
found_rises histories (suc n) =
    rising_with (found_below histories n) n (history_at histories n).report (found_rises histories n) (found_is_below histories n)

-- the cells differ
pub found_apart : (histories : List History) (n : ℕ) (found : List (CellId × Found)) → found ≡ found_below histories n
    → AllPairs (λ a b. a.0 ≢ b.0) found
found_apart histories n found is = rw is (λ i j d l w e. let rise = found_rises histories n i j d l w in let same = ap (λ c. c.0) e in
    omega (arith, rise, same))

-- ---- the instances

inside_with : (columns : List (List Node)) (found : List (CellId × Found)) (c : ℕ) (report : Option Found)
    → IfSome report (IsFoundIn columns)
    → All (λ (f : CellId × Found). IsFoundIn columns f.1) found → All (λ (f : CellId × Found). IsFoundIn columns f.1)
    (found ++ found_of c report)
inside_with columns found c None inside all = rw (append-nil found) all
inside_with columns found c (Some race) inside all =
    All-append (λ (f : CellId × Found). IsFoundIn columns f.1) found (found_of c (Some race)) all
    (All-cons (λ (f : CellId × Found). IsFoundIn columns f.1) (record { 0 = c }, race) [] inside (λ k d w. absurd (omega (arith, w))))

all_inside : (columns : List (List Node)) (starts : List NodeId) (accesses : List NodeAccess) (histories : List History) (n : ℕ)
    → HaveNoted columns starts accesses histories → n ≤ length histories → All (λ (f : CellId × Found). IsFoundIn columns f.1)
    (found_below histories n)
all_inside columns starts accesses histories zero noted w = λ k d l. absurd (omega (arith, l))
all_inside columns starts accesses histories (suc n) noted w =
    inside_with columns (found_below histories n) n (history_at histories n).report (noted.each n (omega (arith, w))).report
    (all_inside columns starts accesses histories n noted (omega (arith, w)))

pub found_inside : (columns : List (List Node)) (starts : List NodeId) (accesses : List NodeAccess) (histories : List History)
    (found : List (CellId × Found)) → HaveNoted columns starts accesses histories → found ≡ found_below histories (length histories)
    → All (λ (f : CellId × Found). IsFoundIn columns f.1) found
found_inside columns starts accesses histories found noted is =
    rw is (all_inside columns starts accesses histories (length histories) noted (omega arith))

-- ---- the reports

-- the report of a cell
report_is : (columns : List (List Node)) (c : ℕ) (accesses : List NotedAccess) (race : Option FoundRace)
    → map (λ (f : CellId × Found). report_found columns f.0 f.1) (found_of c (report_of_race accesses race)) ≡ reports.report_found columns
    c accesses race
report_is columns c accesses None = refl
report_is columns c accesses (Some race) = refl

reports_so_far : (columns : List (List Node)) (starts : List NodeId) (accesses : List NodeAccess) (histories : List History) (n : ℕ)
    → HaveNoted columns starts accesses histories → n ≤ length histories
    → map (λ (f : CellId × Found). report_found columns f.0 f.1) (found_below histories n) ≡ reports_below columns starts accesses n
reports_so_far columns starts accesses histories zero noted w = refl
reports_so_far columns starts accesses histories (suc n) noted w =
    let here = noted.each n (omega (arith, w)) in
    let state = histories_are_states (down_place starts) (right_place columns starts) (accesses_to n accesses) in
    let report : (history_at histories n).report ≡ report_of_race (accesses_to n accesses) (found_race_of_cell columns starts accesses n) =
    here.after.report ∙ ap (report_of_race (accesses_to n accesses)) state.found in
    map-append _ (found_below histories n) (found_of n (history_at histories n).report)
    ∙ ap₂ (λ xs ys. xs ++ ys) (reports_so_far columns starts accesses histories n noted (omega (arith, w)))
    (ap (λ r. map (λ (f : CellId × Found). report_found columns f.0 f.1) (found_of n r)) report
    ∙ report_is columns n (accesses_to n accesses) (found_race_of_cell columns starts accesses n))

-- the reports rise by cell
reports_rise : (columns : List (List Node)) (found : List (CellId × Found)) → AllPairs (λ (a b : CellId × Found). a.0.0 < b.0.0) found
    → RiseByCell (map (λ (f : CellId × Found). report_found columns f.0 f.1) found)
reports_rise columns [] rise i j d l w = absurd (omega (arith, w))
reports_rise columns (f ∷ fs) rise i j d l w =
    let count = length-map (f ∷ fs) (λ (g : CellId × Found). report_found columns g.0 g.1) in
    let here : j < length (f ∷ fs) = omega (arith, w, count) in
    let earlier = get_or-map (λ (g : CellId × Found). report_found columns g.0 g.1) (f ∷ fs) i f d (omega (arith, l, here)) in
    let later = get_or-map (λ (g : CellId × Found). report_found columns g.0 g.1) (f ∷ fs) j f d here in
    let less = rise i j f l here in
    let a = ap (λ (r : Report). r.cell.0) earlier in
    let b = ap (λ (r : Report). r.cell.0) later in
    omega (arith, a, b, less)

-- ---- sorted reports

-- the first of rising reports is below all others
pub first_below : (x : Report) (xs : List Report) (r : Report) → RiseByCell (x ∷ xs) → Contains xs r → x.cell.0 < r.cell.0
first_below x xs r rise c =
    let less = rise 0 (suc c.0) r (omega arith) (let w = c.1 in omega (arith, w)) in
    let same = ap (λ (y : Report). y.cell.0) c.2 in
    omega (arith, less, same)

-- the others rise too
pub others_rise : (x : Report) (xs : List Report) → RiseByCell (x ∷ xs) → RiseByCell xs
others_rise x xs rise i j d l w = rise (suc i) (suc j) d (omega (arith, l)) (omega (arith, w))

-- an element is the first or one of the others
first_or_other : (x : Report) (xs : List Report) (r : Report) → Contains (x ∷ xs) r → (x ≡ r) ⊎ Contains xs r
first_or_other x xs r (zero, w, e) = inl e
first_or_other x xs r (suc k, w, e) = inr (k, omega (arith, w), e)

-- an element that is greater than the first is one of the others
pub among_others : (x : Report) (xs : List Report) (r : Report) → x.cell.0 < r.cell.0 → Contains (x ∷ xs) r → Contains xs r
among_others x xs r less c = elim (first_or_other x xs r c) [
  | inl same ↦ (let e = ap (λ (y : Report). y.cell.0) same in absurd (omega (arith, e, less)))
  | inr other ↦ other
]

pub one_first : (x y : Report) (xs ys : List Report) → RiseByCell (x ∷ xs) → RiseByCell (y ∷ ys) → Contains (y ∷ ys) x → Contains (x ∷ xs) y
    → x ≡ y
one_first x y xs ys p q a b = elim (first_or_other y ys x a) [
  | inl same ↦ sym same
  | inr later ↦ elim (first_or_other x xs y b) [
    | inl same ↦ same
    | inr also ↦ (let l = first_below x xs y p also in let m = first_below y ys x q later in absurd (omega (arith, l, m)))
  ]
]

-- two rising lists with the same elements are equal
pub one_list : (xs ys : List Report) → RiseByCell xs → RiseByCell ys → ((r : Report) → Contains xs r → Contains ys r)
    → ((r : Report) → Contains ys r → Contains xs r) → xs ≡ ys
one_list [] [] p q f g = refl
one_list [] (y ∷ ys) p q f g = let w = (g y (0, omega arith, refl)).1 in absurd (omega (arith, w))
one_list (x ∷ xs) [] p q f g = let w = (f x (0, omega arith, refl)).1 in absurd (omega (arith, w))
one_list (x ∷ xs) (y ∷ ys) p q f g =
    let same : x ≡ y = one_first x y xs ys p q (f x (0, omega arith, refl)) (g y (0, omega arith, refl)) in
    let cells = ap (λ (r : Report). r.cell.0) same in
    let rest : xs ≡ ys = one_list xs ys (others_rise x xs p) (others_rise y ys q)
    (λ r c. among_others y ys r (let l = first_below x xs r p c in omega (arith, l, cells)) (f r (after x xs r c)))
    (λ r c. among_others x xs r (let l = first_below y ys r q c in omega (arith, l, cells)) (g r (after y ys r c))) in
    λ i. same i ∷ rest i
  where
    after : (x : Report) (xs : List Report) (r : Report) → Contains xs r → Contains (x ∷ xs) r
    after x xs r c = (suc c.0, (let w = c.1 in omega (arith, w)), c.2)

-- sorted, the reports of what was found are the reports of the histories
pub detected : (columns : List (List Node)) (starts : List NodeId) (accesses : List NodeAccess) (histories : List History)
    (found : List (CellId × Found))
    (sorted : List Report) → HaveNoted columns starts accesses histories → found ≡ found_below histories (length histories)
    → IsPermutation (map (λ (f : CellId × Found). report_found columns f.0 f.1) found) sorted → RiseByCell sorted
    → sorted ≡ reports_below columns starts accesses (length histories)
detected columns starts accesses histories found sorted noted is same rise =
    let made = ap (map (λ (f : CellId × Found). report_found columns f.0 f.1)) is in
    let rising = subst RiseByCell (sym made) (reports_rise columns (found_below histories (length histories))
    (found_rises histories (length histories))) in
    one_list sorted (map (λ (f : CellId × Found). report_found columns f.0 f.1) found) rise rising
    (λ r c. Contains-permutation _ _ r (IsPermutation-sym _ _ same) c) (λ r c. Contains-permutation _ _ r same c)
    ∙ made ∙ reports_so_far columns starts accesses histories (length histories) noted (omega arith)

-- the same of a sort that may run out of memory
pub all_detected : (columns own : List (List Node)) (starts first : List NodeId) (accesses given : List NodeAccess)
    (histories : List History) (cells : ℕ)
    (found : List (CellId × Found)) (r : Result (List Report) NoMemory) → HaveNoted columns starts accesses histories
    → found ≡ found_below histories (length histories)
    → columns ≡ own → starts ≡ first → accesses ≡ given → length histories ≡ cells
    → IfOk r (IsPermutation (map (λ (f : CellId × Found). report_found columns f.0 f.1) found)) → IfOk r RiseByCell
    → IfOk r (λ reports. reports ≡ reports_below own first given cells)
all_detected columns own starts first accesses given histories cells found (Ok reports) noted is c s a n same rise =
    detected columns starts accesses histories found reports noted is same rise ∙ λ i. reports_below (c i) (s i) (a i) (n i)
all_detected columns own starts first accesses given histories cells found (Err m) noted is c s a n same rise = rise
