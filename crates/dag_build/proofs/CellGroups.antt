-- Accesses sorted by cell form one group for each cell. What the first groups say about the races.
use Rattle.std.proofs.Common.{◌≡◌, ℕ, List, [], ◌∷◌, ◌++◌, ◌+◌, ◌<◌, ◌≤◌, Bool, true, false, length, get_or, take, drop, cond, eqb, refl}
use Rattle.std.proofs.Common.{sym, ap, subst, ◌∙◌, inl, inr, arith, append-nil, length-drop}
use Rattle.std.proofs.lemmas.Bool.{cases_lt, cases_order, eqb-true, eq-eqb}
use Rattle.std.proofs.lemmas.List.{get_or-take, get_or-drop, get_or_default, take-append-drop}
use Rattle.std.proofs.lemmas.List.Elements.{All-drop, All-tail}
use Rattle.std.proofs.lemmas.List.Quantifiers.{all_pairs_push}
use Rattle.std.proofs.lemmas.List.Sorted.{IsNonDecreasingBy-drop}
use Rattle.std.proofs.lemmas.List.Sums.{prefix_len_passes, prefix_len_stops}
use Rattle.std.proofs.lemmas.List.Folds.{length-prefix_len}
use Rattle.std.specs.List.{All, AllPairs, prefix_len, slice_get}
use Rattle.std.specs.declared.option.Option.TheVariants.{Some}
use Rattle.std.specs.List.Sorted.{IsNonDecreasingBy}
use Rattle.pipe_model.specs.declared.access.NodeAccess.{NodeAccess}
use Rattle.pipe_model.specs.declared.node.Node.{Node}
use Rattle.pipe_model.specs.declared.report.Report.{Report}
use Rattle.pipe_model.specs.Races.CellRaces.{NotedAccess, accesses_to, RacesAt}
use Rattle.pipe_model.specs.Races.DeterminacyRaces.{Among, Here}
use Rattle.pipe_model.proofs.Members.{among_at, among_either, among_left, among_right, only_one}
use Rattle.pipe_model.specs.Races.FirstRaces.{HasReport, ReportsFirstRaceOfCell, ReportsFirstRace}
use Rattle.dag_build.specs.RacingAccesses.{CellHasNoRace, noted_all}
use Rattle.dag_build.proofs.RacePlaces.{noted_of}

-- the cell of an access
abbrev pub cell_of : NodeAccess → ℕ
cell_of a = a.access.cell.0

-- all these accesses are to cells above this one
abbrev pub IsBelowAll : ℕ → List NodeAccess → Type 0
IsBelowAll c xs = All (λ a. c < cell_of a) xs

-- the proof of `accesses_to-append` by cases on the test
append_by : (t : Bool) (n : NotedAccess) (front bs cs : List NotedAccess) → cs ≡ front ++ bs
    → cond t (n ∷ cs) cs ≡ cond t (n ∷ front) front ++ bs
append_by true n front bs cs e = ap (λ l. n ∷ l) e
append_by false n front bs cs e = e

-- the accesses to a cell in two lists
pub accesses_to-append : (c : ℕ) (xs ys : List NodeAccess) → accesses_to c (xs ++ ys) ≡ accesses_to c xs ++ accesses_to c ys
accesses_to-append c [] ys = refl
accesses_to-append c (x ∷ xs) ys =
    append_by (eqb (cell_of x) c) (noted_of x) (accesses_to c xs) (accesses_to c ys) (accesses_to c (xs ++ ys))
    (accesses_to-append c xs ys)

-- another access to the cell
kept_by : (t : Bool) (n : NotedAccess) (front bs : List NotedAccess) → t ≡ true → front ≡ bs → cond t (n ∷ front) front ≡ n ∷ bs
kept_by true n front bs e h = ap (λ l. n ∷ l) h
kept_by false n front bs e h = absurd (cc)

-- another access, to another cell
skipped_by : (t : Bool) (n : NotedAccess) (front bs : List NotedAccess) → t ≡ false → front ≡ bs → cond t (n ∷ front) front ≡ bs
skipped_by true n front bs e h = absurd (cc)
skipped_by false n front bs e h = h

-- all accesses are to the cell
pub accesses_to-own : (c : ℕ) (xs : List NodeAccess) → All (λ a. cell_of a ≡ c) xs → accesses_to c xs ≡ noted_all xs
accesses_to-own c [] own = refl
accesses_to-own c (x ∷ xs) own =
    kept_by (eqb (cell_of x) c) (noted_of x) (accesses_to c xs) (noted_all xs)
    (eq-eqb (cell_of x) c (own 0 x (omega arith)))
    (accesses_to-own c xs (All-tail (λ a. cell_of a ≡ c) x xs own))

-- a test of equality that fails
eqb_false_from : (a b : ℕ) → (a ≡ b → ⊥) → eqb a b ≡ false
eqb_false_from a b h = go (eqb a b) refl
  where
    go : (t : Bool) → eqb a b ≡ t → t ≡ false
    go true e = absurd (h (eqb-true a b e))
    go false e = refl

-- all accesses are to other cells
pub accesses_to-others : (c : ℕ) (xs : List NodeAccess) → All (λ a. cell_of a ≡ c → ⊥) xs → accesses_to c xs ≡ []
accesses_to-others c [] others = refl
accesses_to-others c (x ∷ xs) others =
    skipped_by (eqb (cell_of x) c) (noted_of x) (accesses_to c xs) []
    (eqb_false_from (cell_of x) c (others 0 x (omega arith)))
    (accesses_to-others c xs (All-tail (λ a. cell_of a ≡ c → ⊥) x xs others))

-- the first m accesses are to the cell, and the others are to cells above it
pub record IsGroup (xs : List NodeAccess) (c m : ℕ) : Type 0 where
  pub first : NodeAccess
  pub filled : 0 < length xs
  pub head : (d : NodeAccess) → cell_of (get_or xs 0 d) ≡ c
  pub own : All (λ a. cell_of a ≡ c) (take m xs)
  pub above : IsBelowAll c (drop m xs)
  pub sorted : IsNonDecreasingBy cell_of xs

-- the leading accesses to the cell of the first access are a group
leading_group : (xs : List NodeAccess) (c : ℕ) (d : NodeAccess) → 0 < length xs → cell_of (get_or xs 0 d) ≡ c
    → IsNonDecreasingBy cell_of xs → IsGroup xs c (prefix_len (λ a. eqb (cell_of a) c) xs)
leading_group xs c d filled first sorted =
    let p : NodeAccess → Bool = λ a. eqb (cell_of a) c in
    let m : ℕ = prefix_len p xs in
    let head : (e : NodeAccess) → cell_of (get_or xs 0 e) ≡ c =
    λ e. ap cell_of (get_or_default xs 0 e d filled) ∙ first in
    record {
      first = d;
      filled = filled;
      head = head;
      own = λ k e w. ap cell_of (get_or-take m xs k e (omega (arith, w, length-prefix_len p xs)))
          ∙ eqb-true (cell_of (get_or xs k e)) c (prefix_len_passes p xs k e (omega (arith, w, length-prefix_len p xs)));
      above = λ k e w. (
          let within : m + k < length xs = omega (arith, w, length-drop m xs) in
          let stops = prefix_len_stops p xs e (omega (arith, within)) in
          let differs : cell_of (get_or xs m e) ≡ c → ⊥ = λ same. differ (sym (eq-eqb (cell_of (get_or xs m e)) c same) ∙ stops) in
          let start = sorted 0 m e (omega arith) (omega (arith, within)) in
          let on = sorted m (m + k) e (omega arith) within in
          let h = head e in
          let far : c < cell_of (get_or xs (m + k) e) = omega (arith, start, on, differs, h) in
          subst (λ a. c < cell_of a) (sym (get_or-drop m xs k e)) far);
      sorted = sorted;
    }
  where
    differ : true ≡ false → ⊥
    differ e = cc

-- the first access is element 0
first_of : (xs : List NodeAccess) (x : NodeAccess) → Some x ≡ slice_get xs 0 → (0 < length xs) × (get_or xs 0 x ≡ x)
first_of [] x e = absurd (cc)
first_of (y ∷ xs) x e = (omega arith, cc)

-- the same for the list's first access
pub group_of_first : (xs : List NodeAccess) (x : NodeAccess) (m : ℕ) → Some x ≡ slice_get xs 0
    → m ≡ prefix_len (λ a. eqb (cell_of a) (cell_of x)) xs → IsNonDecreasingBy cell_of xs → IsGroup xs (cell_of x) m
group_of_first xs x m is e sorted =
    let first = first_of xs x is in
    subst (IsGroup xs (cell_of x)) (sym e) (leading_group xs (cell_of x) x first.0 (ap cell_of first.1) sorted)

-- progress if `rest` remains: the reports name the races of all cells that have no access in `rest`
pub record IsProgress (columns : List (List Node)) (xs rest : List NodeAccess) (reports : List Report) : Type 0 where
  pub left : (c : ℕ) → (IsBelowAll c rest → ⊥) → accesses_to c xs ≡ accesses_to c rest
  pub sorted : IsNonDecreasingBy cell_of rest
  pub each : (r : Report) → Among r reports → ReportsFirstRaceOfCell columns xs r
  pub below : (r : Report) → Among r reports → IsBelowAll r.cell.0 rest
  pub rise : AllPairs (λ (a : Report) (b : Report). a.cell.0 < b.cell.0) reports
  pub all : (c later earlier : ℕ) → IsBelowAll c rest → RacesAt columns (accesses_to c xs) later earlier → HasReport reports c

-- without accesses there is no race
pub none_in_none : (columns : List (List Node)) (noted : List NotedAccess) → noted ≡ [] → CellHasNoRace columns noted
none_in_none columns noted e later earlier r = let w = r.within in omega (arith, w, ap length e)

-- before the first report
pub progress_starts : (columns : List (List Node)) (xs : List NodeAccess) → IsNonDecreasingBy cell_of xs
    → IsProgress columns xs xs []
progress_starts columns xs sorted = record {
  left = λ c h. refl;
  sorted = sorted;
  each = λ r m. elim m [ ];
  below = λ r m. elim m [ ];
  rise = λ i j d l w. absurd (omega (arith, w));
  all = λ c later earlier below r.
      absurd (none_in_none columns (accesses_to c xs)
      (accesses_to-others c xs (λ k d w e. let l = below k d w in omega (arith, l, e))) later earlier r);
}

-- the accesses to a cell in the group and after it
split_at_group : (xs : List NodeAccess) (c m : ℕ) → accesses_to c xs ≡ accesses_to c (take m xs) ++ accesses_to c (drop m xs)
split_at_group xs c m = ap (accesses_to c) (sym (take-append-drop m xs)) ∙ accesses_to-append c (take m xs) (drop m xs)

-- the accesses to the cell are the group
of_group : (columns : List (List Node)) (xs rest : List NodeAccess) (reports : List Report) (c m : ℕ)
    → IsProgress columns xs rest reports → IsGroup rest c m → accesses_to c xs ≡ noted_all (take m rest)
of_group columns xs rest reports c m h g =
    let following : accesses_to c (drop m rest) ≡ [] =
    accesses_to-others c (drop m rest) (λ k d w e. let l = g.above k d w in omega (arith, l, e)) in
    h.left c (λ below. let l = below 0 g.first g.filled in let e = g.head g.first in omega (arith, l, e))
    ∙ (split_at_group rest c m ∙ (ap (λ l. accesses_to c (take m rest) ++ l) following
    ∙ (append-nil (accesses_to c (take m rest)) ∙ accesses_to-own c (take m rest) g.own)))

-- the accesses to a greater cell than the group's come after the group
after_group : (rest : List NodeAccess) (c m cell : ℕ) → IsGroup rest c m → c < cell
    → accesses_to cell rest ≡ accesses_to cell (drop m rest)
after_group rest c m cell g l =
    split_at_group rest cell m
    ∙ ap (λ l. l ++ accesses_to cell (drop m rest))
    (accesses_to-others cell (take m rest) (λ k d w e. let h = g.own k d w in omega (arith, h, e, l)))

-- no access of the rest is to a smaller cell than the group's
rest_above : (rest : List NodeAccess) (c m cell : ℕ) → IsGroup rest c m → cell < c → IsBelowAll cell rest
rest_above rest c m cell g l = λ k d w. (
    let h = g.head d in
    let up = g.sorted 0 k d (omega arith) w in
    omega (arith, h, up, l))

-- the cell of the group is not below all of the rest, nor is one above it
not_below_rest : (rest : List NodeAccess) (c m cell : ℕ) → IsGroup rest c m → c ≤ cell → IsBelowAll cell rest → ⊥
not_below_rest rest c m cell g l below =
    let h = g.head g.first in
    let b = below 0 g.first g.filled in
    omega (arith, h, b, l)

-- what `left` says of a cell that is not below all accesses after the group
left_after : (columns : List (List Node)) (xs rest : List NodeAccess) (reports : List Report) (c m : ℕ)
    → IsProgress columns xs rest reports → IsGroup rest c m
    → (cell : ℕ) → (IsBelowAll cell (drop m rest) → ⊥) → accesses_to cell xs ≡ accesses_to cell (drop m rest)
left_after columns xs rest reports c m h g cell not = elim (cases_lt c cell) [
  | inl less ↦ h.left cell (not_below_rest rest c m cell g (omega (arith, less))) ∙ after_group rest c m cell g less
  | inr le ↦ absurd (not (λ k d w. let a = g.above k d w in omega (arith, a, le)))
]

-- if no access after the group is to a cell with a race, that cell is not greater than the group's
race_in_front : (columns : List (List Node)) (xs rest : List NodeAccess) (reports : List Report) (c m : ℕ)
    → IsProgress columns xs rest reports → IsGroup rest c m
    → (cell later earlier : ℕ) → IsBelowAll cell (drop m rest) → RacesAt columns (accesses_to cell xs) later earlier
    → c < cell → ⊥
race_in_front columns xs rest reports c m h g cell later earlier below r l =
    none_in_none columns (accesses_to cell xs)
    (h.left cell (not_below_rest rest c m cell g (omega (arith, l))) ∙ (after_group rest c m cell g l
    ∙ accesses_to-others cell (drop m rest) (λ k d w e. let b = below k d w in omega (arith, b, e)))) later earlier r

-- a group without a race
pub progress_without : (columns : List (List Node)) (xs rest : List NodeAccess) (reports : List Report) (c m : ℕ)
    → IsProgress columns xs rest reports → IsGroup rest c m → CellHasNoRace columns (noted_all (take m rest))
    → IsProgress columns xs (drop m rest) reports
progress_without columns xs rest reports c m h g none = record {
  left = left_after columns xs rest reports c m h g;
  sorted = IsNonDecreasingBy-drop cell_of m rest h.sorted;
  each = h.each;
  below = λ r among. All-drop (λ a. r.cell.0 < cell_of a) m rest (h.below r among);
  rise = h.rise;
  all = λ cell later earlier below r. elim (cases_order cell c) [
    | inl same ↦ absurd (none later earlier
        (subst (λ l. RacesAt columns l later earlier) (ap (λ i. accesses_to i xs) same ∙ of_group columns xs rest reports c m h g) r))
    | inr other ↦ elim other [
      | inl less ↦ h.all cell later earlier (rest_above rest c m cell g less) r
      | inr more ↦ absurd (race_in_front columns xs rest reports c m h g cell later earlier below r more)
    ]
  ];
}

-- a cell that has a report still has one after another report
still_reported : (reports : List Report) (r : Report) (cell : ℕ) → HasReport reports cell → HasReport (reports ++ r ∷ []) cell
still_reported reports r cell h = (h.0, among_left h.0 reports (r ∷ []) h.1, h.2)

-- a group with a race, and its report
pub progress_with : (columns : List (List Node)) (xs rest : List NodeAccess) (reports : List Report) (c m : ℕ) (r : Report)
    → IsProgress columns xs rest reports → IsGroup rest c m → ReportsFirstRace columns (noted_all (take m rest)) r
    → r.cell.0 ≡ c → IsProgress columns xs (drop m rest) (reports ++ r ∷ [])
progress_with columns xs rest reports c m r h g first e = record {
  left = left_after columns xs rest reports c m h g;
  sorted = IsNonDecreasingBy-drop cell_of m rest h.sorted;
  each = λ x among. elim (among_either x reports (r ∷ []) among) [
    | inl old ↦ h.each x old
    | inr new ↦ subst (ReportsFirstRaceOfCell columns xs) (sym (only_one x r new))
        (subst (λ l. ReportsFirstRace columns l r) (sym (ap (λ i. accesses_to i xs) e ∙ of_group columns xs rest reports c m h g)) first)
  ];
  below = λ x among. elim (among_either x reports (r ∷ []) among) [
    | inl old ↦ All-drop (λ a. x.cell.0 < cell_of a) m rest (h.below x old)
    | inr new ↦ (
        let f : x.cell.0 ≡ c = ap (λ (y : Report). y.cell.0) (only_one x r new) ∙ e in
        λ k d w. let a = g.above k d w in omega (arith, a, f))
  ];
  rise = all_pairs_push (λ (a : Report) (b : Report). a.cell.0 < b.cell.0) reports r h.rise (λ k d w. (
      let b = h.below (get_or reports k d) (among_at reports k d w) 0 g.first g.filled in
      let f = g.head g.first in
      omega (arith, b, f, e)));
  all = λ cell later earlier below race. elim (cases_order cell c) [
    | inl same ↦ (r, among_right r reports (r ∷ []) Here, e ∙ sym same)
    | inr other ↦ elim other [
      | inl less ↦ still_reported reports r cell (h.all cell later earlier (rest_above rest c m cell g less) race)
      | inr more ↦ absurd (race_in_front columns xs rest reports c m h g cell later earlier below race more)
    ]
  ];
}
