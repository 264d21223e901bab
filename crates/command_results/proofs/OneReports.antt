-- The list of first races of all cells is unique.
use Rattle.std.proofs.Common.{◌≡◌, ◌∙◌, ◌<◌, ℕ, suc, List, [], ◌∷◌, AllPairs, length, get_or, refl, sym, subst, inl, inr, arith}
use Rattle.std.proofs.lemmas.Bool.{cases_lt}
use Rattle.pipe_model.specs.declared.access.NodeAccess.{NodeAccess}
use Rattle.pipe_model.specs.declared.node.Node.{Node}
use Rattle.pipe_model.specs.declared.report.Report.{Report}
use Rattle.pipe_model.specs.Races.CellRaces.{NotedAccess, access_at, accesses_to}
use Rattle.pipe_model.specs.Races.Reports.{report_of}
use Rattle.pipe_model.specs.Races.FirstRaces.{AreFirstRaces, IsFirstRacingPair, ReportsFirstRaceOfCell}
use Rattle.pipe_model.specs.Races.DeterminacyRaces.{Among, Here, Later}
use Rattle.pipe_model.proofs.Members.{none_among}

-- the later access of a first race is unique
one_later : {columns : List (List Node)} {accesses : List NotedAccess} (e l f m : ℕ) → IsFirstRacingPair columns accesses e l
    → IsFirstRacingPair columns accesses f m → l ≡ m
one_later e l f m h g = elim (cases_lt l m) [
  | inl w ↦ absurd (g.first_later l w e h.race)
  | inr a ↦ elim (cases_lt m l) [ inl w ↦ absurd (h.first_later m w f g.race) | inr b ↦ omega (arith, a, b) ]
]

-- the earlier access is one of them too
one_earlier : {columns : List (List Node)} {accesses : List NotedAccess} (e f l : ℕ) → IsFirstRacingPair columns accesses e l
    → IsFirstRacingPair columns accesses f l → e ≡ f
one_earlier e f l h g = elim (cases_lt e f) [
  | inl w ↦ absurd (g.first_earlier e w h.race)
  | inr a ↦ elim (cases_lt f e) [ inl w ↦ absurd (h.first_earlier f w g.race) | inr b ↦ omega (arith, a, b) ]
]

-- the report names the first race of this cell
record IsFirstRaceReport (columns : List (List Node)) (accesses : List NodeAccess) (cell : ℕ) (r : Report) : Type 0 where
  earlier : ℕ
  later : ℕ
  first : IsFirstRacingPair columns (accesses_to cell accesses) earlier later
  known : r ≡ report_of columns cell (access_at (accesses_to cell accesses) earlier) (access_at (accesses_to cell accesses) later)

-- a report of a first race names the cell of that race
first_race_report : (columns : List (List Node)) (accesses : List NodeAccess) (cell : ℕ) (r : Report) → r.cell.0 ≡ cell
    → ReportsFirstRaceOfCell columns accesses r
    → IsFirstRaceReport columns accesses cell r
first_race_report columns accesses cell r e h =
    subst (λ c. IsFirstRaceReport columns accesses c r) e
    (record { earlier = h.earlier; later = h.later; first = h.first; known = h.report_is })

-- a cell has at most one report of its first race
one_report : (columns : List (List Node)) (accesses : List NodeAccess) (cell : ℕ) (r s : Report) → IsFirstRaceReport columns accesses cell r
    → IsFirstRaceReport columns accesses cell s → r ≡ s
one_report columns accesses cell r s h g =
    let l : h.later ≡ g.later = one_later h.earlier h.later g.earlier g.later h.first g.first in
    let e : h.earlier ≡ g.earlier = one_earlier h.earlier g.earlier g.later
    (subst (IsFirstRacingPair columns (accesses_to cell accesses) h.earlier) l h.first) g.first in
    let noted : List NotedAccess = accesses_to cell accesses in
    h.known ∙ ((λ i. report_of columns cell (access_at noted (e i)) (access_at noted (l i))) ∙ sym g.known)

-- the first report's cell is below the second's
abbrev below : Report → Report → Type 0
below a b = a.cell.0 < b.cell.0

-- an element of a list has an index
record HasIndex (xs : List Report) (r : Report) : Type 0 where
  place : ℕ
  within : place < length xs
  is : (d : Report) → get_or xs place d ≡ r

index_among : (xs : List Report) (r : Report) → Among r xs → HasIndex xs r
index_among [] r m = absurd (none_among r m)
index_among (x ∷ xs) r Here = record { place = 0; within = omega arith; is = λ d. refl }
index_among (x ∷ xs) r (Later _ m) = let h = index_among xs r m in let w = h.within in
    record { place = suc h.place; within = omega (arith, w); is = h.is }

-- the first of a rising list is below all others
first_below : (x : Report) (xs : List Report) (r : Report) → AllPairs below (x ∷ xs) → Among r xs → x.cell.0 < r.cell.0
first_below x xs r rise m =
    let h = index_among xs r m in let w = h.within in
    subst (λ y. x.cell.0 < y.cell.0) (h.is x) (rise 0 (suc h.place) x (omega arith) (omega (arith, w)))

-- the others form a rising list too
others_rise : (x : Report) (xs : List Report) → AllPairs below (x ∷ xs) → AllPairs below xs
others_rise x xs rise i j d w l = rise (suc i) (suc j) d (omega (arith, w)) (omega (arith, l))

-- an element that is not below the first is one of the others
among_others : (x : Report) (xs : List Report) (r : Report) → x.cell.0 < r.cell.0 → Among r (x ∷ xs) → Among r xs
among_others x xs _ w Here = absurd (omega (arith, w))
among_others x xs r w (Later _ m) = m

-- rising lists with the same elements have the same first element
one_first : (x y : Report) (xs ys : List Report) → AllPairs below (x ∷ xs) → AllPairs below (y ∷ ys) → Among x (y ∷ ys) → Among y (x ∷ xs)
    → x ≡ y
one_first x _ xs ys p q Here m = refl
one_first x y xs ys p q (Later _ k) Here = refl
one_first x y xs ys p q (Later _ k) (Later _ m) = let a = first_below x xs y p m in let b = first_below y ys x q k in
    absurd (omega (arith, a, b))

-- two rising lists with the same elements are equal
one_list : (xs ys : List Report) → AllPairs below xs → AllPairs below ys → ((r : Report) → Among r xs → Among r ys)
    → ((r : Report) → Among r ys → Among r xs) → xs ≡ ys
one_list [] [] p q f g = refl
one_list [] (y ∷ ys) p q f g = absurd (none_among y (g y Here))
one_list (x ∷ xs) [] p q f g = absurd (none_among x (f x Here))
one_list (x ∷ xs) (y ∷ ys) p q f g =
    let same : x ≡ y = one_first x y xs ys p q (f x Here) (g y Here) in
    let rest : xs ≡ ys = one_list xs ys (others_rise x xs p) (others_rise y ys q)
    (λ r m. among_others y ys r (subst (λ z. z.cell.0 < r.cell.0) same (first_below x xs r p m)) (f r (Later x m)))
    (λ r m. among_others x xs r (subst (λ z. z.cell.0 < r.cell.0) (sym same) (first_below y ys r q m)) (g r (Later y m))) in
    λ i. same i ∷ rest i

-- two lists of first races have the same elements
among_both : (columns : List (List Node)) (accesses : List NodeAccess) (xs ys : List Report) → AreFirstRaces columns accesses xs
    → AreFirstRaces columns accesses ys
    → (r : Report) → Among r xs → Among r ys
among_both columns accesses xs ys h g r m =
    let t = h.each r m in
    let s = g.all r.cell.0 t.later t.earlier t.first.race in
    subst (λ z. Among z ys) (sym (one_report columns accesses r.cell.0 r s.0 (first_race_report columns accesses r.cell.0 r refl t)
    (first_race_report columns accesses r.cell.0 s.0 s.2 (g.each s.0 s.1)))) s.1

-- two lists of the first races of all cells are equal
pub one_first_races : (columns : List (List Node)) (accesses : List NodeAccess) (xs ys : List Report) → AreFirstRaces columns accesses xs
    → AreFirstRaces columns accesses ys → xs ≡ ys
one_first_races columns accesses xs ys h g = one_list xs ys h.rise g.rise (among_both columns accesses xs ys h g)
    (among_both columns accesses ys xs g h)
