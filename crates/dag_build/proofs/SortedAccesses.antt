-- A stable sort by cells keeps the accesses to each cell in their order.
use Rattle.std.proofs.Common.{◌≡◌, ℕ, List, [], ◌∷◌, ◌&&◌, Bool, true, false, not, cond, eqb, refl, sym, ap, subst, ◌∙◌, arith, pos}
use Rattle.std.proofs.lemmas.Bool.Decides.{nat_tests}
use Rattle.std.specs.List.{filter}
use Rattle.std.specs.List.Sorted.{IsStableByKey}
use Rattle.std.specs.Ordering.{is_lt, nat_cmp}
use Rattle.pipe_model.specs.declared.access.AccessKind.TheVariants.{Read}
use Rattle.pipe_model.specs.declared.access.NodeAccess.{NodeAccess}
use Rattle.pipe_model.specs.declared.node.Node.{Node}
use Rattle.pipe_model.specs.declared.report.Report.{Report}
use Rattle.pipe_model.specs.Races.CellRaces.{NotedAccess, accesses_to, RacesAt}
use Rattle.pipe_model.specs.Races.FirstRaces.{AreFirstRaces, ReportsFirstRace}
use Rattle.dag_build.specs.RacingAccesses.{noted_all}
use Rattle.dag_build.proofs.CellGroups.{cell_of}
use Rattle.dag_build.proofs.RacePlaces.{noted_of}

-- some access to the cell
access_to : ℕ → NodeAccess
access_to c = record { node = record { iteration = 0; index = 0 }; access = record { cell = record { 0 = c }; kind = Read; value = pos 0 } }

-- neither cell is below the other
is_tied : ℕ → ℕ → Bool
is_tied a b = not (is_lt (nat_cmp a b)) && not (is_lt (nat_cmp b a))

-- such cells are the same
tied_is_same : (a b : ℕ) → eqb b a ≡ is_tied a b
unfolding is_tied
tied_is_same a b = grind (arith, nat_tests)

-- the proof of `accesses_to-filter` by cases on the two tests
filtered_by : (t u : Bool) (x : NodeAccess) (noted : List NotedAccess) (xs : List NodeAccess) → t ≡ u → noted ≡ noted_all xs
    → cond t (noted_of x ∷ noted) noted ≡ noted_all (cond u (x ∷ xs) xs)
filtered_by true true x noted xs e h = ap (λ l. noted_of x ∷ l) h
filtered_by false false x noted xs e h = h
filtered_by true false x noted xs e h = absurd (cc)
filtered_by false true x noted xs e h = absurd (cc)

-- the accesses to the cell are those that tie with one of them
accesses_to-filter : (c : ℕ) (xs : List NodeAccess) → accesses_to c xs ≡ noted_all (filter (λ x. is_tied c (cell_of x)) xs)
accesses_to-filter c [] = refl
accesses_to-filter c (x ∷ xs) =
    filtered_by (eqb (cell_of x) c) (is_tied c (cell_of x)) x (accesses_to c xs) (filter (λ x. is_tied c (cell_of x)) xs)
    (tied_is_same c (cell_of x)) (accesses_to-filter c xs)

-- so a stable sort keeps them
pub accesses_to-stable : (xs ys : List NodeAccess) → IsStableByKey cell_of nat_cmp xs ys
    → (c : ℕ) → accesses_to c ys ≡ accesses_to c xs
unfolding is_tied access_to
accesses_to-stable xs ys stable c =
    accesses_to-filter c ys ∙ (ap noted_all (stable (access_to c)) ∙ sym (accesses_to-filter c xs))

-- the first races depend only on the accesses to each cell
pub first_races_of_same : (columns : List (List Node)) (xs ys : List NodeAccess) (reports : List Report)
    → ((c : ℕ) → accesses_to c ys ≡ accesses_to c xs) → AreFirstRaces columns ys reports → AreFirstRaces columns xs reports
first_races_of_same columns xs ys reports same h = record {
  each = λ r among. subst (λ l. ReportsFirstRace columns l r) (same r.cell.0) (h.each r among);
  rise = h.rise;
  all = λ c later earlier r. h.all c later earlier (subst (λ l. RacesAt columns l later earlier) (sym (same c)) r);
}
