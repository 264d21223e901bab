-- A run has the races of the accesses to its cells.
use Rattle.std.proofs.Common.{ℕ, List, ◌≡◌, length, ◌<◌, arith, subst, sym, ap, ◌∙◌, inl, inr}
use Rattle.std.proofs.lemmas.Bool.{cases_lt}
use Rattle.pipe_model.specs.Races.CellRaces.{NotedAccess, access_at, accesses_to, KindsConflict, RacesAt}
use Rattle.pipe_model.specs.Races.Dag.{AreParallel}
use Rattle.pipe_model.specs.Races.DeterminacyRaces.{IsDeterminacyRace}
use Rattle.pipe_model.specs.declared.access.AccessKind.{AccessKind}
use Rattle.pipe_model.specs.declared.access.CellId.{CellId}
use Rattle.pipe_model.specs.declared.access.NodeAccess.{NodeAccess}
use Rattle.pipe_model.specs.declared.node.Node.{Node}
use Rattle.pipe_model.specs.declared.node.NodeId.{NodeId}
use Rattle.pipe_model.proofs.CellAccesses.{noted_of, place_of}

-- two accesses of the run that race, at their indices
races_at : (columns : List (List Node)) (noted : List NotedAccess) (n k : ℕ) (a b : NodeAccess) → n < length noted
    → k < n → access_at noted k ≡ noted_of a → access_at noted n ≡ noted_of b
    → KindsConflict a.access.kind b.access.kind → AreParallel columns a.node b.node → RacesAt columns noted n k
races_at columns noted n k a b l w e f c p = record {
  within = l;
  earlier = w;
  conflict = subst (λ (x : NotedAccess). KindsConflict x.kind (access_at noted n).kind) (sym e)
      (subst (λ (y : NotedAccess). KindsConflict a.access.kind y.kind) (sym f) c);
  parallel = subst (λ (x : NotedAccess). AreParallel columns x.who (access_at noted n).who) (sym e)
      (subst (λ (y : NotedAccess). AreParallel columns a.node y.who) (sym f) p);
}

-- being parallel is symmetric
parallel_sym : {columns : List (List Node)} {x y : NodeId} → AreParallel columns x y → AreParallel columns y x
parallel_sym p = record { apart = λ e. p.apart (sym e); not_before = p.not_after; not_after = p.not_before }

-- the indices of a race among the accesses to its cell
pub record HasRacesAt (columns : List (List Node)) (noted : List NotedAccess) : Type 0 where
  pub later : ℕ
  pub earlier : ℕ
  pub racy : RacesAt columns noted later earlier

-- the conflict of kinds is symmetric
conflict_sym : {k j : AccessKind} → KindsConflict k j → KindsConflict j k
conflict_sym (inl e) = inr e
conflict_sym (inr e) = inl e

-- a race of the run is one of its cell's accesses
pub race_at : (columns : List (List Node)) (xs : List NodeAccess) (a b : NodeAccess) (cell : ℕ)
    → a.access.cell.0 ≡ cell → IsDeterminacyRace columns xs a b → HasRacesAt columns (accesses_to cell xs)
race_at columns xs a b cell here r =
    let same : b.access.cell.0 ≡ cell = ap (λ (c : CellId). c.0) (sym r.conflict.same) ∙ here in
    let x = place_of cell xs a here r.first in
    let y = place_of cell xs b same r.second in
    let noted : List NotedAccess = accesses_to cell xs in
    let lx = x.within in
    let ly = y.within in
    elim (cases_lt x.number y.number) [
      | inl less ↦ record {
        later = y.number;
        earlier = x.number;
        racy = races_at columns noted y.number x.number a b ly less x.is y.is r.conflict.one r.parallel;
      }
      | inr more ↦ elim (cases_lt y.number x.number) [
        | inl less ↦ record {
          later = x.number;
          earlier = y.number;
          racy = races_at columns noted x.number y.number b a lx less y.is x.is (conflict_sym r.conflict.one)
              (parallel_sym r.parallel);
        }
        | inr ge ↦ absurd (
            let e : x.number ≡ y.number = omega (arith, more, ge) in
            let f : noted_of a ≡ noted_of b = sym x.is ∙ (ap (access_at noted) e ∙ y.is) in
            r.parallel.apart (ap (λ (z : NotedAccess). z.who) f))
      ]
    ]
