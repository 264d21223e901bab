-- The names of declared cells, declaration after declaration.
use Rattle.std.proofs.Common.{◌≡◌, ◌∙◌, ap, refl, arith, inl, inr, ℕ, ◌+◌, ◌-◌, ◌<◌, List, ◌∷◌, true, false, nat_lt}
use Rattle.std.proofs.lemmas.Bool.{cases_lt}
use Rattle.pipe_model.specs.declared.tree.Declaration.{Declaration}
use Rattle.pipe_model.specs.Language.CheckingRules.{cell_total}
use Rattle.pipe_model.specs.Language.Programs.{declared_size}
use Rattle.race_report.specs.CellNames.{declared_name, element_name}

pub own_name : (d : Declaration) (rest : List Declaration) (k : ℕ) → k < declared_size d.size
    → declared_name (d ∷ rest) k ≡ element_name d k
own_name d rest k l =
    let t : nat_lt k (declared_size d.size) ≡ true = grind (arith, l) in
    rw t refl

pub later_name : (d : Declaration) (rest : List Declaration) (k : ℕ) → declared_name (d ∷ rest)
    (declared_size d.size + k) ≡ declared_name rest k
later_name d rest k =
    let t : nat_lt (declared_size d.size + k) (declared_size d.size) ≡ false = grind arith in
    let m : declared_size d.size + k - declared_size d.size ≡ k = omega arith in
    rw t (ap (declared_name rest) m)

pub total_after : (cells rest all : List Declaration) (d : Declaration) (before size : ℕ) → rest ≡ d ∷ all → size ≡ declared_size d.size
    → before + cell_total rest ≡ cell_total cells → before + size + cell_total all ≡ cell_total cells
total_after cells rest all d before size e s t =
    let whole = ap cell_total e in
    omega (arith, whole, s, t)

pub names_after : (cells rest all : List Declaration) (d : Declaration) (before size : ℕ) → rest ≡ d ∷ all → size ≡ declared_size d.size
    → ((k : ℕ) → declared_name cells (before + k) ≡ declared_name rest k) → (k : ℕ) → declared_name cells
    (before + size + k) ≡ declared_name all k
names_after cells rest all d before size e s following k =
    let place : before + size + k ≡ before + (declared_size d.size + k) = omega (arith, s) in
    ap (declared_name cells) place ∙ following (declared_size d.size + k) ∙ ap (λ r. declared_name r (declared_size d.size + k)) e
    ∙ later_name d all k

pub others_after : (cells rest all : List Declaration) (d : Declaration) (before size : ℕ) (bytes : List ℕ) → rest ≡ d ∷ all
    → size ≡ declared_size d.size
    → ((k : ℕ) → declared_name cells (before + k) ≡ declared_name rest k)
    → ((k : ℕ) → k < before → bytes ≡ declared_name cells k → ⊥)
    → ((k : ℕ) → k < declared_size d.size → bytes ≡ element_name d k → ⊥)
    → (k : ℕ) → k < before + size → bytes ≡ declared_name cells k → ⊥
others_after cells rest all d before size bytes e s following earlier own k l is = elim (cases_lt k before) [
  | inl less ↦ earlier k less is
  | inr past ↦ (
      let place : k ≡ before + (k - before) = omega (arith, past) in
      let below : k - before < declared_size d.size = omega (arith, past, l, s) in
      own (k - before) below
      (is ∙ ap (declared_name cells) place ∙ following (k - before) ∙ ap (λ r. declared_name r (k - before)) e
      ∙ own_name d all (k - before) below))
]
