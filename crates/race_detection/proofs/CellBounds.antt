-- The bound on the numbers of accessed cells.
use Rattle.std.proofs.Common.{◌≡◌, ◌∙◌, ◌<◌, ℕ, zero, suc, All, List, [], ◌∷◌, ◌++◌, ap, sym, arith, max}
use Rattle.std.proofs.Math.Nat.{le-max_left, le-max_right, zero-max}
use Rattle.pipe_model.specs.declared.access.NodeAccess.{NodeAccess}
use Rattle.pipe_model.specs.Races.DeterminacyRaces.{Among, Here, Later}
use Rattle.pipe_model.proofs.Members.{none_among}
use Rattle.race_detection.specs.FoundReports.{cell_bound}

max_assoc : (a b c : ℕ) → max (max a b) c ≡ max a (max b c)
max_assoc a b c = omega arith

-- the bound of more accesses
pub cell_bound-append : (xs ys : List NodeAccess) → cell_bound (xs ++ ys) ≡ max (cell_bound xs) (cell_bound ys)
cell_bound-append [] ys = sym (zero-max (cell_bound ys))
cell_bound-append (x ∷ xs) ys =
    ap (max (suc x.access.cell.0)) (cell_bound-append xs ys) ∙ sym (max_assoc (suc x.access.cell.0) (cell_bound xs) (cell_bound ys))

-- each accessed cell is below the bound
pub cells_below : (accesses : List NodeAccess) → All (λ (a : NodeAccess). a.access.cell.0 < cell_bound accesses) accesses
cells_below [] k d w = absurd (omega (arith, w))
cells_below (x ∷ xs) zero d w = le-max_left (suc x.access.cell.0) (cell_bound xs)
cells_below (x ∷ xs) (suc k) d w =
    let below = cells_below xs k d (omega (arith, w)) in
    let more = le-max_right (suc x.access.cell.0) (cell_bound xs) in
    omega (arith, below, more)

pub among_below : (accesses : List NodeAccess) (a : NodeAccess) → Among a accesses → a.access.cell.0 < cell_bound accesses
among_below [] a m = absurd (none_among a m)
among_below (x ∷ xs) _ Here = le-max_left (suc x.access.cell.0) (cell_bound xs)
among_below (x ∷ xs) a (Later _ m) =
    let below = among_below xs a m in
    let more = le-max_right (suc x.access.cell.0) (cell_bound xs) in
    omega (arith, below, more)
