-- Races among the accesses to one cell, by the indices of the accesses.
use Rattle.std.proofs.Common.{◌≡◌, ℕ, List, ◌<◌, length, get_or, arith}
use Rattle.std.proofs.lemmas.List.{get_or-map, length-map}
use Rattle.pipe_model.specs.declared.access.AccessKind.TheVariants.{Read}
use Rattle.pipe_model.specs.declared.access.NodeAccess.{NodeAccess}
use Rattle.pipe_model.specs.declared.node.Node.{Node}
use Rattle.pipe_model.specs.Races.CellRaces.{NotedAccess, access_at, noted_access, KindsConflict, RacesAt}
use Rattle.pipe_model.specs.Races.Columns.{at}
use Rattle.pipe_model.specs.Races.Dag.{AreParallel}
use Rattle.dag_build.specs.RacingAccesses.{AreRacing, noted_all}

abbrev pub noted_of : NodeAccess → NotedAccess
noted_of a = noted_access a.node a.access.kind

-- the noted access at an index
pub noted_at : (xs : List NodeAccess) (k : ℕ) (d : NodeAccess) → k < length xs
    → access_at (noted_all xs) k ≡ noted_of (get_or xs k d)
noted_at xs k d w = get_or-map (λ (a : NodeAccess). noted_access a.node a.access.kind) xs k d (noted_access (at 0 0) Read) w

-- noting keeps the number of accesses
pub length-noted_all : (xs : List NodeAccess) → length (noted_all xs) ≡ length xs
length-noted_all xs = length-map xs (λ (a : NodeAccess). noted_access a.node a.access.kind)

-- two noted accesses race
abbrev NotedRace : List (List Node) → NotedAccess → NotedAccess → Type 0
NotedRace columns a b = KindsConflict a.kind b.kind × AreParallel columns a.who b.who

-- the accesses at the indices of a race are racing
pub racing_at : (columns : List (List Node)) (xs : List NodeAccess) (n k : ℕ) (d e : NodeAccess)
    → RacesAt columns (noted_all xs) n k → AreRacing columns (get_or xs k d) (get_or xs n e)
racing_at columns xs n k d e r =
    let w = r.within in
    let l = r.earlier in
    let both : NotedRace columns (access_at (noted_all xs) k) (access_at (noted_all xs) n) = (r.conflict, r.parallel) in
    let plain : NotedRace columns (noted_of (get_or xs k d)) (noted_of (get_or xs n e)) =
    rw (noted_at xs k d (omega (arith, l, w, length-noted_all xs)), noted_at xs n e (omega (arith, w, length-noted_all xs))) at both in
    record { conflict = plain.0; parallel = plain.1 }
