-- Fronts of accesses: how they move, and how they grow.
use Rattle.std.proofs.Common.{◌≡◌, ℕ, List, ◌+◌, ◌<◌, ◌≤◌, length, max, get_or, refl, subst, sym, inl, inr, arith}
use Rattle.std.proofs.lemmas.Bool.{cases_lt}
use Rattle.pipe_model.specs.declared.access.AccessKind.{AccessKind}
use Rattle.pipe_model.specs.declared.access.AccessKind.TheVariants.{Read, Write}
use Rattle.pipe_model.specs.declared.access.NodeAccess.{NodeAccess}
use Rattle.pipe_model.specs.declared.node.Node.{Node}
use Rattle.pipe_model.specs.declared.node.NodeId.{NodeId}
use Rattle.pipe_model.specs.Races.CellRaces.{NotedAccess, access_at}
use Rattle.dag_build.specs.AccessFronts.{AreFronts, LeadsFrom, joined_fronts}
use Rattle.dag_build.specs.Jumps.{MovesTo}
use Rattle.dag_build.specs.declared.fronts.Fronts.{Fronts}
use Rattle.dag_build.specs.RacingAccesses.{noted_all}
use Rattle.dag_build.proofs.RacePlaces.{noted_at}
use Rattle.dag_build.proofs.Paths.{leads_from_itself, leads_moved}

-- the fronts moved to a later column
pub fronts_moved : (columns : List (List Node)) (noted : List NotedAccess) (n to : ℕ) (f g : Fronts)
    → AreFronts columns noted n f → g.column ≡ to → MovesTo columns f.column f.writes to g.writes
    → MovesTo columns f.column f.accesses to g.accesses → AreFronts columns noted n g
fronts_moved columns noted n to f g fronts e w a = record {
  writes = λ k l kind. rw e (leads_moved columns (access_at noted k).who (fronts.writes k l kind) w);
  accesses = λ k l. rw e (leads_moved columns (access_at noted k).who (fronts.accesses k l) a);
}

-- a greater index
leads_further : (columns : List (List Node)) (x : NodeId) (i m further : ℕ) → m ≤ further → LeadsFrom columns x i m
    → LeadsFrom columns x i further
leads_further columns x i m further l leads = record { reached = λ k le w. leads.reached k (omega (arith, l, le)) w }

-- what holds of the first n accesses and of the next one
one_more : (noted : List NotedAccess) (n : ℕ) (x : NotedAccess) (P : NotedAccess → Type 0) → access_at noted n ≡ x → P x
    → ((k : ℕ) → k < n → P (access_at noted k)) → (k : ℕ) → k < n + 1 → P (access_at noted k)
one_more noted n x P is here before k l = elim (cases_lt k n) [
  | inl less ↦ before k less
  | inr past ↦ subst (λ i. P (access_at noted i)) (omega (arith, l, past)) (subst P (sym is) here)
]

-- the fronts after another access
pub fronts_joined : (columns : List (List Node)) (noted : List NotedAccess) (n : ℕ) (f : Fronts) (who : NodeId)
    (kind : AccessKind) (here : ℕ)
    → AreFronts columns noted n f → access_at noted n ≡ record { who = who; kind = kind } → LeadsFrom columns who f.column here
    → AreFronts columns noted (n + 1) (joined_fronts f kind here)
fronts_joined columns noted n f who Read here fronts is leads = record {
  writes = one_more noted n _ (λ y. y.kind ≡ Write → LeadsFrom columns y.who f.column f.writes) is (λ e. absurd (cc)) fronts.writes;
  accesses = one_more noted n _ (λ y. LeadsFrom columns y.who f.column (max f.accesses here)) is
      (leads_further columns who f.column here (max f.accesses here) (omega arith) leads)
      (λ k l. leads_further columns (access_at noted k).who f.column f.accesses (max f.accesses here) (omega arith) (fronts.accesses k l));
}
fronts_joined columns noted n f who Write here fronts is leads = record {
  writes = one_more noted n _ (λ y. y.kind ≡ Write → LeadsFrom columns y.who f.column (max f.writes here)) is
      (λ e. leads_further columns who f.column here (max f.writes here) (omega arith) leads)
      (λ k l e. leads_further columns (access_at noted k).who f.column f.writes (max f.writes here) (omega arith) (fronts.writes k l e));
  accesses = one_more noted n _ (λ y. LeadsFrom columns y.who f.column (max f.accesses here)) is
      (leads_further columns who f.column here (max f.accesses here) (omega arith) leads)
      (λ k l. leads_further columns (access_at noted k).who f.column f.accesses (max f.accesses here) (omega arith) (fronts.accesses k l));
}

-- they stay in their column
pub joined_fronts-column : (f : Fronts) (kind : AccessKind) (here : ℕ) → (joined_fronts f kind here).column ≡ f.column
joined_fronts-column f Read here = refl
joined_fronts-column f Write here = refl

-- an instance leads from the index to which its own index moves
leads_from_moved : (columns : List (List Node)) (x : NodeId) (t here : ℕ) → MovesTo columns x.iteration x.index t here
    → LeadsFrom columns x t here
leads_from_moved columns x t here moves = leads_moved columns x (leads_from_itself columns x.iteration x.index) moves

-- the fronts after the next access of a list
pub fronts_grown : (columns : List (List Node)) (xs : List NodeAccess) (n here : ℕ) (f g : Fronts) (d : NodeAccess)
    → n < length xs → AreFronts columns (noted_all xs) n f → g ≡ joined_fronts f (get_or xs n d).access.kind here
    → MovesTo columns (get_or xs n d).node.iteration (get_or xs n d).node.index f.column here
    → AreFronts columns (noted_all xs) (n + 1) g
fronts_grown columns xs n here f g d w fronts e moves =
    subst (AreFronts columns (noted_all xs) (n + 1)) (sym e)
    (fronts_joined columns (noted_all xs) n f (get_or xs n d).node (get_or xs n d).access.kind here fronts (noted_at xs n d w)
    (leads_from_moved columns (get_or xs n d).node f.column here moves))
