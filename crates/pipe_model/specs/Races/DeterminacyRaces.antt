-- Determinacy races: two accesses of one cell by parallel instances, and one of the two is a write.
use Rattle.std.specs.Prelude.{◌≡◌, List, ◌∷◌, ◌⊎◌}
use Rattle.pipe_model.specs.declared.access.Access.{Access}
use Rattle.pipe_model.specs.declared.access.AccessKind.TheVariants.{Write}
use Rattle.pipe_model.specs.declared.access.NodeAccess.{NodeAccess}
use Rattle.pipe_model.specs.declared.node.Node.{Node}
use Rattle.pipe_model.specs.Races.Dag.{AreParallel}

-- two accesses of one cell, and one of the two is a write
pub record Conflict (a b : Access) : Type 0 where
  pub same : a.cell ≡ b.cell
  pub one : (a.kind ≡ Write) ⊎ (b.kind ≡ Write)

-- x is an element of the list
pub data Among {A : Type 0} (x : A) : List A → Type 0 where
  Here : {xs : List A} → Among x (x ∷ xs)
  Later : {xs : List A} (y : A) → Among x xs → Among x (y ∷ xs)

-- two accesses of the list that conflict, by parallel instances
pub record IsDeterminacyRace (columns : List (List Node)) (accesses : List NodeAccess) (a b : NodeAccess) : Type 0 where
  pub first : Among a accesses
  pub second : Among b accesses
  pub conflict : Conflict a.access b.access
  pub parallel : AreParallel columns a.node b.node

-- no two of the accesses race
abbrev pub IsRaceFree : List (List Node) → List NodeAccess → Type 0
IsRaceFree columns accesses = (a b : NodeAccess) → IsDeterminacyRace columns accesses a b → ⊥
