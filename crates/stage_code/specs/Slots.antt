-- The slots of locals: the slot of a local is the number of locals in scope before it.
use Rattle.std.specs.Prelude.{◌<◌, ℕ, suc, List, [], ◌∷◌, ◌++◌, Option, Some, None, if◌then◌else◌, length}
use Rattle.std.specs.Str.{bytes_eq}
use Rattle.pipe_model.specs.declared.bounds.TheConstants.{MOST_LOCALS}
use Rattle.pipe_model.specs.Language.SyntaxTree.{Statement, Let, Assign, AssignElement, Emit, If, While, Stage, NextStage, Statements}
use Rattle.pipe_model.specs.Language.SyntaxTree.{Empty, Then}

-- the slot, if there is one more local before it
abbrev pub one_later : Option ℕ → Option ℕ
one_later None = None
one_later (Some slot) = Some (suc slot)

-- the slot of the first local of this name
abbrev pub slot_of : List (List ℕ) → List ℕ → Option ℕ
slot_of [] x = None
slot_of (name ∷ names) x = if bytes_eq name x then Some 0 else one_later (slot_of names x)

-- the locals in scope after a statement
abbrev pub locals_after : List (List ℕ) → Statement → List (List ℕ)
locals_after scope (Let x e) = scope ++ x ∷ []
locals_after scope (Assign x e) = scope
locals_after scope (AssignElement x i e) = scope
locals_after scope (Emit e) = scope
locals_after scope (If e a b) = scope
locals_after scope (While e a) = scope
locals_after scope (Stage kind e) = scope
locals_after scope (NextStage kind) = scope

-- the locals in scope at the end of these statements
abbrev pub locals_at_end : List (List ℕ) → Statements → List (List ℕ)
locals_at_end scope Empty = scope
locals_at_end scope (Then s ss) = locals_at_end (locals_after scope s) ss

abbrev mutual
  -- each `let` of the statement has a slot
  pub HasSlots : List (List ℕ) → Statement → Type 0
  HasSlots scope (Let x e) = length scope < MOST_LOCALS
  HasSlots scope (Assign x e) = Unit {0}
  HasSlots scope (AssignElement x i e) = Unit {0}
  HasSlots scope (Emit e) = Unit {0}
  HasSlots scope (If e a b) = HaveSlots scope a × HaveSlots scope b
  HasSlots scope (While e a) = HaveSlots scope a
  HasSlots scope (Stage kind e) = Unit {0}
  HasSlots scope (NextStage kind) = Unit {0}

  -- each `let` of these statements has a slot
  pub HaveSlots : List (List ℕ) → Statements → Type 0
  HaveSlots scope Empty = Unit {0}
  HaveSlots scope (Then s ss) = HasSlots scope s × HaveSlots (locals_after scope s) ss
