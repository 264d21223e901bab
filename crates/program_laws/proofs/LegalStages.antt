-- Stage numbers rise along the tree of an iteration.
use Rattle.std.proofs.Common.{◌≡◌, ◌≢◌, ℕ, zero, suc, ℤ, pos, negsuc, Bool, true, false, List, Option, Some, None, if◌then◌else◌, nat_lt}
use Rattle.std.proofs.Common.{◌<ℤ◌, ◌+ℤ◌, refl, arith}
use Rattle.std.specs.Prelude.{int_lt}
use Rattle.std.specs.Ordering.{int_eq}
use Rattle.std.proofs.lemmas.Int.{ints}
use Rattle.pipe_model.specs.declared.node.Kind.{Kind}
use Rattle.pipe_model.specs.declared.node.Kind.TheVariants.{Zero}
use Rattle.pipe_model.specs.declared.tree.StageKind.{StageKind}
use Rattle.pipe_model.specs.declared.tree.StageKind.TheVariants as kinds
use Rattle.pipe_model.specs.declared.column.ColumnEnd.{ColumnEnd}
use Rattle.pipe_model.specs.declared.column.ColumnEnd.TheVariants as ends
use Rattle.pipe_model.specs.Language.Evaluation.{CellRange, Setting, StagePosition, Environment, evaluate, execute, execute_all, assign}
use Rattle.pipe_model.specs.Language.Evaluation.{emit, go_to_stage, go_to_next_stage, if_zero, leave_block, loop_turns, local_value}
use Rattle.pipe_model.specs.Language.Interaction.{Interaction, Return, Raise, Step, Get, Set, Stage, bind, with_budget}
use Rattle.pipe_model.specs.Pipelines.Pipeline.{HasLegalStages}
use Rattle.pipe_model.specs.Language.SyntaxTree as syntax
use Rattle.pipe_model.specs.Language.SyntaxTree.{Statement, Let, Assign, AssignElement, Emit, If, While, NextStage, Statements}
use Rattle.pipe_model.specs.Language.SyntaxTree.{Empty, Then, kind_of_stage}
use Rattle.program_laws.proofs.Straight.{IsStraight, Returns, Raises, Steps, Gets, Sets, Anything, straight-evaluate, straight-element_of}
use Rattle.program_laws.proofs.Straight.{straight-fitting}
use Rattle.program_laws.proofs.Straight.{either as straight_either}
use Rattle.pipe_model.specs.declared.trap.Trap.{Trap}

-- stage numbers rise after stage n, and a result has the property P at the stage that is current then
pub data Rises {A : Type 0} (P : Bool → ℤ → A → Type 0) : Bool → ℤ → Interaction A → Type 0 where
  RisesReturn : {first : Bool} {n : ℤ} {a : A} → P first n a → Rises P first n (Return a)
  RisesRaise : {first : Bool} {n : ℤ} (t : Trap) → Rises P first n (Raise t)
  RisesStep : {first : Bool} {n : ℤ} {d : Interaction A} → Rises P first n d → Rises P first n (Step d)
  RisesGet : {first : Bool} {n : ℤ} {go : ℤ → Interaction A} (c : ℕ) → ((v : ℤ) → Rises P first n (go v)) → Rises P first n (Get c go)
  RisesSet : {first : Bool} {n : ℤ} {d : Interaction A} (c : ℕ) (v : ℤ) → Rises P first n d → Rises P first n (Set c v d)
  RisesStage : {first : Bool} {n m : ℤ} {k : Kind} {d : Interaction A} → k ≢ Zero → n <ℤ m → Rises P false m d
      → Rises P first n (Stage k m d)

-- one tree after another
pub rises-bind : {A B : Type 0} {P : Bool → ℤ → A → Type 0} {Q : Bool → ℤ → B → Type 0} {first : Bool} {n : ℤ} {d : Interaction A}
    {f : A → Interaction B}
    → Rises P first n d → ((now : Bool) (m : ℤ) (a : A) → P now m a → Rises Q now m (f a)) → Rises Q first n (bind d f)
rises-bind (RisesReturn {first} {n} {a} p) h = h first n a p
rises-bind (RisesRaise t) h = RisesRaise t
rises-bind (RisesStep r) h = RisesStep (rises-bind r h)
rises-bind (RisesGet c r) h = RisesGet c (λ v. rises-bind (r v) h)
rises-bind (RisesSet c v r) h = RisesSet c v (rises-bind r h)
rises-bind (RisesStage k l r) h = RisesStage k l (rises-bind r h)

-- a tree without stages, followed by another tree
pub straight-then : {A B : Type 0} {P : A → Type 0} {Q : Bool → ℤ → B → Type 0} {first : Bool} {n : ℤ} {d : Interaction A}
    {f : A → Interaction B}
    → IsStraight P d → ((a : A) → P a → Rises Q first n (f a)) → Rises Q first n (bind d f)
straight-then (Returns {a} p) h = h a p
straight-then (Raises t) h = RisesRaise t
straight-then (Steps s) h = RisesStep (straight-then s h)
straight-then (Gets c s) h = RisesGet c (λ v. straight-then (s v) h)
straight-then (Sets c v s) h = RisesSet c v (straight-then s h)

-- one of two trees: the first if the test is true
either : {A : Type 0} {P : Bool → ℤ → A → Type 0} {first : Bool} {n : ℤ} (b : Bool) {x y : Interaction A} → (b ≡ true → Rises P first n x)
    → Rises P first n y → Rises P first n (if b then x else y)
either true s t = s refl
either false s t = t

-- one of two trees, chosen by a number
pub either_by_zero : {A : Type 0} {P : Bool → ℤ → A → Type 0} {first : Bool} {n : ℤ} (v : ℤ) {x y : Interaction A} → Rises P first n x
    → Rises P first n y → Rises P first n (if_zero v x y)
either_by_zero (pos zero) s t = s
either_by_zero (pos (suc m)) s t = t
either_by_zero (negsuc m) s t = t

-- the environment has the number of the current stage
abbrev pub KnowsStage : Bool → ℤ → Environment → Type 0
KnowsStage first n env = env.stage.number ≡ n

-- the position has the number of the current stage
abbrev pub IsPosition : Bool → ℤ → StagePosition → Type 0
IsPosition first n here = here.number ≡ n

-- no statement begins an instance of stage 0
enters_no_zero : (kind : StageKind) → kind_of_stage kind ≢ Zero
enters_no_zero kinds.Wait = λ e. cc (e)
enters_no_zero kinds.Continue = λ e. cc (e)

rises-go_to_stage : (stages : ℕ) (kind : StageKind) (here : StagePosition) (first : Bool) (n m : ℤ) → here.number ≡ n
    → Rises IsPosition first n (go_to_stage stages kind here m)
rises-go_to_stage stages kind here first n m at =
    either (int_lt here.number m) (λ above. either (nat_lt here.count stages)
    (λ room. RisesStage (enters_no_zero kind) (rw (← at) (let t = above in grind (arith, ints))) (RisesReturn refl)) (RisesRaise _))
    (RisesRaise _)

rises-go_to_next_stage : (stages : ℕ) (kind : StageKind) (here : StagePosition) (first : Bool) (n : ℤ) → here.number ≡ n
    → Rises IsPosition first n (go_to_next_stage stages kind here)
rises-go_to_next_stage stages kind here first n at =
    straight-then (straight-fitting (here.number +ℤ pos 1)) (λ m h. rises-go_to_stage stages kind here first n m at)

rises-assign : (env : Environment) (o : Option ℤ) (range : Option CellRange) (x : List ℕ) (v : ℤ) (first : Bool) (n : ℤ)
    → env.stage.number ≡ n
    → Rises KnowsStage first n (assign env o range x v)
rises-assign env (Some old) range x v first n at = RisesReturn at
rises-assign env None (Some range) x v first n at = RisesSet _ _ (RisesReturn at)
rises-assign env None None x v first n at = RisesRaise _

pub straight-emit : (limit : ℕ) (v : ℤ) → IsStraight Anything (emit limit v)
straight-emit limit v = Gets 1 (λ count. straight_either Anything (int_eq count (pos limit)) _ _ (Raises _) (Sets 1 v (Returns tt)))

-- the turns of a loop whose body rises
rises-turns : (turns : ℕ) (test : Environment → Interaction ℤ) (body : Environment → Interaction Environment) (env : Environment)
    (first : Bool) (n : ℤ)
    → ((now : Environment) → IsStraight Anything (test now))
    → ((now : Environment) (f : Bool) (m : ℤ) → now.stage.number ≡ m → Rises KnowsStage f m (body now))
    → env.stage.number ≡ n → Rises KnowsStage first n (loop_turns turns test body env)
rises-turns zero test body env first n straight rises at = RisesRaise _
rises-turns (suc turns) test body env first n straight rises at =
    straight-then (straight env) (λ v h. RisesStep (either_by_zero v (RisesReturn at) (rises-bind (rises env first n at)
    (λ f m after known. rises-turns turns test body (leave_block env after) f m straight rises known))))

mutual
  -- statements continue at rising numbers
  pub rises-execute : (setting : Setting) (s : Statement) (env : Environment) (first : Bool) (n : ℤ) → env.stage.number ≡ n
      → Rises KnowsStage first n (execute setting s env)
  rises-execute setting (Let x e) env first n at = straight-then (straight-evaluate setting env.locals e)
      (λ v h. RisesStep (RisesReturn at))
  rises-execute setting (Assign x e) env first n at =
      straight-then (straight-evaluate setting env.locals e)
      (λ v h. RisesStep (rises-assign env (local_value env.locals x) (setting.cells x) x v first n at))
  rises-execute setting (AssignElement x i e) env first n at =
      straight-then (straight-evaluate setting env.locals i)
      (λ j h. straight-then (straight-evaluate setting env.locals e) (λ v h'. RisesStep
      (straight-then (straight-element_of (setting.cells x) j) (λ c h''. RisesSet c v (RisesReturn at)))))
  rises-execute setting (Emit e) env first n at =
      straight-then (straight-evaluate setting env.locals e)
      (λ v h. RisesStep (straight-then (straight-emit setting.world.emits v) (λ u h'. RisesReturn at)))
  rises-execute setting (If e a b) env first n at =
      straight-then (straight-evaluate setting env.locals e) (λ v h. RisesStep (rises-bind
      (either_by_zero v (rises-execute_all setting b env first n at) (rises-execute_all setting a env first n at))
      (λ f m after known. RisesReturn known)))
  rises-execute setting (While e a) env first n at =
      rises-turns setting.turns (λ now. evaluate setting now.locals e) (execute_all setting a) env first n
      (λ now. straight-evaluate setting now.locals e) (λ now f m known. rises-execute_all setting a now f m known) at
  rises-execute setting (syntax.Stage kind e) env first n at =
      straight-then (straight-evaluate setting env.locals e) (λ v h. RisesStep
      (rises-bind (rises-go_to_stage setting.world.stages kind env.stage first n v at) (λ f m stage known. RisesReturn known)))
  rises-execute setting (NextStage kind) env first n at =
      RisesStep (rises-bind (rises-go_to_next_stage setting.world.stages kind env.stage first n at) (λ f m stage known. RisesReturn known))

  pub rises-execute_all : (setting : Setting) (ss : Statements) (env : Environment) (first : Bool) (n : ℤ) → env.stage.number ≡ n
      → Rises KnowsStage first n (execute_all setting ss env)
  rises-execute_all setting Empty env first n at = RisesReturn at
  rises-execute_all setting (Then s ss) env first n at =
      rises-bind (rises-execute setting s env first n at) (λ f m after known. rises-execute_all setting ss after f m known)

-- an allowed end: only instance 0 closes the loop
abbrev pub EndsRightly : Bool → ℤ → ColumnEnd → Type 0
EndsRightly first n e = e ≡ ends.Closed → first ≡ true

-- the budget does not change the stages
pub legal-with_budget : {first : Bool} {n : ℤ} {d : Interaction ColumnEnd} (budget left : ℕ) → Rises EndsRightly first n d
    → HasLegalStages first n (with_budget budget left d)
legal-with_budget budget left (RisesReturn p) = p
legal-with_budget budget left (RisesRaise t) = λ e. cc (e)
legal-with_budget budget zero (RisesStep r) = λ e. cc (e)
legal-with_budget budget (suc left) (RisesStep r) = legal-with_budget budget left r
legal-with_budget budget left (RisesGet c r) = λ v. legal-with_budget budget left (r v)
legal-with_budget budget left (RisesSet c v r) = legal-with_budget budget left r
legal-with_budget budget left (RisesStage k l r) = (k, (l, legal-with_budget budget budget r))
