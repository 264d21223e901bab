-- The work of programs: at most two accesses a step, and at most as many instances as the limit allows.
use Rattle.std.proofs.Common.{◌≡◌, sym, subst, ℕ, zero, suc, ℤ, pos, negsuc, Bool, true, false, List, [], Option, Some, None, if◌then◌else◌}
use Rattle.std.proofs.Common.{nat_lt, ◌<◌, ◌≤◌, ◌+◌, ◌*◌, ◌-◌, refl, arith, length, ◌==◌, inl, inr, mul-le-mul_right}
use Rattle.std.proofs.Math.Nat.{mul_assoc}
use Rattle.program_laws.proofs.PlannedLimits.{planned_limits}
use Rattle.program_laws.proofs.WellFormed.{accepted_is_well_formed}
use Rattle.pipe_model.specs.Language.ProgramsOfTrees.{pipeline_after_init}
use Rattle.std.specs.Prelude.{int_lt, int_div, int_rem, ◌+ℤ◌}
use Rattle.std.proofs.Math.IntN.{◌-ℤ◌, ◌*ℤ◌, neg_ℤ}
use Rattle.std.specs.Ordering.{int_eq}
use Rattle.std.proofs.Math.Nat.{suc-mul}
use Rattle.std.proofs.lemmas.Bool.{cases_lt, eq-eqb, eqb-true, ltb-true}
use Rattle.run_laws.specs.RunLaws.{sum_below}
use Rattle.run_laws.proofs.RunStates.EventBounds.{runs_are_bounded}
use Rattle.pipe_model.specs.declared.node.Kind.{Kind}
use Rattle.pipe_model.specs.declared.tree.StageKind.{StageKind}
use Rattle.pipe_model.specs.declared.column.ColumnEnd.{ColumnEnd}
use Rattle.pipe_model.specs.declared.trap.Trap.{Trap}
use Rattle.pipe_model.specs.declared.trap.Trap.TheVariants as traps
use Rattle.pipe_model.specs.Pipelines.Behaviour.{Behaviour, Reading, Writing, Staging, Ending}
use Rattle.pipe_model.specs.Language.Evaluation.{CellRange, Local, Setting, StagePosition, Environment, evaluate, execute, execute_all}
use Rattle.pipe_model.specs.Language.Evaluation.{assign, emit, go_to_stage, if_zero, leave_block, loop_turns, local_value, run_iteration}
use Rattle.pipe_model.specs.Language.Evaluation.{first_environment, operate, operate_one, fitting, divided, named_value, element_of}
use Rattle.pipe_model.specs.Language.Evaluation.{take_at, is_i64}
use Rattle.pipe_model.specs.Language.Interaction.{Interaction, Return, Raise, Step, Get, Set, Stage, bind, with_budget}
use Rattle.pipe_model.specs.Pipelines.Pipeline.{AlwaysClosesLoop, HasBoundedWork}
use Rattle.pipe_model.specs.Language.Programs.{natural, pipeline_of, setting_of}
use Rattle.pipe_model.specs.Language.SyntaxTree as syntax
use Rattle.pipe_model.specs.Language.SyntaxTree.{Expression, Number, Name, Element, And, Or, Binary, Unary, More, Take, Iter}
use Rattle.pipe_model.specs.Language.SyntaxTree.{Statement, Let, Assign, AssignElement, Emit, If, While, NextStage, Statements, Empty, Then}
use Rattle.pipe_model.specs.Language.SyntaxTree.{kind_of_stage}
use Rattle.program_laws.specs.WorkBounds.{ProgramsHaveBoundedWork, ProgramRunsAreBounded}

-- ---- trees without stages

-- the tree makes at most `credit` accesses before its first step, and at most two between two steps; it names no stage
pub data IsFrugal {A : Type 0} : ℕ → Interaction A → Type 0 where
  FrugalReturn : {credit : ℕ} (a : A) → IsFrugal credit (Return a)
  FrugalRaise : {credit : ℕ} (t : Trap) → IsFrugal credit (Raise t)
  FrugalStep : {credit : ℕ} {d : Interaction A} → IsFrugal 2 d → IsFrugal credit (Step d)
  FrugalGet : {credit : ℕ} {go : ℤ → Interaction A} (c : ℕ) → ((v : ℤ) → IsFrugal credit (go v)) → IsFrugal (suc credit) (Get c go)
  FrugalSet : {credit : ℕ} {d : Interaction A} (c : ℕ) (v : ℤ) → IsFrugal credit d → IsFrugal (suc credit) (Set c v d)

-- a greater credit does no harm
frugal_more : {A : Type 0} {credit : ℕ} {d : Interaction A} → IsFrugal credit d → (more : ℕ) → credit ≤ more → IsFrugal more d
frugal_more (FrugalReturn a) more le = FrugalReturn a
frugal_more (FrugalRaise t) more le = FrugalRaise t
frugal_more (FrugalStep s) more le = FrugalStep s
frugal_more (FrugalGet c s) zero le = absurd (omega (arith, le))
frugal_more (FrugalGet c s) (suc more) le = FrugalGet c (λ v. frugal_more (s v) more (omega (arith, le)))
frugal_more (FrugalSet c v s) zero le = absurd (omega (arith, le))
frugal_more (FrugalSet c v s) (suc more) le = FrugalSet c v (frugal_more s more (omega (arith, le)))

-- one tree after another, if the second makes no access before its first step
frugal-bind : {A B : Type 0} {credit : ℕ} {d : Interaction A} {f : A → Interaction B} → IsFrugal credit d → ((a : A) → IsFrugal 0 (f a))
    → IsFrugal credit (bind d f)
frugal-bind (FrugalReturn {credit} a) h = frugal_more (h a) credit (omega arith)
frugal-bind (FrugalRaise t) h = FrugalRaise t
frugal-bind (FrugalStep s) h = FrugalStep (frugal-bind s h)
frugal-bind (FrugalGet c s) h = FrugalGet c (λ v. frugal-bind (s v) h)
frugal-bind (FrugalSet c v s) h = FrugalSet c v (frugal-bind s h)

frugal_if : {A : Type 0} {credit : ℕ} (b : Bool) (x y : Interaction A) → IsFrugal credit x → IsFrugal credit y
    → IsFrugal credit (if b then x else y)
frugal_if true x y s t = s
frugal_if false x y s t = t

frugal_by_zero : {A : Type 0} {credit : ℕ} (v : ℤ) (x y : Interaction A) → IsFrugal credit x → IsFrugal credit y
    → IsFrugal credit (if_zero v x y)
frugal_by_zero (pos zero) x y s t = s
frugal_by_zero (pos (suc n)) x y s t = t
frugal_by_zero (negsuc n) x y s t = t

frugal-fitting : (credit : ℕ) (v : ℤ) → IsFrugal credit (fitting v)
frugal-fitting credit v = frugal_if (is_i64 v) _ _ (FrugalReturn v) (FrugalRaise _)

frugal-divided : (credit : ℕ) (a b v : ℤ) → IsFrugal credit (divided a b v)
frugal-divided credit a b v = frugal_by_zero b _ _ (FrugalRaise _) (frugal-bind (frugal-fitting credit (int_div a b)) (λ q. FrugalReturn v))

frugal-operate : (credit code : ℕ) (a b : ℤ) → IsFrugal credit (operate code a b)
frugal-operate credit code a b =
    frugal_if (code == 3) _ _ (FrugalReturn _) (frugal_if (code == 4) _ _ (FrugalReturn _) (frugal_if (code == 5) _ _ (FrugalReturn _)
    (frugal_if (code == 6) _ _ (FrugalReturn _) (frugal_if (code == 7) _ _ (FrugalReturn _) (frugal_if (code == 8) _ _ (FrugalReturn _)
    (frugal_if (code == 9) _ _ (frugal-fitting credit (a +ℤ b)) (frugal_if (code == 10) _ _ (frugal-fitting credit (a -ℤ b))
    (frugal_if (code == 11) _ _ (frugal-fitting credit (a *ℤ b)) (frugal_if (code == 12) _ _ (frugal-divided credit a b (int_div a b))
    (frugal_if (code == 13) _ _ (frugal-divided credit a b (int_rem a b)) (FrugalReturn _)))))))))))

frugal-operate_one : (credit code : ℕ) (a : ℤ) → IsFrugal credit (operate_one code a)
frugal-operate_one credit code a = frugal_if (code == 1) _ _ (frugal-fitting credit (neg_ℤ a))
    (frugal_if (code == 2) _ _ (FrugalReturn (if_zero a (pos 1) (pos 0))) (FrugalReturn _))

frugal-named_value : (o : Option ℤ) (range : Option CellRange) → IsFrugal 2 (named_value o range)
frugal-named_value (Some v) range = FrugalReturn v
frugal-named_value None (Some range) = FrugalGet _ (λ v. FrugalReturn v)
frugal-named_value None None = FrugalRaise _

frugal-in : {B : Type 0} (credit : ℕ) (b : Bool) (c : ℕ) (t : Trap) (f : ℕ → Interaction B) → ((cell : ℕ) → IsFrugal credit (f cell))
    → IsFrugal credit (bind (if b then Return c else Raise t) f)
frugal-in credit true c t f h = h c
frugal-in credit false c t f h = FrugalRaise t

frugal-element_of : {B : Type 0} (credit : ℕ) (range : Option CellRange) (i : ℤ) (f : ℕ → Interaction B)
    → ((cell : ℕ) → IsFrugal credit (f cell)) → IsFrugal credit (bind (element_of range i) f)
frugal-element_of credit None i f h = FrugalRaise _
frugal-element_of credit (Some range) (pos i) f h = frugal-in credit (nat_lt i range.size) (range.first + i) traps.Index f h
frugal-element_of credit (Some range) (negsuc i) f h = FrugalRaise _

frugal-take_at : (input : List ℤ) (cursor : ℤ) → IsFrugal 1 (take_at input cursor)
frugal-take_at input (pos n) = frugal_if (nat_lt n (length input)) _ _ (FrugalSet _ _ (FrugalReturn _)) (FrugalRaise _)
frugal-take_at input (negsuc n) = FrugalRaise _

pub frugal-evaluate : (setting : Setting) (locals : List Local) (e : Expression) → IsFrugal 0 (evaluate setting locals e)
frugal-evaluate setting locals (Number n) = FrugalStep (FrugalReturn n)
frugal-evaluate setting locals (Name x) = FrugalStep (frugal-named_value (local_value locals x) (setting.cells x))
frugal-evaluate setting locals (Element x i) =
    frugal-bind (frugal-evaluate setting locals i) (λ v. FrugalStep
    (frugal-element_of 2 (setting.cells x) v (λ c. Get c Return) (λ c. FrugalGet c (λ r. FrugalReturn r))))
frugal-evaluate setting locals (And a b) =
    frugal-bind (frugal-evaluate setting locals a) (λ x. FrugalStep
    (frugal_by_zero x _ _ (FrugalReturn _) (frugal_more (frugal-bind (frugal-evaluate setting locals b) (λ y. FrugalReturn _)) 2
    (omega arith))))
frugal-evaluate setting locals (Or a b) =
    frugal-bind (frugal-evaluate setting locals a) (λ x. FrugalStep
    (frugal_by_zero x _ _ (frugal_more (frugal-bind (frugal-evaluate setting locals b) (λ y. FrugalReturn _)) 2 (omega arith))
    (FrugalReturn _)))
frugal-evaluate setting locals (Binary code a b) =
    frugal-bind (frugal-evaluate setting locals a) (λ x. frugal-bind (frugal-evaluate setting locals b)
    (λ y. FrugalStep (frugal-operate 2 code x y)))
frugal-evaluate setting locals (Unary code a) = frugal-bind (frugal-evaluate setting locals a)
    (λ x. FrugalStep (frugal-operate_one 2 code x))
frugal-evaluate setting locals More = FrugalStep (FrugalGet 0 (λ v. FrugalReturn _))
frugal-evaluate setting locals Take = FrugalStep (FrugalGet 0 (λ v. frugal-take_at setting.world.input v))
frugal-evaluate setting locals Iter = FrugalStep (FrugalReturn _)

-- ---- trees with stages

-- the same for a tree that names at most `room` next stages; its result has the property P for the remaining room
pub data IsBounded {A : Type 0} (P : ℕ → A → Type 0) : ℕ → ℕ → Interaction A → Type 0 where
  BoundReturn : {credit room : ℕ} {a : A} → P room a → IsBounded P credit room (Return a)
  BoundRaise : {credit room : ℕ} (t : Trap) → IsBounded P credit room (Raise t)
  BoundStep : {credit room : ℕ} {d : Interaction A} → IsBounded P 2 room d → IsBounded P credit room (Step d)
  BoundGet : {credit room : ℕ} {go : ℤ → Interaction A} (c : ℕ) → ((v : ℤ) → IsBounded P credit room (go v))
      → IsBounded P (suc credit) room (Get c go)
  BoundSet : {credit room : ℕ} {d : Interaction A} (c : ℕ) (v : ℤ) → IsBounded P credit room d → IsBounded P (suc credit) room (Set c v d)
  BoundStage : {credit room : ℕ} {d : Interaction A} (k : Kind) (n : ℤ) → IsBounded P 0 room d → IsBounded P credit (suc room) (Stage k n d)

bounded_more : {A : Type 0} {P : ℕ → A → Type 0} {credit room : ℕ} {d : Interaction A} → IsBounded P credit room d → (more : ℕ)
    → credit ≤ more
    → IsBounded P more room d
bounded_more (BoundReturn p) more le = BoundReturn p
bounded_more (BoundRaise t) more le = BoundRaise t
bounded_more (BoundStep s) more le = BoundStep s
bounded_more (BoundGet c s) zero le = absurd (omega (arith, le))
bounded_more (BoundGet c s) (suc more) le = BoundGet c (λ v. bounded_more (s v) more (omega (arith, le)))
bounded_more (BoundSet c v s) zero le = absurd (omega (arith, le))
bounded_more (BoundSet c v s) (suc more) le = BoundSet c v (bounded_more s more (omega (arith, le)))
bounded_more (BoundStage k n s) more le = BoundStage k n s

bounded-bind : {A B : Type 0} {P : ℕ → A → Type 0} {Q : ℕ → B → Type 0} {credit room : ℕ} {d : Interaction A} {f : A → Interaction B}
    → IsBounded P credit room d → ((r : ℕ) (a : A) → P r a → IsBounded Q 0 r (f a)) → IsBounded Q credit room (bind d f)
bounded-bind (BoundReturn {credit} {room} {a} p) h = bounded_more (h room a p) credit (omega arith)
bounded-bind (BoundRaise t) h = BoundRaise t
bounded-bind (BoundStep s) h = BoundStep (bounded-bind s h)
bounded-bind (BoundGet c s) h = BoundGet c (λ v. bounded-bind (s v) h)
bounded-bind (BoundSet c v s) h = BoundSet c v (bounded-bind s h)
bounded-bind (BoundStage k n s) h = BoundStage k n (bounded-bind s h)

frugal-then : {A B : Type 0} {Q : ℕ → B → Type 0} {credit : ℕ} (room : ℕ) {d : Interaction A} {f : A → Interaction B}
    → IsFrugal credit d → ((a : A) → IsBounded Q 0 room (f a)) → IsBounded Q credit room (bind d f)
frugal-then room (FrugalReturn {credit} a) h = bounded_more (h a) credit (omega arith)
frugal-then room (FrugalRaise t) h = BoundRaise t
frugal-then room (FrugalStep s) h = BoundStep (frugal-then room s h)
frugal-then room (FrugalGet c s) h = BoundGet c (λ v. frugal-then room (s v) h)
frugal-then room (FrugalSet c v s) h = BoundSet c v (frugal-then room s h)

bounded_if : {A : Type 0} {P : ℕ → A → Type 0} {credit room : ℕ} (b : Bool) (x y : Interaction A)
    → (b ≡ true → IsBounded P credit room x) → IsBounded P credit room y → IsBounded P credit room (if b then x else y)
bounded_if true x y s t = s refl
bounded_if false x y s t = t

bounded_by_zero : {A : Type 0} {P : ℕ → A → Type 0} {credit room : ℕ} (v : ℤ) {x y : Interaction A}
    → IsBounded P credit room x → IsBounded P credit room y → IsBounded P credit room (if_zero v x y)
bounded_by_zero (pos zero) s t = s
bounded_by_zero (pos (suc n)) s t = t
bounded_by_zero (negsuc n) s t = t

-- the number of instances so far, plus the remaining room, is the limit
abbrev pub FitsIn : ℕ → ℕ → Environment → Type 0
FitsIn stages room env = stages ≤ env.stage.count + room

abbrev pub PositionFits : ℕ → ℕ → StagePosition → Type 0
PositionFits stages room here = stages ≤ here.count + room

bounded-stage : (stages room : ℕ) (kind : Kind) (here : StagePosition) (n : ℤ) → stages ≤ here.count + room → here.count < stages
    → IsBounded (PositionFits stages) 0 room (Stage kind n (Return (record { number = n; count = here.count + 1 })))
bounded-stage stages zero kind here n has l = absurd (omega (arith, has, l))
bounded-stage stages (suc room) kind here n has l = BoundStage kind n (BoundReturn (omega (arith, has)))

bounded-go_to_stage : (stages room : ℕ) (kind : StageKind) (here : StagePosition) (n : ℤ) → stages ≤ here.count + room
    → IsBounded (PositionFits stages) 0 room (go_to_stage stages kind here n)
bounded-go_to_stage stages room kind here n has =
    bounded_if (int_lt here.number n) _ _ (λ above. bounded_if (nat_lt here.count stages) _ _
    (λ free. bounded-stage stages room (kind_of_stage kind) here n has (ltb-true here.count stages free)) (BoundRaise _)) (BoundRaise _)

bounded-assign : (stages room : ℕ) (env : Environment) (o : Option ℤ) (range : Option CellRange) (x : List ℕ) (v : ℤ)
    → stages ≤ env.stage.count + room
    → IsBounded (FitsIn stages) 2 room (assign env o range x v)
bounded-assign stages room env (Some old) range x v has = BoundReturn has
bounded-assign stages room env None (Some range) x v has = BoundSet _ _ (BoundReturn has)
bounded-assign stages room env None None x v has = BoundRaise _

frugal-emit : (limit : ℕ) (v : ℤ) → IsFrugal 2 (emit limit v)
frugal-emit limit v = FrugalGet 1 (λ count. frugal_if (int_eq count (pos limit)) _ _ (FrugalRaise _) (FrugalSet 1 v (FrugalReturn tt)))

bounded-write : (stages room : ℕ) (env : Environment) (range : Option CellRange) (i v : ℤ) → stages ≤ env.stage.count + room
    → IsBounded (FitsIn stages) 2 room (bind (element_of range i) (λ cell. Set cell v (Return env)))
bounded-write stages room env None i v has = BoundRaise _
bounded-write stages room env (Some range) (negsuc i) v has = BoundRaise _
bounded-write stages room env (Some range) (pos i) v has = by_test (nat_lt i range.size)
  where
    by_test : (b : Bool) → IsBounded (FitsIn stages) 2 room
        (bind (if b then Return (range.first + i) else Raise traps.Index) (λ cell. Set cell v (Return env)))
    by_test true = BoundSet _ _ (BoundReturn has)
    by_test false = BoundRaise _

bounded-turns : (stages turns : ℕ) (test : Environment → Interaction ℤ) (body : Environment → Interaction Environment) (env : Environment)
    (room : ℕ)
    → ((now : Environment) → IsFrugal 0 (test now))
    → ((now : Environment) (r : ℕ) → stages ≤ now.stage.count + r → IsBounded (FitsIn stages) 0 r (body now))
    → stages ≤ env.stage.count + room → IsBounded (FitsIn stages) 0 room (loop_turns turns test body env)
bounded-turns stages zero test body env room frugal bounded has = BoundRaise _
bounded-turns stages (suc turns) test body env room frugal bounded has =
    frugal-then room (frugal env) (λ v. BoundStep (bounded_by_zero v (BoundReturn has)
    (bounded_more (bounded-bind (bounded env room has)
    (λ r after has2. bounded-turns stages turns test body (leave_block env after) r frugal
    bounded has2)) 2 (omega arith))))

mutual
  pub bounded-execute : (setting : Setting) (s : Statement) (env : Environment) (room : ℕ) → setting.world.stages ≤ env.stage.count + room
      → IsBounded (FitsIn setting.world.stages) 0 room (execute setting s env)
  bounded-execute setting (Let x e) env room has = frugal-then room (frugal-evaluate setting env.locals e)
      (λ v. BoundStep (BoundReturn has))
  bounded-execute setting (Assign x e) env room has =
      frugal-then room (frugal-evaluate setting env.locals e) (λ v. BoundStep
      (bounded-assign setting.world.stages room env (local_value env.locals x) (setting.cells x) x v has))
  bounded-execute setting (AssignElement x i e) env room has =
      frugal-then room (frugal-evaluate setting env.locals i) (λ j. frugal-then room (frugal-evaluate setting env.locals e)
      (λ v. BoundStep (bounded-write setting.world.stages room env (setting.cells x) j v has)))
  bounded-execute setting (Emit e) env room has =
      frugal-then room (frugal-evaluate setting env.locals e)
      (λ v. BoundStep (frugal-then room (frugal-emit setting.world.emits v) (λ done. BoundReturn has)))
  bounded-execute setting (If e a b) env room has =
      frugal-then room (frugal-evaluate setting env.locals e) (λ v. BoundStep (bounded-bind
      (bounded_by_zero v (bounded_more (bounded-execute_all setting b env room has) 2 (omega arith))
      (bounded_more (bounded-execute_all setting a env room has) 2 (omega arith)))
      (λ r after has2. BoundReturn has2)))
  bounded-execute setting (While e a) env room has =
      bounded-turns setting.world.stages setting.turns (λ now. evaluate setting now.locals e) (execute_all setting a) env room
      (λ now. frugal-evaluate setting now.locals e)
      (λ now r has2. bounded-execute_all setting a now r has2) has
  bounded-execute setting (syntax.Stage kind e) env room has =
      frugal-then room (frugal-evaluate setting env.locals e) (λ n. BoundStep (bounded-bind
      (bounded_more (bounded-go_to_stage setting.world.stages room kind env.stage n has) 2 (omega arith))
      (λ r stage has2. BoundReturn has2)))
  bounded-execute setting (NextStage kind) env room has =
      BoundStep (bounded-bind (frugal-then room (frugal-fitting 2 (env.stage.number +ℤ pos 1))
      (λ n. bounded-go_to_stage setting.world.stages room kind env.stage n has))
      (λ r stage has2. BoundReturn has2))

  pub bounded-execute_all : (setting : Setting) (ss : Statements) (env : Environment) (room : ℕ)
      → setting.world.stages ≤ env.stage.count + room
      → IsBounded (FitsIn setting.world.stages) 0 room (execute_all setting ss env)
  bounded-execute_all setting Empty env room has = BoundReturn has
  bounded-execute_all setting (Then s ss) env room has =
      bounded-bind (bounded-execute setting s env room has) (λ r after has2. bounded-execute_all setting ss after r has2)

abbrev AnyEnd : ℕ → ColumnEnd → Type 0
AnyEnd room e = Unit {0}

bounded-run_iteration : (setting : Setting) (test : Expression) (body : Statements) (room : ℕ) → setting.world.stages ≤ 1 + room
    → IsBounded AnyEnd 0 room (run_iteration setting test body)
bounded-run_iteration setting test body room has =
    frugal-then room (frugal-evaluate setting [] test) (λ v. BoundStep (bounded_by_zero v (BoundReturn tt)
    (bounded_if (int_eq (pos setting.world.iteration) setting.world.iterations) _ _ (λ last. BoundRaise traps.IterLimit)
    (bounded_more (bounded-bind (bounded-execute_all setting body first_environment room has) (λ r env has2. BoundReturn tt)) 2
    (omega arith)))))

-- ---- the behaviour

work-with_budget : {P : ℕ → ColumnEnd → Type 0} {credit room : ℕ} {d : Interaction ColumnEnd} → IsBounded P credit room d
    → (budget left allowed : ℕ) → credit + 2 * left ≤ allowed → HasBoundedWork (2 * budget) allowed room (with_budget budget left d)
work-with_budget (BoundReturn p) budget left allowed le = tt
work-with_budget (BoundRaise t) budget left allowed le = tt
work-with_budget (BoundStep s) budget zero allowed le = tt
work-with_budget (BoundStep s) budget (suc left) allowed le = work-with_budget s budget left allowed (omega (arith, le))
work-with_budget (BoundGet c s) budget left zero le = absurd (omega (arith, le))
work-with_budget (BoundGet c s) budget left (suc allowed) le =
    (allowed, refl, (λ v. work-with_budget (s v) budget left allowed (omega (arith, le))))
work-with_budget (BoundSet c v s) budget left zero le = absurd (omega (arith, le))
work-with_budget (BoundSet c v s) budget left (suc allowed) le = (allowed, refl, work-with_budget s budget left allowed (omega (arith, le)))
work-with_budget (BoundStage {credit} {room} k n s) budget left allowed le =
    (room, refl, work-with_budget s budget budget (2 * budget) (omega arith))

pub programs_have_bounded_work : ProgramsHaveBoundedWork
programs_have_bounded_work tree input i =
    let budget = natural tree.limits.steps in
    let stages = natural tree.limits.stages in
    work-with_budget (bounded-run_iteration (setting_of tree input i) tree.test tree.body (stages - 1) (omega arith)) budget budget
    (2 * budget) (omega arith)

-- an iteration that always closes the loop has one instance
closes_alone : (d : Behaviour) (each left more : ℕ) → AlwaysClosesLoop d → HasBoundedWork each left more d → HasBoundedWork each left 0 d
closes_alone (Reading c go) each left more h b = (b.0, b.1, (λ v. closes_alone (go v) each b.0 more (h v) (b.2 v)))
closes_alone (Writing c v d) each left more h b = (b.0, b.1, closes_alone d each b.0 more h b.2)
closes_alone (Staging k n d) each left more h b = absurd h
closes_alone (Ending e) each left more h b = tt

-- the greatest number of instances after instance 0 of iteration i, if the loop ends in iteration `last`
abbrev pub further : ℕ → ℕ → ℕ → ℕ
further last stages i = if i == last then 0 else stages - 1

-- the work of an iteration, by whether it is the last
pub further_bounded : (last stages each i : ℕ) (d : Behaviour) → (i ≡ last → AlwaysClosesLoop d) → HasBoundedWork each each (stages - 1) d
    → HasBoundedWork each each (further last stages i) d
further_bounded last stages each i d closing b = by_test (i == last) (eqb-true i last)
  where
    by_test : (t : Bool) → (t ≡ true → i ≡ last) → HasBoundedWork each each (if t then 0 else stages - 1) d
    by_test true e = closes_alone d each each (stages - 1) (closing (e refl)) b
    by_test false e = b

-- an iteration has at most as many instances as the limit
pub further_within : (last stages i : ℕ) → 1 ≤ stages → further last stages i + 1 ≤ stages
further_within last stages i one = by_test (i == last)
  where
    by_test : (t : Bool) → (if t then 0 else stages - 1) + 1 ≤ stages
    by_test true = omega (arith, one)
    by_test false = omega (arith, one)

-- the events of the iterations before the last
sum_before : (last stages each n : ℕ) → 1 ≤ stages → sum_below (λ i. (further last stages i + 1) * (each + 2)) n ≤ n * (stages * (each + 2))
sum_before last stages each zero one = omega arith
sum_before last stages each (suc n) one =
    let rest = sum_before last stages each n one in
    let this : (further last stages n + 1) * (each + 2) ≤ stages * (each + 2) = mul-le-mul_right (each + 2)
    (further_within last stages n one) in
    let m = suc-mul n (stages * (each + 2)) in
    omega (arith, rest, this, m)

-- the events of all iterations
sum_all : (last stages each n : ℕ) → 1 ≤ stages → n ≤ last + 1
    → sum_below (λ i. (further last stages i + 1) * (each + 2)) n ≤ (last * stages + 1) * (each + 2)
sum_all last stages each n one le = elim (cases_lt last n) [
  | inl over ↦ (
      let all : n ≡ suc last = omega (arith, over, le) in
      let rest = sum_before last stages each last one in
      let this : (further last stages last + 1) * (each + 2) ≡ each + 2 = rw (eq-eqb last last refl) (omega arith) in
      let m : last * (stages * (each + 2)) ≡ last * stages * (each + 2) = sym (mul_assoc last stages (each + 2)) in
      let q : (last * stages + 1) * (each + 2) ≡ last * stages * (each + 2) + (each + 2) = grind arith in
      rw all (omega (arith, rest, this, m, q)))
  | inr under ↦ (
      let rest = sum_before last stages each n one in
      let small : n * (stages * (each + 2)) ≤ last * (stages * (each + 2)) = mul-le-mul_right {m = n} {n = last}
      (stages * (each + 2)) under in
      let m : last * (stages * (each + 2)) ≡ last * stages * (each + 2) = sym (mul_assoc last stages (each + 2)) in
      let q : (last * stages + 1) * (each + 2) ≡ last * stages * (each + 2) + (each + 2) = grind arith in
      omega (arith, rest, small, m, q))
]

pub program_runs_are_bounded : ProgramRunsAreBounded
program_runs_are_bounded tree input limit events s a r going =
    let budget = natural tree.limits.steps in
    let stages = natural tree.limits.stages in
    let last = natural tree.limits.iterations in
    let well = accepted_is_well_formed tree input a in
    let one = (planned_limits tree a.obeys).one_stage in
    let h = runs_are_bounded (pipeline_after_init tree input) limit (2 * budget) (further last stages) events s r well.closes
    (λ i. further_bounded last stages (2 * budget) i ((pipeline_of tree input).behaviour i)
    (λ e. subst (λ n. AlwaysClosesLoop ((pipeline_of tree input).behaviour n)) (sym e) well.closes)
    (programs_have_bounded_work tree input i)) going in
    let all = sum_all last stages (2 * budget) (length s.frames) one h.1 in
    let events' = h.0 in
    (omega (arith, events', all), h.1)
