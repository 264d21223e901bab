-- A bound on the turns of loops that is above the steps of all instances has no effect on a behaviour.
use Rattle.std.proofs.Common.{◌≡◌, ◌∙◌, sym, ap, ℕ, zero, suc, ℤ, pos, negsuc, Bool, true, false, List, [], Option, Some, None}
use Rattle.std.proofs.Common.{if◌then◌else◌, nat_lt, ◌<◌, ◌≤◌, ◌+◌, ◌*◌, ◌-◌, refl, arith}
use Rattle.std.specs.Prelude.{int_lt, ◌+ℤ◌}
use Rattle.std.specs.Ordering.{int_eq}
use Rattle.std.proofs.Math.Nat.{mul-suc}
use Rattle.std.proofs.lemmas.Bool.{ltb-true}
use Rattle.pipe_model.specs.declared.node.Kind.{Kind}
use Rattle.pipe_model.specs.declared.tree.StageKind.{StageKind}
use Rattle.pipe_model.specs.declared.column.ColumnEnd.{ColumnEnd}
use Rattle.pipe_model.specs.declared.trap.Trap.{Trap}
use Rattle.pipe_model.specs.declared.trap.Trap.TheVariants as traps
use Rattle.pipe_model.specs.Pipelines.Behaviour.{Reading, Writing, Staging}
use Rattle.pipe_model.specs.Language.Evaluation.{CellRange, Local, Setting, StagePosition, Environment, evaluate, execute, execute_all}
use Rattle.pipe_model.specs.Language.Evaluation.{assign, go_to_stage, if_zero, leave_block, loop_turns, local_value, run_iteration}
use Rattle.pipe_model.specs.Language.Evaluation.{first_environment}
use Rattle.pipe_model.specs.Language.Interaction.{Interaction, Return, Raise, Step, Get, Set, Stage, bind, with_budget}
use Rattle.pipe_model.specs.Language.SyntaxTree as syntax
use Rattle.pipe_model.specs.Language.SyntaxTree.{Expression, Number, Name, Element, And, Or, Binary, Unary, More, Take, Iter, Statement}
use Rattle.pipe_model.specs.Language.SyntaxTree.{Let, Assign, AssignElement, Emit, If, While, NextStage, Statements, Empty, Then}
use Rattle.pipe_model.specs.Language.SyntaxTree.{kind_of_stage}
use Rattle.program_laws.proofs.LegalStages.{straight-emit}
use Rattle.program_laws.proofs.Straight.{IsStraight, Returns, Raises, Steps, Gets, Sets, Anything, straight-evaluate, straight-element_of}
use Rattle.program_laws.proofs.Straight.{straight-fitting}
use Rattle.pipe_model.specs.Language.Programs.{natural, setting_of}
use Rattle.program_laws.specs.LoopTurns.{with_turns}
use Rattle.pipe_model.specs.Language.ProgramsOfTrees.{execute_part}
use Rattle.program_laws.specs.LoopTurns.{MoreTurnsChangeNothing, MoreTurnsChangeNoPart}

-- functions that agree everywhere are equal
pub fun_ext : {A B : Type 0} (f g : A → B) → ((x : A) → f x ≡ g x) → f ≡ g
fun_ext f g h = λ i. λ x. h x i

-- with `left` steps left in this instance, and room for `room` more instances, the trees do the same;
-- the results of both have the property P at the steps and the room that are then left
pub data SameWithin (budget : ℕ) {A : Type 0} (P : ℕ → ℕ → A → Type 0) : ℕ → ℕ → Interaction A → Interaction A → Type 0 where
  SameReturn : {left room : ℕ} {a : A} → P left room a → SameWithin budget P left room (Return a) (Return a)
  SameRaise : {left room : ℕ} (t : Trap) → SameWithin budget P left room (Raise t) (Raise t)
  SameStop : {room : ℕ} {d e : Interaction A} → SameWithin budget P zero room (Step d) (Step e)
  SameStep : {left room : ℕ} {d e : Interaction A} → SameWithin budget P left room d e → SameWithin budget P (suc left) room (Step d)
      (Step e)
  SameGet : {left room : ℕ} {go goes : ℤ → Interaction A} (c : ℕ) → ((v : ℤ) → SameWithin budget P left room (go v) (goes v))
      → SameWithin budget P left room (Get c go) (Get c goes)
  SameSet : {left room : ℕ} {d e : Interaction A} (c : ℕ) (v : ℤ) → SameWithin budget P left room d e
      → SameWithin budget P left room (Set c v d) (Set c v e)
  SameStage : {left room : ℕ} {d e : Interaction A} (k : Kind) (n : ℤ) → SameWithin budget P budget room d e
      → SameWithin budget P left (suc room) (Stage k n d) (Stage k n e)

-- they have the same behaviour
pub same_behaviour : {budget : ℕ} {P : ℕ → ℕ → ColumnEnd → Type 0} {left room : ℕ} {d e : Interaction ColumnEnd}
    → SameWithin budget P left room d e
    → with_budget budget left d ≡ with_budget budget left e
same_behaviour (SameReturn p) = refl
same_behaviour (SameRaise t) = refl
same_behaviour SameStop = refl
same_behaviour (SameStep s) = same_behaviour s
same_behaviour {budget} (SameGet {left} {room} {go} {goes} c s) =
    ap (λ f. Reading c f) (fun_ext (λ v. with_budget budget left (go v)) (λ v. with_budget budget left (goes v))
    (λ v. same_behaviour (s v)))
same_behaviour (SameSet c v s) = ap (λ d. Writing c v d) (same_behaviour s)
same_behaviour (SameStage k n s) = ap (λ d. Staging k n d) (same_behaviour s)

-- one tree after another: the number of all steps that are left does not grow
pub same-bind : {A B : Type 0} {P : ℕ → ℕ → A → Type 0} {Q : ℕ → ℕ → B → Type 0} (budget : ℕ) {left room : ℕ} {x y : Interaction A}
    {f g : A → Interaction B}
    → SameWithin budget P left room x y
    → ((l r : ℕ) (a : A) → l + budget * r ≤ left + budget * room → P l r a → SameWithin budget Q l r (f a) (g a))
    → SameWithin budget Q left room (bind x f) (bind y g)
same-bind budget (SameReturn {left} {room} {a} p) h = h left room a (omega arith) p
same-bind budget (SameRaise t) h = SameRaise t
same-bind budget SameStop h = SameStop
same-bind budget (SameStep s) h = SameStep (same-bind budget s (λ l r a le p. h l r a (omega (arith, le)) p))
same-bind budget (SameGet c s) h = SameGet c (λ v. same-bind budget (s v) h)
same-bind budget (SameSet c v s) h = SameSet c v (same-bind budget s h)
same-bind budget (SameStage {left} {room} k n s) h =
    SameStage k n (same-bind budget s (λ l r a le p. (let m = mul-suc budget room in h l r a (omega (arith, le, m)) p)))

-- both take a step, or no step is left
step_or_stop : {A : Type 0} {P : ℕ → ℕ → A → Type 0} (budget left room : ℕ) (d e : Interaction A)
    → ((l : ℕ) → l < left → SameWithin budget P l room d e) → SameWithin budget P left room (Step d) (Step e)
step_or_stop budget zero room d e h = SameStop
step_or_stop budget (suc l) room d e h = SameStep (h l (omega arith))

-- a tree without stages before two others
pub straight-same : {A B : Type 0} {P : A → Type 0} {Q : ℕ → ℕ → B → Type 0} (budget left room : ℕ) {d : Interaction A}
    {f g : A → Interaction B}
    → IsStraight P d → ((l : ℕ) (a : A) → l ≤ left → P a → SameWithin budget Q l room (f a) (g a))
    → SameWithin budget Q left room (bind d f) (bind d g)
straight-same budget left room (Returns {a} p) h = h left a (omega arith) p
straight-same budget left room (Raises t) h = SameRaise t
straight-same budget zero room (Steps s) h = SameStop
straight-same budget (suc left) room (Steps s) h = SameStep (straight-same budget left room s (λ l a le p. h l a (omega (arith, le)) p))
straight-same budget left room (Gets c s) h = SameGet c (λ v. straight-same budget left room (s v) h)
straight-same budget left room (Sets c v s) h = SameSet c v (straight-same budget left room s h)

-- two pairs of trees, chosen by a number
same_by_zero : {A : Type 0} {P : ℕ → ℕ → A → Type 0} {budget left room : ℕ} (v : ℤ) {x y x' y' : Interaction A}
    → SameWithin budget P left room x x' → SameWithin budget P left room y y' → SameWithin budget P left room (if_zero v x y)
    (if_zero v x' y')
same_by_zero (pos zero) s t = s
same_by_zero (pos (suc n)) s t = t
same_by_zero (negsuc n) s t = t

-- an expression makes no turns of loops
pub evaluate-with_turns : (setting : Setting) (turns : ℕ) (locals : List Local) (e : Expression)
    → evaluate (with_turns turns setting) locals e ≡ evaluate setting locals e
evaluate-with_turns setting turns locals (Number n) = refl
evaluate-with_turns setting turns locals (Name x) = refl
evaluate-with_turns setting turns locals (Element x i) = rw (evaluate-with_turns setting turns locals i)
evaluate-with_turns setting turns locals (And a b) =
    rw (evaluate-with_turns setting turns locals a, evaluate-with_turns setting turns locals b)
evaluate-with_turns setting turns locals (Or a b) =
    rw (evaluate-with_turns setting turns locals a, evaluate-with_turns setting turns locals b)
evaluate-with_turns setting turns locals (Binary code a b) =
    rw (evaluate-with_turns setting turns locals a, evaluate-with_turns setting turns locals b)
evaluate-with_turns setting turns locals (Unary code a) = rw (evaluate-with_turns setting turns locals a)
evaluate-with_turns setting turns locals More = refl
evaluate-with_turns setting turns locals Take = refl
evaluate-with_turns setting turns locals Iter = refl

-- the number of instances so far, plus the remaining room, is the limit
abbrev pub HasRoom : ℕ → ℕ → ℕ → Environment → Type 0
HasRoom stages left room env = stages ≤ env.stage.count + room

abbrev pub HasRoomAt : ℕ → ℕ → ℕ → StagePosition → Type 0
HasRoomAt stages left room here = stages ≤ here.count + room

same-stage : (budget stages left room : ℕ) (kind : Kind) (here : StagePosition) (n : ℤ) → stages ≤ here.count + room → here.count < stages
    → SameWithin budget (HasRoomAt stages) left room (Stage kind n (Return (record { number = n; count = here.count + 1 })))
    (Stage kind n (Return (record { number = n; count = here.count + 1 })))
same-stage budget stages left zero kind here n has l = absurd (omega (arith, has, l))
same-stage budget stages left (suc room) kind here n has l = SameStage kind n (SameReturn (omega (arith, has)))

same_if : {A : Type 0} {P : ℕ → ℕ → A → Type 0} {budget left room : ℕ} (b : Bool) (x y : Interaction A)
    → (b ≡ true → SameWithin budget P left room x x) → SameWithin budget P left room y y
    → SameWithin budget P left room (if b then x else y) (if b then x else y)
same_if true x y s t = s refl
same_if false x y s t = t

same-go_to_stage : (budget stages left room : ℕ) (kind : StageKind) (here : StagePosition) (n : ℤ) → stages ≤ here.count + room
    → SameWithin budget (HasRoomAt stages) left room (go_to_stage stages kind here n) (go_to_stage stages kind here n)
same-go_to_stage budget stages left room kind here n has =
    same_if (int_lt here.number n) _ _ (λ above. same_if (nat_lt here.count stages) _ _
    (λ free. same-stage budget stages left room (kind_of_stage kind) here n has (ltb-true here.count stages free))
    (SameRaise traps.StageLimit))
    (SameRaise traps.StageOrder)

-- the environment has the stage of the one before
abbrev KeepsStage : Environment → Environment → Type 0
KeepsStage env after = after.stage ≡ env.stage

straight-assign : (env : Environment) (o : Option ℤ) (range : Option CellRange) (x : List ℕ) (v : ℤ)
    → IsStraight (KeepsStage env) (assign env o range x v)
straight-assign env (Some old) range x v = Returns refl
straight-assign env None (Some range) x v = Sets _ _ (Returns refl)
straight-assign env None None x v = Raises _

-- a tree without stages does the same as itself
same_straight : {A : Type 0} {P : A → Type 0} {Q : ℕ → ℕ → A → Type 0} (budget left room : ℕ) {d : Interaction A} → IsStraight P d
    → ((l : ℕ) (a : A) → P a → Q l room a) → SameWithin budget Q left room d d
same_straight budget left room (Returns {a} p) h = SameReturn (h left a p)
same_straight budget left room (Raises t) h = SameRaise t
same_straight budget zero room (Steps s) h = SameStop
same_straight budget (suc left) room (Steps s) h = SameStep (same_straight budget left room s h)
same_straight budget left room (Gets c s) h = SameGet c (λ v. same_straight budget left room (s v) h)
same_straight budget left room (Sets c v s) h = SameSet c v (same_straight budget left room s h)

-- two bounds on turns that are above all steps that are left
same-turns : (budget stages n m : ℕ) (test tests : Environment → Interaction ℤ) (body other : Environment → Interaction Environment)
    (env : Environment) (left room : ℕ)
    → ((now : Environment) → IsStraight Anything (test now)) → ((now : Environment) → tests now ≡ test now)
    → ((now : Environment) (l r : ℕ) → l + budget * r ≤ left + budget * room → stages ≤ now.stage.count + r
    → SameWithin budget (HasRoom stages) l r (body now) (other now))
    → stages ≤ env.stage.count + room → left + budget * room < n → left + budget * room < m
    → SameWithin budget (HasRoom stages) left room (loop_turns n test body env) (loop_turns m tests other env)
same-turns budget stages zero m test tests body other env left room straight agree bodies has ln lm = absurd (omega (arith, ln))
same-turns budget stages (suc n) zero test tests body other env left room straight agree bodies has ln lm = absurd (omega (arith, lm))
same-turns budget stages (suc n) (suc m) test tests body other env left room straight agree bodies has ln lm =
    rw (agree env) (straight-same budget left room (straight env) (λ l v le any. step_or_stop budget l room _ _ (λ k lk.
    same_by_zero v (SameReturn has) (same-bind budget (bodies env k room (omega (arith, le, lk)) has) (λ l2 r2 after le2 has2.
    same-turns budget stages n m test tests body other (leave_block env after) l2 r2 straight agree
    (λ now l3 r3 le3 has3. bodies now l3 r3 (omega (arith, le3, le2, lk, le)) has3) has2 (omega (arith, ln, le2, lk, le))
    (omega (arith, lm, le2, lk, le)))))))

mutual
  -- a statement does the same with two bounds that are above all steps that are left
  pub same-execute : (budget : ℕ) (setting : Setting) (n m : ℕ) (s : Statement) (env : Environment) (left room : ℕ)
      → setting.world.stages ≤ env.stage.count + room
      → left + budget * room < n → left + budget * room < m
      → SameWithin budget (HasRoom setting.world.stages) left room (execute (with_turns n setting) s env)
      (execute (with_turns m setting) s env)
  same-execute budget setting n m (Let x e) env left room has ln lm =
      rw (evaluate-with_turns setting n env.locals e, evaluate-with_turns setting m env.locals e)
      (straight-same budget left room (straight-evaluate setting env.locals e)
      (λ l v le any. step_or_stop budget l room _ _ (λ k lk. SameReturn has)))
  same-execute budget setting n m (Assign x e) env left room has ln lm =
      rw (evaluate-with_turns setting n env.locals e, evaluate-with_turns setting m env.locals e)
      (straight-same budget left room (straight-evaluate setting env.locals e) (λ l v le any. step_or_stop budget l room _ _ (λ k lk.
      same_straight budget k room (straight-assign env (local_value env.locals x) (setting.cells x) x v)
      (λ l2 after kept. (let c = ap (λ (h : StagePosition). h.count) kept in omega (arith, c, has))))))
  same-execute budget setting n m (AssignElement x i e) env left room has ln lm =
      rw (
        evaluate-with_turns setting n env.locals i,
        evaluate-with_turns setting m env.locals i,
        evaluate-with_turns setting n env.locals e,
        evaluate-with_turns setting m env.locals e,
      )
      (straight-same budget left room (straight-evaluate setting env.locals i)
      (λ l j le any. straight-same budget l room (straight-evaluate setting env.locals e) (λ l2 v le2 any2.
      step_or_stop budget l2 room _ _ (λ k lk. straight-same budget k room (straight-element_of (setting.cells x) j)
      (λ l3 c le3 any3. SameSet c v (SameReturn has))))))
  same-execute budget setting n m (Emit e) env left room has ln lm =
      rw (evaluate-with_turns setting n env.locals e, evaluate-with_turns setting m env.locals e)
      (straight-same budget left room (straight-evaluate setting env.locals e) (λ l v le any. step_or_stop budget l room _ _ (λ k lk.
      straight-same budget k room (straight-emit setting.world.emits v) (λ l2 done le2 any2. SameReturn has))))
  same-execute budget setting n m (If e a b) env left room has ln lm =
      rw (evaluate-with_turns setting n env.locals e, evaluate-with_turns setting m env.locals e)
      (straight-same budget left room (straight-evaluate setting env.locals e) (λ l v le any. step_or_stop budget l room _ _ (λ k lk.
      same-bind budget (same_by_zero v (same-execute_all budget setting n m b env k room has (omega (arith, ln, le, lk))
      (omega (arith, lm, le, lk)))
      (same-execute_all budget setting n m a env k room has (omega (arith, ln, le, lk)) (omega (arith, lm, le, lk))))
      (λ l2 r2 after le2 has2. SameReturn has2))))
  same-execute budget setting n m (While e a) env left room has ln lm =
      same-turns budget setting.world.stages n m (λ now. evaluate (with_turns n setting) now.locals e)
      (λ now. evaluate (with_turns m setting) now.locals e)
      (execute_all (with_turns n setting) a) (execute_all (with_turns m setting) a) env left room
      (λ now. straight-evaluate (with_turns n setting) now.locals e)
      (λ now. evaluate-with_turns setting m now.locals e ∙ sym (evaluate-with_turns setting n now.locals e))
      (λ now l r le has2. same-execute_all budget setting n m a now l r has2 (omega (arith, ln, le)) (omega (arith, lm, le))) has ln lm
  same-execute budget setting n m (syntax.Stage kind e) env left room has ln lm =
      rw (evaluate-with_turns setting n env.locals e, evaluate-with_turns setting m env.locals e)
      (straight-same budget left room (straight-evaluate setting env.locals e) (λ l v le any. step_or_stop budget l room _ _ (λ k lk.
      same-bind budget (same-go_to_stage budget setting.world.stages k room kind env.stage v has)
      (λ l2 r2 stage le2 has2. SameReturn has2))))
  same-execute budget setting n m (NextStage kind) env left room has ln lm =
      step_or_stop budget left room _ _ (λ k lk. same-bind budget
      (straight-same budget k room (straight-fitting (env.stage.number +ℤ pos 1))
      (λ l v le any. same-go_to_stage budget setting.world.stages l room kind env.stage v has))
      (λ l2 r2 stage le2 has2. SameReturn has2))

  -- the same for statements in order
  pub same-execute_all : (budget : ℕ) (setting : Setting) (n m : ℕ) (ss : Statements) (env : Environment) (left room : ℕ)
      → setting.world.stages ≤ env.stage.count + room
      → left + budget * room < n → left + budget * room < m
      → SameWithin budget (HasRoom setting.world.stages) left room (execute_all (with_turns n setting) ss env)
      (execute_all (with_turns m setting) ss env)
  same-execute_all budget setting n m Empty env left room has ln lm = SameReturn has
  same-execute_all budget setting n m (Then s ss) env left room has ln lm =
      same-bind budget (same-execute budget setting n m s env left room has ln lm)
      (λ l r after le has2. same-execute_all budget setting n m ss after l r has2 (omega (arith, ln, le)) (omega (arith, lm, le)))

-- one of two trees after the test of the loop
same_or_raise : {P : ℕ → ℕ → ColumnEnd → Type 0} {budget left room : ℕ} (b : Bool) (t : Trap) (x y : Interaction ColumnEnd)
    → SameWithin budget P left room x y → SameWithin budget P left room (if b then Raise t else x) (if b then Raise t else y)
same_or_raise true t x y s = SameRaise t
same_or_raise false t x y s = s

abbrev pub AnyEnd : ℕ → ℕ → ColumnEnd → Type 0
AnyEnd left room e = Unit {0}

-- an iteration does the same with two bounds that are above all steps that are left
pub same-run_iteration : (budget : ℕ) (setting : Setting) (n m : ℕ) (test : Expression) (body : Statements) (left room : ℕ)
    → setting.world.stages ≤ 1 + room
    → left + budget * room < n → left + budget * room < m
    → SameWithin budget AnyEnd left room (run_iteration (with_turns n setting) test body) (run_iteration (with_turns m setting) test body)
same-run_iteration budget setting n m test body left room has ln lm =
    rw (evaluate-with_turns setting n [] test, evaluate-with_turns setting m [] test)
    (straight-same budget left room (straight-evaluate setting [] test) (λ l v le any. step_or_stop budget l room _ _ (λ k lk.
    same_by_zero v (SameReturn tt) (same_or_raise (int_eq (pos setting.world.iteration) setting.world.iterations) traps.IterLimit _ _
    (same-bind budget (same-execute_all budget setting n m body first_environment k room has (omega (arith, ln, le, lk))
    (omega (arith, lm, le, lk)))
    (λ l2 r2 env le2 has2. SameReturn tt))))))

-- the same for `init` and `final`
pub same-execute_part : (budget : ℕ) (setting : Setting) (n m : ℕ) (statements : Statements) (left room : ℕ)
    → setting.world.stages ≤ 1 + room
    → left + budget * room < n → left + budget * room < m
    → SameWithin budget AnyEnd left room (execute_part (with_turns n setting) statements) (execute_part (with_turns m setting) statements)
same-execute_part budget setting n m statements left room has ln lm =
    same-bind budget (same-execute_all budget setting n m statements first_environment left room has ln lm)
    (λ l2 r2 env le2 has2. SameReturn tt)

-- all steps of an iteration are fewer than this bound on turns
steps_below : (budget stages turns : ℕ) → 1 ≤ stages → stages * (budget + 1) ≤ turns → budget + budget * (stages - 1) < turns
steps_below budget zero turns one le = absurd (omega (arith, one))
steps_below budget (suc k) turns one le =
    let all : suc k * (budget + 1) ≡ budget * k + budget + k + 1 = grind arith in
    let z : suc k - 1 ≡ k = omega arith in
    rw z (omega (arith, le, all))

pub more_turns_change_nothing : MoreTurnsChangeNothing
more_turns_change_nothing tree input turns i one le =
    let budget = natural tree.limits.steps in
    let stages = natural tree.limits.stages in
    let bound : stages * (budget + 1) ≤ stages * (budget + 1) = omega arith in
    same_behaviour (same-run_iteration budget (setting_of tree input i) turns (stages * (budget + 1)) tree.test tree.body budget
    (stages - 1)
    (omega (arith, one)) (steps_below budget stages turns one le) (steps_below budget stages (stages * (budget + 1)) one bound))

pub more_turns_change_no_part : MoreTurnsChangeNoPart
more_turns_change_no_part tree input turns statements one le =
    let budget = natural tree.limits.steps in
    let stages = natural tree.limits.stages in
    let bound : stages * (budget + 1) ≤ stages * (budget + 1) = omega arith in
    same_behaviour (same-execute_part budget (setting_of tree input 0) turns (stages * (budget + 1)) statements budget (stages - 1)
    (omega (arith, one)) (steps_below budget stages turns one le) (steps_below budget stages (stages * (budget + 1)) one bound))
