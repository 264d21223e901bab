-- Programs access their own cells only: tree by tree, and then event by event.
use Rattle.std.proofs.Common.{◌≡◌, ap, refl, subst, sym, ℕ, zero, suc, ℤ, pos, negsuc, Bool, true, false, All, List, [], ◌∷◌, ◌++◌, Option}
use Rattle.std.proofs.Common.{Some, None, if◌then◌else◌, nat_lt, ◌<◌, ◌≤◌, ◌+◌, ◌==◌, arith, length}
use Rattle.std.proofs.lemmas.Bool.{ltb-true}
use Rattle.std.proofs.lemmas.List.Elements.{All-cons, All-nil, All-push}
use Rattle.std.proofs.Math.IntN.{◌-ℤ◌, ◌*ℤ◌, neg_ℤ}
use Rattle.std.specs.Ordering.{int_eq}
use Rattle.std.specs.Prelude.{int_lt, int_div, int_rem, ◌+ℤ◌}
use Rattle.std.specs.Str.{bytes_eq}
use Rattle.pipe_model.specs.declared.access.Access.{Access as CellAccess}
use Rattle.pipe_model.specs.declared.column.ColumnEnd.{ColumnEnd}
use Rattle.pipe_model.specs.declared.event.Event.{Event}
use Rattle.pipe_model.specs.declared.event.Event.TheVariants.{Access, Advance, Begin, Enter, Finish, Stop}
use Rattle.pipe_model.specs.declared.node.Kind.{Kind}
use Rattle.pipe_model.specs.declared.trap.Trap.{Trap}
use Rattle.pipe_model.specs.declared.trap.Trap.TheVariants as traps
use Rattle.pipe_model.specs.declared.tree.Declaration.{Declaration}
use Rattle.pipe_model.specs.declared.tree.StageKind.{StageKind}
use Rattle.pipe_model.specs.Language.CheckingRules.{BreaksNoRule, CheckingRule, breaks, broken_at, cell_total, first_broken, first_fault}
use Rattle.pipe_model.specs.Language.CheckingRules.{first_limit_out, rules_in_order}
use Rattle.pipe_model.specs.Language.Evaluation.{CellRange, Environment, Local, Setting, StagePosition, assign, divided, element_of, emit}
use Rattle.pipe_model.specs.Language.Evaluation.{evaluate, execute, execute_all, first_environment, fitting, go_to_stage}
use Rattle.pipe_model.specs.Language.Evaluation.{if_zero, is_i64, leave_block, local_value, loop_turns, named_value, operate, operate_one}
use Rattle.pipe_model.specs.Language.Evaluation.{run_iteration, take_at}
use Rattle.pipe_model.specs.Language.Interaction.{Get, Interaction, Raise, Return, Set, Stage, Step, bind, with_budget}
use Rattle.pipe_model.specs.Language.Marks.{DeclaredCell, Mark, mark_at, marks_of, marks_of_cells, marks_of_expression, marks_of_statements}
use Rattle.pipe_model.specs.Language.Marks.{opening}
use Rattle.pipe_model.specs.declared.region.Region.TheVariants as regions
use Rattle.pipe_model.specs.Language.Programs.{declared_size, natural, range_of, setting_of}
use Rattle.pipe_model.specs.Language.ProgramsOfTrees.{pipeline_after_init, whole_of}
use Rattle.pipe_model.specs.Language.SyntaxTree as syntax
use Rattle.pipe_model.specs.Language.SyntaxTree.{And, Assign, AssignElement, Binary, Element, Emit, Empty, Expression, If, Iter, Let, More}
use Rattle.pipe_model.specs.Language.SyntaxTree.{Name, NextStage, Number, Or, Statement, Statements, SyntaxTree, Take, Then, Unary, While}
use Rattle.pipe_model.specs.Pipelines.Behaviour.{Accessed, Action, Behaviour, Ended, Ending, Offers, Reading, Staged, Staging}
use Rattle.pipe_model.specs.Pipelines.Behaviour.{Writing, accesses_in, behaviour_after, behaviour_after_all, read_access, write_access}
use Rattle.pipe_model.specs.Pipelines.Pipeline.{Pipeline}
use Rattle.pipe_model.specs.Pipelines.SerialElision.{serial_trace}
use Rattle.pipe_model.specs.Pipelines.Store.{InitialStore, value_after}
use Rattle.pipe_model.specs.Runs.Allowed.{ProgramAllows}
use Rattle.pipe_model.specs.Runs.Run.{EmptyRun, RunThen}
use Rattle.pipe_model.specs.Runs.State.{State, frame_at, trace_in}
use Rattle.program_laws.proofs.UnbrokenMarks.{unbroken, unbroken_left, AreUnbroken}
use Rattle.program_laws.proofs.OneInstance.{rest_is_none}
use Rattle.program_laws.specs.DeclaredCells.{AccessesBelow, ActionsAccessBelow, InitAccessesItsCells, IsBelow, IsInside}
use Rattle.program_laws.specs.DeclaredCells.{ProgramRunsAccessTheirCells, ProgramsAccessTheirCells, RunsAccessBelow, cell_count}

-- ---- trees

-- each access of the tree is to one of the first `cells` cells
data IsTreeBelow {A : Type 0} (cells : ℕ) : Interaction A → Type 0 where
  Returns : (a : A) → IsTreeBelow cells (Return a)
  Raises : (t : Trap) → IsTreeBelow cells (Raise t)
  Steps : {d : Interaction A} → IsTreeBelow cells d → IsTreeBelow cells (Step d)
  Gets : {go : ℤ → Interaction A} (c : ℕ) → c < cells → ((v : ℤ) → IsTreeBelow cells (go v)) → IsTreeBelow cells (Get c go)
  Sets : {d : Interaction A} (c : ℕ) (v : ℤ) → c < cells → IsTreeBelow cells d → IsTreeBelow cells (Set c v d)
  Names : {d : Interaction A} (k : Kind) (n : ℤ) → IsTreeBelow cells d → IsTreeBelow cells (Stage k n d)

below-bind : {A B : Type 0} {cells : ℕ} {d : Interaction A} {f : A → Interaction B} → IsTreeBelow cells d
    → ((a : A) → IsTreeBelow cells (f a))
    → IsTreeBelow cells (bind d f)
below-bind (Returns a) h = h a
below-bind (Raises t) h = Raises t
below-bind (Steps s) h = Steps (below-bind s h)
below-bind (Gets c l s) h = Gets c l (λ v. below-bind (s v) h)
below-bind (Sets c v l s) h = Sets c v l (below-bind s h)
below-bind (Names k n s) h = Names k n (below-bind s h)

below_if : {A : Type 0} {cells : ℕ} (b : Bool) (x y : Interaction A) → IsTreeBelow cells x → IsTreeBelow cells y
    → IsTreeBelow cells (if b then x else y)
below_if true x y s t = s
below_if false x y s t = t

below_by_zero : {A : Type 0} {cells : ℕ} (v : ℤ) (x y : Interaction A) → IsTreeBelow cells x → IsTreeBelow cells y
    → IsTreeBelow cells (if_zero v x y)
below_by_zero (pos zero) x y s t = s
below_by_zero (pos (suc n)) x y s t = t
below_by_zero (negsuc n) x y s t = t

below-fitting : {cells : ℕ} (v : ℤ) → IsTreeBelow cells (fitting v)
below-fitting v = below_if (is_i64 v) _ _ (Returns v) (Raises _)

below-divided : {cells : ℕ} (a b v : ℤ) → IsTreeBelow cells (divided a b v)
below-divided a b v = below_by_zero b _ _ (Raises _) (below-bind (below-fitting (int_div a b)) (λ q. Returns v))

below-operate : {cells : ℕ} (code : ℕ) (a b : ℤ) → IsTreeBelow cells (operate code a b)
below-operate code a b =
    below_if (code == 3) _ _ (Returns _) (below_if (code == 4) _ _ (Returns _) (below_if (code == 5) _ _ (Returns _)
    (below_if (code == 6) _ _ (Returns _) (below_if (code == 7) _ _ (Returns _) (below_if (code == 8) _ _ (Returns _)
    (below_if (code == 9) _ _ (below-fitting (a +ℤ b)) (below_if (code == 10) _ _ (below-fitting (a -ℤ b))
    (below_if (code == 11) _ _ (below-fitting (a *ℤ b)) (below_if (code == 12) _ _ (below-divided a b (int_div a b))
    (below_if (code == 13) _ _ (below-divided a b (int_rem a b)) (Returns _)))))))))))

below-operate_one : {cells : ℕ} (code : ℕ) (a : ℤ) → IsTreeBelow cells (operate_one code a)
below-operate_one code a = below_if (code == 1) _ _ (below-fitting (neg_ℤ a))
    (below_if (code == 2) _ _ (Returns (if_zero a (pos 1) (pos 0))) (Returns _))

-- ---- the cells of a name

-- the range has a cell, and its cells are among the first `cells`
record IsRangeBelow (cells : ℕ) (range : CellRange) : Type 0 where
  some : 1 ≤ range.size
  inside : range.first + range.size ≤ cells

-- there are the input's cursor and the output, and each name has cells among the first `cells`
record HasCells (cells : ℕ) (setting : Setting) : Type 0 where
  two : 2 ≤ cells
  ranges : (x : List ℕ) (range : CellRange) → setting.cells x ≡ Some range → IsRangeBelow cells range

below-named_value : {cells : ℕ} (o : Option ℤ) (range : Option CellRange) → ((r : CellRange) → range ≡ Some r → IsRangeBelow cells r)
    → IsTreeBelow cells (named_value o range)
below-named_value (Some v) range h = Returns v
below-named_value None (Some range) h = let r = h range refl in let s = r.some in let i = r.inside in
    Gets _ (omega (arith, s, i)) (λ v. Returns v)
below-named_value None None h = Raises _

below_in : {B : Type 0} {cells : ℕ} (b : Bool) (c : ℕ) (t : Trap) (f : ℕ → Interaction B) → (b ≡ true → c < cells)
    → ((cell : ℕ) → cell < cells → IsTreeBelow cells (f cell)) → IsTreeBelow cells (bind (if b then Return c else Raise t) f)
below_in true c t f l h = h c (l refl)
below_in false c t f l h = Raises t

-- what follows an element is given a cell of the array
below-element_of : {B : Type 0} {cells : ℕ} (range : Option CellRange) (i : ℤ) (f : ℕ → Interaction B)
    → ((r : CellRange) → range ≡ Some r → IsRangeBelow cells r) → ((cell : ℕ) → cell < cells → IsTreeBelow cells (f cell))
    → IsTreeBelow cells (bind (element_of range i) f)
below-element_of None i f r h = Raises _
below-element_of {B} {cells} (Some range) (pos i) f r h =
    let inside = (r range refl).inside in
    below_in (nat_lt i range.size) (range.first + i) traps.Index f (λ t. let l = ltb-true i range.size t in omega (arith, l, inside)) h
below-element_of (Some range) (negsuc i) f r h = Raises _

below-take_at : {cells : ℕ} (input : List ℤ) (cursor : ℤ) → 2 ≤ cells → IsTreeBelow cells (take_at input cursor)
below-take_at input (pos n) two = below_if (nat_lt n (length input)) _ _ (Sets 0 _ (omega (arith, two)) (Returns _)) (Raises _)
below-take_at input (negsuc n) two = Raises _

below-evaluate : {cells : ℕ} (setting : Setting) (locals : List Local) (e : Expression) → HasCells cells setting
    → IsTreeBelow cells (evaluate setting locals e)
below-evaluate setting locals (Number n) h = Steps (Returns n)
below-evaluate setting locals (Name x) h = Steps (below-named_value (local_value locals x) (setting.cells x) (h.ranges x))
below-evaluate setting locals (Element x i) h =
    below-bind (below-evaluate setting locals i h) (λ v. Steps
    (below-element_of (setting.cells x) v (λ c. Get c Return) (h.ranges x) (λ c l. Gets c l (λ r. Returns r))))
below-evaluate setting locals (And a b) h =
    below-bind (below-evaluate setting locals a h) (λ x. Steps
    (below_by_zero x _ _ (Returns _) (below-bind (below-evaluate setting locals b h) (λ y. Returns _))))
below-evaluate setting locals (Or a b) h =
    below-bind (below-evaluate setting locals a h) (λ x. Steps
    (below_by_zero x _ _ (below-bind (below-evaluate setting locals b h) (λ y. Returns _)) (Returns _)))
below-evaluate setting locals (Binary code a b) h =
    below-bind (below-evaluate setting locals a h) (λ x. below-bind (below-evaluate setting locals b h)
    (λ y. Steps (below-operate code x y)))
below-evaluate setting locals (Unary code a) h = below-bind (below-evaluate setting locals a h) (λ x. Steps (below-operate_one code x))
below-evaluate setting locals More h = let two = h.two in Steps (Gets 0 (omega (arith, two)) (λ v. Returns _))
below-evaluate setting locals Take h = let two = h.two in Steps (Gets 0 (omega (arith, two)) (λ v. below-take_at setting.world.input v two))
below-evaluate setting locals Iter h = Steps (Returns _)

-- ---- statements

below-assign : {cells : ℕ} (env : Environment) (o : Option ℤ) (range : Option CellRange) (x : List ℕ) (v : ℤ)
    → ((r : CellRange) → range ≡ Some r → IsRangeBelow cells r) → IsTreeBelow cells (assign env o range x v)
below-assign env (Some old) range x v h = Returns _
below-assign env None (Some range) x v h = let r = h range refl in let s = r.some in let i = r.inside in
    Sets _ _ (omega (arith, s, i)) (Returns _)
below-assign env None None x v h = Raises _

below-emit : {cells : ℕ} (limit : ℕ) (v : ℤ) → 2 ≤ cells → IsTreeBelow cells (emit limit v)
below-emit limit v two =
    Gets 1 (omega (arith, two)) (λ count. below_if (int_eq count (pos limit)) _ _ (Raises _) (Sets 1 v (omega (arith, two)) (Returns tt)))

below-go_to_stage : {cells : ℕ} (stages : ℕ) (kind : StageKind) (here : StagePosition) (n : ℤ)
    → IsTreeBelow cells (go_to_stage stages kind here n)
below-go_to_stage stages kind here n =
    below_if (int_lt here.number n) _ _ (below_if (nat_lt here.count stages) _ _ (Names _ n (Returns _)) (Raises _)) (Raises _)

below-turns : {cells : ℕ} (turns : ℕ) (test : Environment → Interaction ℤ) (body : Environment → Interaction Environment)
    (env : Environment)
    → ((now : Environment) → IsTreeBelow cells (test now)) → ((now : Environment) → IsTreeBelow cells (body now))
    → IsTreeBelow cells (loop_turns turns test body env)
below-turns zero test body env tests bodies = Raises _
below-turns (suc turns) test body env tests bodies =
    below-bind (tests env) (λ v. Steps (below_by_zero v _ _ (Returns _)
    (below-bind (bodies env) (λ after. below-turns turns test body (leave_block env after) tests bodies))))

mutual
  below-execute : {cells : ℕ} (setting : Setting) (s : Statement) (env : Environment) → HasCells cells setting
      → IsTreeBelow cells (execute setting s env)
  below-execute setting (Let x e) env h = below-bind (below-evaluate setting env.locals e h) (λ v. Steps (Returns _))
  below-execute setting (Assign x e) env h =
      below-bind (below-evaluate setting env.locals e h) (λ v. Steps
      (below-assign env (local_value env.locals x) (setting.cells x) x v (h.ranges x)))
  below-execute setting (AssignElement x i e) env h =
      below-bind (below-evaluate setting env.locals i h) (λ j. below-bind (below-evaluate setting env.locals e h) (λ v. Steps
      (below-element_of (setting.cells x) j (λ cell. Set cell v (Return env)) (h.ranges x) (λ c l. Sets c v l (Returns env)))))
  below-execute setting (Emit e) env h =
      below-bind (below-evaluate setting env.locals e h)
      (λ v. Steps (below-bind (below-emit setting.world.emits v h.two) (λ done. Returns env)))
  below-execute setting (If e a b) env h =
      below-bind (below-evaluate setting env.locals e h) (λ v. Steps (below-bind
      (below_by_zero v _ _ (below-execute_all setting b env h) (below-execute_all setting a env h)) (λ after. Returns _)))
  below-execute setting (While e a) env h =
      below-turns setting.turns (λ now. evaluate setting now.locals e) (execute_all setting a) env
      (λ now. below-evaluate setting now.locals e h) (λ now. below-execute_all setting a now h)
  below-execute setting (syntax.Stage kind e) env h =
      below-bind (below-evaluate setting env.locals e h) (λ n. Steps
      (below-bind (below-go_to_stage setting.world.stages kind env.stage n) (λ stage. Returns _)))
  below-execute setting (NextStage kind) env h =
      Steps (below-bind (below-bind (below-fitting (env.stage.number +ℤ pos 1)) (below-go_to_stage setting.world.stages kind env.stage))
      (λ stage. Returns _))

  below-execute_all : {cells : ℕ} (setting : Setting) (ss : Statements) (env : Environment) → HasCells cells setting
      → IsTreeBelow cells (execute_all setting ss env)
  below-execute_all setting Empty env h = Returns env
  below-execute_all setting (Then s ss) env h = below-bind (below-execute setting s env h) (λ after. below-execute_all setting ss after h)

below-run_iteration : {cells : ℕ} (setting : Setting) (test : Expression) (body : Statements) → HasCells cells setting
    → IsTreeBelow cells (run_iteration setting test body)
below-run_iteration setting test body h =
    below-bind (below-evaluate setting [] test h) (λ v. Steps (below_by_zero v _ _ (Returns _)
    (below_if (int_eq (pos setting.world.iteration) setting.world.iterations) _ _ (Raises _)
    (below-bind (below-execute_all setting body first_environment h) (λ env. Returns _)))))

below-with_budget : {cells : ℕ} {d : Interaction ColumnEnd} (budget left : ℕ) → IsTreeBelow cells d
    → AccessesBelow cells (with_budget budget left d)
below-with_budget budget left (Returns a) = tt
below-with_budget budget left (Raises t) = tt
below-with_budget budget zero (Steps s) = tt
below-with_budget budget (suc left) (Steps s) = below-with_budget budget left s
below-with_budget budget left (Gets c l s) = (l, (λ v. below-with_budget budget left (s v)))
below-with_budget budget left (Sets c v l s) = (l, below-with_budget budget left s)
below-with_budget budget left (Names k n s) = below-with_budget budget budget s

-- ---- declarations

-- each declaration has a cell
abbrev HaveCells : List Declaration → Type 0
HaveCells [] = Unit {0}
HaveCells (d ∷ ds) = (1 ≤ declared_size d.size) × HaveCells ds

-- the mark breaks none of the rules
abbrev BreaksNone : Mark → List CheckingRule → Type 0
BreaksNone mark [] = Unit {0}
BreaksNone mark (rule ∷ rules) = (breaks rule mark.scope mark.occurrence ≡ false) × BreaksNone mark rules

not_first : (b : Bool) (rule : CheckingRule) (rest : Option CheckingRule) → (if b then Some rule else rest) ≡ None
    → (b ≡ false) × (rest ≡ None)
not_first true rule rest h = absurd (cc)
not_first false rule rest h = (refl, h)

breaks_none : (mark : Mark) (rules : List CheckingRule) → first_broken mark rules ≡ None → BreaksNone mark rules
breaks_none mark [] h = tt
breaks_none mark (rule ∷ rules) h =
    let both = not_first (breaks rule mark.scope mark.occurrence) rule (first_broken mark rules) h in
    (both.0, breaks_none mark rules both.1)

from_one : (n : ℕ) → (n == 0) ≡ false → 1 ≤ n
from_one zero h = absurd (let d : true ≡ false = h in cc (d))
from_one (suc n) h = omega arith

-- a declaration without cells breaks the last rule
size_from_one : (before : List Declaration) (d : Declaration)
    → broken_at (mark_at (opening regions.Cells before) (DeclaredCell d.name d.size)) ≡ None
    → 1 ≤ declared_size d.size
size_from_one before d h =
    let none = breaks_none (mark_at (opening regions.Cells before) (DeclaredCell d.name d.size)) rules_in_order h in
    from_one (declared_size d.size) none.1.1.1.1.1.1.1.0

have_cells : (before ds : List Declaration) → AreUnbroken (marks_of_cells before ds) → HaveCells ds
have_cells before [] u = tt
have_cells before (d ∷ ds) u = (size_from_one before d u.0, have_cells (before ++ d ∷ []) ds u.1)

-- the cells of a name are among the declared cells
range_below : (next : ℕ) (ds : List Declaration) (x : List ℕ) (range : CellRange) → HaveCells ds → range_of next ds x ≡ Some range
    → IsRangeBelow (next + cell_total ds) range
range_below next [] x range h e = absurd (cc)
range_below next (d ∷ ds) x range h e = by (bytes_eq d.name x) e (range_below (next + declared_size d.size) ds x range h.1)
  where
    by : (b : Bool) → (if b then Some (record { first = next; size = declared_size d.size }) else range_of
        (next + declared_size d.size) ds x) ≡ Some range
        → (range_of (next + declared_size d.size) ds x ≡ Some range → IsRangeBelow (next + declared_size d.size + cell_total ds) range)
        → IsRangeBelow (next + (declared_size d.size + cell_total ds)) range
    by true e later =
        let is : range ≡ record { first = next; size = declared_size d.size } = cc in
        subst (IsRangeBelow (next + (declared_size d.size + cell_total ds))) (sym is) (record { some = h.0; inside = omega arith })
    by false e later =
        let r = later e in
        let i = r.inside in
        record { some = r.some; inside = omega (arith, i) }

-- the names of a program that breaks no rule have cells of the program
has_cells : (tree : SyntaxTree) (input : List ℤ) (i : ℕ) → BreaksNoRule tree → HasCells (cell_count tree) (setting_of tree input i)
has_cells tree input i a =
    let init = marks_of_statements (opening regions.Init tree.cells) tree.init in
    let test = marks_of_expression (opening regions.Test tree.cells) tree.test in
    let body = marks_of_statements (opening regions.Body tree.cells) tree.body in
    let last = marks_of_statements (opening regions.Last tree.cells) tree.last in
    let all : AreUnbroken (marks_of tree) = unbroken 0 (marks_of tree)
    (rest_is_none (first_limit_out tree.limits) (first_fault 0 (marks_of tree)) a.obeys) in
    let cells = unbroken_left (marks_of_cells [] tree.cells) (init ++ (test ++ (body ++ last))) all in
    record {
      two = omega arith;
      ranges = λ x range e.
          let r = range_below 2 tree.cells x range (have_cells [] tree.cells cells) e in
          let i = r.inside in
          record { some = r.some; inside = omega (arith, i) };
    }

pub programs_access_their_cells : ProgramsAccessTheirCells
programs_access_their_cells tree input a =
    let budget = natural tree.limits.steps in record {
      init = below-with_budget budget budget (below-bind
          (below-execute_all (setting_of tree input 0) tree.init first_environment (has_cells tree input 0 a)) (λ env. Returns _));
      loop = λ i. below-with_budget budget budget (below-run_iteration (setting_of tree input i) tree.test tree.body
          (has_cells tree input i a));
      last = below-with_budget budget budget (below-bind
          (below-execute_all (setting_of tree input 0) tree.last first_environment (has_cells tree input 0 a)) (λ env. Returns _));
    }

-- ---- actions

below_after : (cells : ℕ) (d : Behaviour) (item : Action) → AccessesBelow cells d → AccessesBelow cells (behaviour_after d item)
below_after cells (Reading c go) (Accessed a) h = h.1 a.value
below_after cells (Reading c go) (Staged k n) h = h
below_after cells (Reading c go) (Ended e) h = h
below_after cells (Writing c v d) item h = h.1
below_after cells (Staging k n d) item h = h
below_after cells (Ending e) item h = h

below_after_all : (cells : ℕ) (d : Behaviour) (items : List Action) → AccessesBelow cells d
    → AccessesBelow cells (behaviour_after_all d items)
below_after_all cells d [] h = h
below_after_all cells d (item ∷ items) h = below_after_all cells (behaviour_after d item) items (below_after cells d item h)

-- an access that is offered is to one of the cells
offered_below : (cells : ℕ) (d : Behaviour) (a : CellAccess) → AccessesBelow cells d → Offers d (Accessed a) → IsBelow cells a
offered_below cells (Reading c go) a h o =
    let made : Accessed a ≡ Accessed (read_access c o.0) = o.1 in
    let same : a ≡ read_access c o.0 = cc in
    subst (λ n. n < cells) (sym (ap (λ (x : CellAccess). x.cell.0) same)) h.0
offered_below cells (Writing c v d) a h o =
    let made : Accessed a ≡ Accessed (write_access c v) = o in
    let same : a ≡ write_access c v = cc in
    subst (λ n. n < cells) (sym (ap (λ (x : CellAccess). x.cell.0) same)) h.0
offered_below cells (Staging k n d) a h o = absurd (let is : Accessed a ≡ Staged k n = o in cc)
offered_below cells (Ending e) a h o = absurd (let is : Accessed a ≡ Ended e = o in cc)

pub actions_access_below : ActionsAccessBelow
actions_access_below cells d [] h p = All-nil (IsBelow cells)
actions_access_below cells d (Accessed a ∷ items) h p =
    All-cons (IsBelow cells) a (accesses_in items) (offered_below cells d a h p.0)
    (actions_access_below cells (behaviour_after d (Accessed a)) items (below_after cells d (Accessed a) h) p.1)
actions_access_below cells d (Staged k n ∷ items) h p =
    actions_access_below cells (behaviour_after d (Staged k n)) items (below_after cells d (Staged k n) h) p.1
actions_access_below cells d (Ended e ∷ items) h p =
    actions_access_below cells (behaviour_after d (Ended e)) items (below_after cells d (Ended e) h) p.1

-- the accesses of a behaviour that runs alone
serial_below : (store : InitialStore) (cells : ℕ) (d : Behaviour) (before : List CellAccess) → AccessesBelow cells d
    → All (IsBelow cells) (accesses_in (serial_trace store d before))
serial_below store cells (Reading c go) before h =
    All-cons (IsBelow cells) _ _ h.0 (serial_below store cells (go (value_after store before c)) _ (h.1 (value_after store before c)))
serial_below store cells (Writing c v d) before h = All-cons (IsBelow cells) _ _ h.0 (serial_below store cells d _ h.1)
serial_below store cells (Staging k n d) before h = serial_below store cells d before h
serial_below store cells (Ending e) before h = All-nil (IsBelow cells)

pub init_accesses_its_cells : InitAccessesItsCells
init_accesses_its_cells tree input a =
    serial_below (whole_of tree input).loop.store (cell_count tree) (whole_of tree input).init []
    (programs_access_their_cells tree input a).init

-- ---- runs

allowed_inside : (p : Pipeline) (cells : ℕ) (s : State) (e : Event) → ((i : ℕ) → AccessesBelow cells (p.behaviour i)) → ProgramAllows p s e
    → IsInside cells e
allowed_inside p cells s (Begin i) h a = tt
allowed_inside p cells s (Access i x) h a =
    let trace = trace_in (frame_at s.frames i) in
    offered_below cells (behaviour_after_all (p.behaviour i) trace) x (below_after_all cells (p.behaviour i) trace (h i)) a.0
allowed_inside p cells s (Advance i k n) h a = tt
allowed_inside p cells s (Enter i) h a = tt
allowed_inside p cells s (Finish i e) h a = tt
allowed_inside p cells s Stop h a = tt

pub runs_access_below : RunsAccessBelow
runs_access_below p limit cells events s h EmptyRun = All-nil (IsInside cells)
runs_access_below p limit cells events s h (RunThen {events = before} {s = t} r e allowed) =
    All-push (IsInside cells) before e (runs_access_below p limit cells before t h r) (allowed_inside p cells t e h allowed.program)

pub program_runs_access_their_cells : ProgramRunsAccessTheirCells
program_runs_access_their_cells tree input limit events s a r =
    runs_access_below (pipeline_after_init tree input) limit (cell_count tree) events s (programs_access_their_cells tree input a).loop r
