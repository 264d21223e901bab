-- The code of statements follows them.
use Rattle.std.proofs.Common.{◌≡◌, ℕ, ℤ, pos, negsuc, zero, suc, ◌+◌, ◌<◌, ◌≤◌, List, [], ◌∷◌, ◌++◌, length, Option, Some, None, refl, sym}
use Rattle.std.proofs.Common.{ap, ◌∙◌, subst, arith, append_assoc, length-append, append-nil, length-set, Bool, true, false}
use Rattle.std.specs.Prelude.{slice_set, nat_lt, if◌then◌else◌, take}
use Rattle.std.specs.Ordering.{int_eq}
use Rattle.std.proofs.lemmas.Option.{slice_get_within}
use Rattle.std.proofs.lemmas.List.{take-append-le, take_all}
use Rattle.pipe_model.specs.declared.bounds.TheConstants.{MOST_LOCALS}
use Rattle.pipe_model.specs.declared.tree.StageKind.{StageKind}
use Rattle.pipe_model.specs.declared.tree.StageKind.TheVariants as stage_kinds
use Rattle.pipe_model.specs.declared.column.ColumnEnd.{ColumnEnd}
use Rattle.pipe_model.specs.declared.column.ColumnEnd.TheVariants as ends
use Rattle.stage_code.specs.declared.instr.Instr.TheVariants as instrs
use Rattle.pipe_model.specs.declared.trap.Trap.TheVariants as traps
use Rattle.pipe_model.specs.Language.Interaction.{Interaction, Return, Raise, Step, Set, bind}
use Rattle.pipe_model.specs.Language.Evaluation.{StagePosition, CellRange, Environment, Local, evaluate, local_value, updated_locals}
use Rattle.pipe_model.specs.Language.Evaluation.{declare_local, assign, emit, element_of, element_in, go_to_stage, go_to_next_stage}
use Rattle.pipe_model.specs.Language.Evaluation.{leave_block, loop_turns, execute, execute_all, if_zero, after_test, first_environment}
use Rattle.pipe_model.specs.Language.Evaluation.{run_iteration}
use Rattle.pipe_model.specs.Language.SyntaxTree.{Expression, Statement, Let, Assign, AssignElement, Emit, If, While, Stage, NextStage}
use Rattle.pipe_model.specs.Language.SyntaxTree.{Statements, Empty, Then}
use Rattle.stage_code.specs.CodeOfTrees.{expression_code, assign_code, assign_element_code, stage_code, next_stage_code, statement_code}
use Rattle.stage_code.specs.CodeOfTrees.{statements_code, iteration_code, part_code}
use Rattle.stage_code.specs.Slots.{slot_of, locals_after, locals_at_end}
use Rattle.stage_code.specs.Decoding.{HasAt}
use Rattle.stage_code.proofs.TreesInBounds.{IsKnown, HasCells, StaysInBounds, StatementStaysInBounds, StatementsStayInBounds}
use Rattle.stage_code.specs.Instructions.{write_effect, with_stack, CodeState, Next, Stuck, CodeSetting, goes_to, set_slot, in_stage}
use Rattle.stage_code.specs.Instructions.{after_loop_test, act}
use Rattle.stage_code.specs.Following.{Follows, Sets, GoesOn, Raises, Finishes}
use Rattle.stage_code.proofs.CodeParts.{first_at, rest_at}
use Rattle.stage_code.proofs.Follow.{bind-assoc, FollowsAt, step_over, follow_then, element_follows, at_instr, setting_with, cells_run}
use Rattle.stage_code.proofs.ExpressionRuns.{names_of, Holds, FoundTogether, finds, FollowsWithValue, expression_runs}
use Rattle.stage_code.proofs.LocalValues.{names_with, names_append, length_names, names_take, holds_take, holds_append, holds_with}

abbrev pub state_at : ℕ → List ℤ → List ℤ → Environment → CodeState
state_at at stack slots env = record { place = at; stack = stack; slots = slots; stage = env.stage }

-- the machine between two statements
abbrev pub ready : ℕ → List ℤ → Environment → CodeState
ready at slots env = state_at at [] slots env

-- the slots hold the locals of this scope
pub record HoldsLocals (scope : List (List ℕ)) (env : Environment) (slots : List ℤ) : Type 0 where
  pub holds : Holds env.locals slots
  pub room : MOST_LOCALS ≤ length slots
  pub names : names_of env.locals ≡ scope

-- what runs after the end of a code
abbrev pub FollowsAtEnd : CodeSetting → ℕ → List (List ℕ) → ℕ → (Environment → Interaction ColumnEnd) → Type 0
FollowsAtEnd p n scope q k = (m : ℕ) → m ≤ n → (env : Environment) (slots : List ℤ) → HoldsLocals scope env slots
    → FollowsAt p m (ready q slots env) (k env)

ends_at : (p : CodeSetting) (n : ℕ) (scope : List (List ℕ)) (q r : ℕ) (k : Environment → Interaction ColumnEnd) → q ≡ r
    → FollowsAtEnd p n scope r k → FollowsAtEnd p n scope q k
ends_at p n scope q r k e h = subst (λ x. FollowsAtEnd p n scope x k) (sym e) h

fewer : (p : CodeSetting) (n m : ℕ) (scope : List (List ℕ)) (q : ℕ) (k : Environment → Interaction ColumnEnd) → m ≤ n
    → FollowsAtEnd p n scope q k → FollowsAtEnd p m scope q k
fewer p n m scope q k le h j le' env slots f = h j (omega (arith, le, le')) env slots f

-- an expression, in a scope that is the locals' names
expression_on : (p : CodeSetting) (cells : List ℕ → Option CellRange) (turns : ℕ) (ls : List Local) (scope : List (List ℕ))
    → names_of ls ≡ scope
    → (e : Expression) (n : ℕ) (c : CodeState) (k : ℤ → Interaction ColumnEnd) → Holds ls c.slots
    → StaysInBounds p.bounds cells scope (length c.stack) e → HasAt p.code c.place (expression_code cells scope c.place e)
    → FollowsWithValue p n c (c.place + length (expression_code cells scope c.place e)) k
    → FollowsAt p n c (bind (evaluate (setting_with p cells turns) ls e) k)
expression_on p cells turns ls scope names e n c k holds =
    subst (λ s. StaysInBounds p.bounds cells s (length c.stack) e → HasAt p.code c.place (expression_code cells s c.place e)
    → FollowsWithValue p n c (c.place + length (expression_code cells s c.place e)) k
    → FollowsAt p n c (bind (evaluate (setting_with p cells turns) ls e) k)) names
    (λ good has h. expression_runs p cells turns ls e n c k holds good has h)

sets : (p : CodeSetting) (n : ℕ) (c : CodeState) (j : ℕ) (v : ℤ) (rest : List ℤ) (d : Interaction ColumnEnd) → j < length c.slots
    → FollowsAt p n (record c { place = c.place + 1; stack = rest; slots = slice_set c.slots j v }) d → Follows p n (set_slot c j v rest) d
sets p n c j v rest d within f =
    let t : nat_lt j (length c.slots) ≡ true = grind arith in
    subst (λ b. Follows p n (if b then Return (Next (record c { place = c.place + 1; stack = rest; slots = slice_set c.slots j v }))
    else Return
    Stuck) d) (sym t) (GoesOn _ f)

let_run : (p : CodeSetting) (n at : ℕ) (scope : List (List ℕ)) (env : Environment) (slots : List ℤ) (x : List ℕ) (v : ℤ)
    (k : Environment → Interaction ColumnEnd) → HoldsLocals scope env slots → length scope < MOST_LOCALS
    → FollowsAtEnd p n (scope ++ x ∷ []) (at + 1) k
    → Follows p n (act p (state_at (at) (v ∷ []) slots env) (instrs.SetLocal (length scope))) (Step (k (declare_local env x v)))
let_run p n at scope env slots x v k fits room h =
    let len : length scope ≡ length env.locals = ap length (sym fits.names) ∙ length_names env.locals in
    let big = fits.room in
    step_over p n _ _ (λ l lt. sets p l (state_at (at) (v ∷ []) slots env) (length scope) v [] (k (declare_local env x v))
    (omega (arith, room, big))
    (h l (omega arith) (declare_local env x v) (slice_set slots (length scope) v) (record {
      holds = subst (λ i. Holds (env.locals ++ record { name = x; value = v } ∷ []) (slice_set slots i v)) (sym len)
          (holds_append env.locals slots (record { name = x; value = v }) fits.holds (omega (arith, room, big, len)));
      room = omega (arith, big, length-set slots (length scope) v);
      names = names_append env.locals (record { name = x; value = v }) ∙ ap (λ s. s ++ x ∷ []) fits.names;
    })))

assign_run : (p : CodeSetting) (n at : ℕ) (scope : List (List ℕ)) (env : Environment) (slots : List ℤ) (x : List ℕ) (v : ℤ) (o : Option ℕ)
    (u : Option ℤ) (cell : Option CellRange) (k : Environment → Interaction ColumnEnd) → HoldsLocals scope env slots
    → slot_of (names_of env.locals) x ≡ o → FoundTogether o u slots → IsKnown p.bounds o cell → FollowsAtEnd p n scope (at + 1) k
    → Follows p n (act p (state_at (at) (v ∷ []) slots env) (assign_code o cell)) (Step (bind (assign env u cell x v) k))
assign_run p n at scope env slots x v (Some j) None cell k fits is f known h = elim f [ ]
assign_run p n at scope env slots x v (Some j) (Some old) cell k fits is f known h =
    step_over p n _ _ (λ l lt. sets p l (state_at (at) (v ∷ []) slots env) j v [] _ (slice_get_within slots j old f)
    (h l (omega arith) (record env { locals = updated_locals env.locals x v }) (slice_set slots j v) (record {
      holds = holds_with env.locals slots x v j fits.holds is;
      room = omega (arith, fits.room, length-set slots j v);
      names = names_with env.locals x v ∙ fits.names;
    })))
assign_run p n at scope env slots x v None (Some old) cell k fits is f known h = elim f [ ]
assign_run p n at scope env slots x v None None (Some a) k fits is f known h =
    step_over p n _ _ (λ l lt. cells_run p l (a.first + 1) _ _ known (Sets a.first v (GoesOn _ (h l (omega arith) env slots fits))))
assign_run p n at scope env slots x v None None None k fits is f known h = elim known [ ]

put_run : (p : CodeSetting) (n at : ℕ) (scope : List (List ℕ)) (env : Environment) (slots : List ℤ) (j v : ℤ) (cell : Option CellRange)
    (k : Environment → Interaction ColumnEnd) → HoldsLocals scope env slots → HasCells p.bounds cell → FollowsAtEnd p n scope (at + 1) k
    → Follows p n (act p (state_at (at) (v ∷ j ∷ []) slots env) (assign_element_code cell))
    (Step (bind (bind (element_of cell j) (λ c. Set c v (Return env))) k))
put_run p n at scope env slots j v None k fits is h = elim is [ ]
put_run p n at scope env slots j v (Some a) k fits is h =
    let c = state_at (at) (v ∷ j ∷ []) slots env in
    step_over p n _ _ (λ l lt. subst (λ d. Follows p l (bind (element_in a.first a.size j) (write_effect p (with_stack c []) v)) d)
    (sym (bind-assoc (element_in a.first a.size j) (λ b. Set b v (Return env)) k))
    (element_follows p l a.first a.size j _ _ (λ b within. cells_run p l (b + 1) _ _ (omega (arith, within, is))
    (Sets b v (GoesOn _ (h l (omega arith) env slots fits))))))

-- the effect of a stage statement
stage_effect : (p : CodeSetting) (n : ℕ) (scope : List (List ℕ)) (c : CodeState) (env : Environment) (d : Interaction StagePosition)
    (k : Environment → Interaction ColumnEnd) → HoldsLocals scope env c.slots → FollowsAtEnd p n scope (c.place + 1) k
    → Follows p n (Step (bind d (in_stage c []))) (Step (bind (bind d (λ s. Return (record env { stage = s }))) k))
stage_effect p n scope c env d k fits h =
    step_over p n _ _ (λ l lt. subst (λ t. Follows p l (bind d (in_stage c [])) t)
    (sym (bind-assoc d (λ s. Return (record env { stage = s })) k))
    (follow_then p l d _ _ (λ m le s. GoesOn _ (h m (omega arith) (record env { stage = s }) c.slots
    (record { holds = fits.holds; room = fits.room; names = fits.names })))))

stage_run : (p : CodeSetting) (n at : ℕ) (scope : List (List ℕ)) (env : Environment) (slots : List ℤ) (s : StageKind) (v : ℤ)
    (k : Environment → Interaction ColumnEnd) → HoldsLocals scope env slots → FollowsAtEnd p n scope (at + 1) k
    → Follows p n (act p (state_at (at) (v ∷ []) slots env) (stage_code s))
    (Step (bind (bind (go_to_stage p.world.stages s env.stage v) (λ s. Return (record env { stage = s }))) k))
stage_run p n at scope env slots stage_kinds.Wait v k fits h = stage_effect p n scope (state_at (at) (v ∷ []) slots env) env _ k fits h
stage_run p n at scope env slots stage_kinds.Continue v k fits h = stage_effect p n scope (state_at (at) (v ∷ []) slots env) env _ k fits h

stage_next_run : (p : CodeSetting) (n at : ℕ) (scope : List (List ℕ)) (env : Environment) (slots : List ℤ) (s : StageKind)
    (k : Environment → Interaction ColumnEnd) → HoldsLocals scope env slots → FollowsAtEnd p n scope (at + 1) k
    → Follows p n (act p (ready at slots env) (next_stage_code s)) (Step
    (bind (bind (go_to_next_stage p.world.stages s env.stage) (λ s. Return (record env { stage = s }))) k))
stage_next_run p n at scope env slots stage_kinds.Wait k fits h = stage_effect p n scope (ready at slots env) env _ k fits h
stage_next_run p n at scope env slots stage_kinds.Continue k fits h = stage_effect p n scope (ready at slots env) env _ k fits h

-- what a block adds to a scope
scope_more : (b : Statements) (scope : List (List ℕ)) → (more : List (List ℕ)) × (locals_at_end scope b ≡ scope ++ more)
scope_more Empty scope = ([], sym (append-nil scope))
scope_more (Then (Let x e) rest) scope = let r = scope_more rest (scope ++ x ∷ []) in (x ∷ r.0, r.1 ∙ append_assoc scope (x ∷ []) r.0)
scope_more (Then (Assign x e) rest) scope = scope_more rest scope
scope_more (Then (AssignElement x i e) rest) scope = scope_more rest scope
scope_more (Then (Emit e) rest) scope = scope_more rest scope
scope_more (Then (If e a b) rest) scope = scope_more rest scope
scope_more (Then (While e a) rest) scope = scope_more rest scope
scope_more (Then (Stage k e) rest) scope = scope_more rest scope
scope_more (Then (NextStage k) rest) scope = scope_more rest scope

-- after a block its locals are gone
leaves : (scope : List (List ℕ)) (b : Statements) (env after : Environment) (slots now : List ℤ) → HoldsLocals scope env slots
    → HoldsLocals (locals_at_end scope b) after now → HoldsLocals scope (leave_block env after) now
leaves scope b env after slots now f g =
    let r = scope_more b scope in
    let n : length env.locals ≡ length scope = sym (length_names env.locals) ∙ ap length f.names in
    record {
      holds = holds_take (length env.locals) after.locals now g.holds;
      room = g.room;
      names = names_take (length env.locals) after.locals ∙ ap (take (length env.locals)) (g.names ∙ r.1)
          ∙ ap (λ i. take i (scope ++ r.0)) n
          ∙ take-append-le (length scope) scope r.0 (omega arith) ∙ take_all (length scope) scope (omega arith);
    }

-- the code of a statement, from any index on, does what the statement does
abbrev pub StatementRuns : CodeSetting → (List ℕ → Option CellRange) → ℕ → Statement → Type 0
StatementRuns p cells turns s = (n at : ℕ) (scope : List (List ℕ)) (env : Environment) (slots : List ℤ)
    (k : Environment → Interaction ColumnEnd)
    → n < turns → HoldsLocals scope env slots → StatementStaysInBounds p.bounds cells scope s
    → HasAt p.code at (statement_code cells scope at s)
    → FollowsAtEnd p n (locals_after scope s) (at + length (statement_code cells scope at s)) k
    → FollowsAt p n (ready at slots env) (bind (execute (setting_with p cells turns) s env) k)

abbrev pub StatementsRun : CodeSetting → (List ℕ → Option CellRange) → ℕ → Statements → Type 0
StatementsRun p cells turns b = (n at : ℕ) (scope : List (List ℕ)) (env : Environment) (slots : List ℤ)
    (k : Environment → Interaction ColumnEnd)
    → n < turns → HoldsLocals scope env slots → StatementsStayInBounds p.bounds cells scope b
    → HasAt p.code at (statements_code cells scope at b)
    → FollowsAtEnd p n (locals_at_end scope b) (at + length (statements_code cells scope at b)) k
    → FollowsAt p n (ready at slots env) (bind (execute_all (setting_with p cells turns) b env) k)

branch : (p : CodeSetting) (n : ℕ) (c : CodeState) (q : ℕ) (rest : List ℤ) (v : ℤ) {A : Type 0} (a b : Interaction A)
    (f : A → Interaction ColumnEnd) → FollowsAt p n (record c { place = q; stack = rest }) (bind a f)
    → FollowsAt p n (record c { place = c.place + 1; stack = rest }) (bind b f)
    → Follows p n (if_zero v (goes_to c q rest) (goes_to c (c.place + 1) rest)) (bind (if_zero v a b) f)
branch p n c q rest (pos zero) a b f zero_on else_on = GoesOn _ zero_on
branch p n c q rest (pos (suc v)) a b f zero_on else_on = GoesOn _ else_on
branch p n c q rest (negsuc v) a b f zero_on else_on = GoesOn _ else_on

while_run : (p : CodeSetting) (cells : List ℕ → Option CellRange) (turns : ℕ) (e : Expression) (b : Statements)
    → StatementsRun p cells turns b
    → (t n at : ℕ) (scope : List (List ℕ)) (env : Environment) (slots : List ℤ) (k : Environment → Interaction ColumnEnd) → n < t
    → n < turns
    → HoldsLocals scope env slots → StatementStaysInBounds p.bounds cells scope (While e b)
    → HasAt p.code at (statement_code cells scope at (While e b))
    → FollowsAtEnd p n scope (at + length (statement_code cells scope at (While e b))) k
    → FollowsAt p n (ready at slots env) (bind (loop_turns t (λ v. evaluate (setting_with p cells turns) v.locals e)
    (execute_all (setting_with p cells turns) b) env) k)
while_run p cells turns e b body zero n at scope env slots k lt bounded fits good has h = absurd (omega (arith, lt))
while_run p cells turns e b body (suc t) n at scope env slots k lt bounded fits good has h =
    let ct = expression_code cells scope at e in
    let cb = statements_code cells scope (at + length ct + 1) b in
    let end = at + length ct + 1 + length cb + 1 in
    let len : at + length (ct ++ instrs.Branch end ∷ (cb ++ instrs.Jump at ∷ [])) ≡ end =
    omega (arith, length-append ct (instrs.Branch end ∷ (cb ++ instrs.Jump at ∷ [])), length-append cb (instrs.Jump at ∷ [])) in
    let hb = rest_at p.code at ct _ has in
    let again = λ (after : Environment). loop_turns t (λ v. evaluate (setting_with p cells turns) v.locals e)
    (execute_all (setting_with p cells turns) b) (leave_block env after) in
    let go = bind (execute_all (setting_with p cells turns) b env) again in
    subst (FollowsAt p n (ready at slots env)) (sym (bind-assoc (evaluate (setting_with p cells turns) env.locals e)
    (λ v. Step (if_zero v (Return env) go)) k))
    (expression_on p cells turns env.locals scope fits.names e n (ready at slots env) (λ v. bind (Step (if_zero v (Return env) go)) k)
    fits.holds
    good.0 (first_at p.code at ct _ has) (λ m le v.
    let c = state_at (at + length ct) (v ∷ []) slots env in
    at_instr p m c (instrs.Branch end) _ hb.0
    (step_over p m _ _ (λ l less. branch p l c end [] v (Return env) go k
    (subst (λ q. FollowsAt p l (ready q slots env) (k env)) len (h l (omega arith) env slots fits))
    (subst (FollowsAt p l (ready (at + length ct + 1) slots env))
    (sym (bind-assoc (execute_all (setting_with p cells turns) b env) again k))
    (body l (at + length ct + 1) scope env slots (λ after. bind (again after) k) (omega (arith, bounded)) fits good.1
    (first_at p.code _ cb _ hb.1)
    (λ j le' after now f.
    at_instr p j (ready (at + length ct + 1 + length cb) now after) (instrs.Jump at) _ (rest_at p.code _ cb _ hb.1).0
    (GoesOn _ (while_run p cells turns e b body t j at scope (leave_block env after) now k (omega (arith, lt)) (omega (arith, bounded))
    (leaves scope b env after slots now fits f) good has (λ i le'' x y z. h i (omega arith) x y z))))))))))

mutual
  pub statement_runs : (p : CodeSetting) (cells : List ℕ → Option CellRange) (turns : ℕ) (s : Statement) → StatementRuns p cells turns s
  statement_runs p cells turns (Let x e) n at scope env slots k bounded fits good has h =
      let ce = expression_code cells scope at e in
      let len : at + length ce + 1 ≡ at + length (ce ++ instrs.SetLocal (length scope) ∷ []) =
      omega (arith, length-append ce (instrs.SetLocal (length scope) ∷ [])) in
      subst (FollowsAt p n (ready at slots env)) (sym
      (bind-assoc (evaluate (setting_with p cells turns) env.locals e) (λ v. Step (Return (declare_local env x v))) k))
      (expression_on p cells turns env.locals scope fits.names e n (ready at slots env) (λ v. Step (k (declare_local env x v))) fits.holds
      good.0
      (first_at p.code at ce _ has) (λ m le v.
      at_instr p m (state_at (at + length ce) (v ∷ []) slots env) (instrs.SetLocal (length scope)) _ (rest_at p.code at ce _ has).0
      (let_run p m (at + length ce) scope env slots x v k fits good.1 (fewer p n m _ _ k le (ends_at p n _ _ _ k len h)))))
  statement_runs p cells turns (Assign x e) n at scope env slots k bounded fits good has h =
      let ce = expression_code cells scope at e in
      let i = assign_code (slot_of scope x) (cells x) in
      let len : at + length ce + 1 ≡ at + length (ce ++ i ∷ []) = omega (arith, length-append ce (i ∷ [])) in
      let found = subst (λ s. FoundTogether (slot_of s x) (local_value env.locals x) slots) fits.names
      (finds env.locals slots x fits.holds) in
      subst (FollowsAt p n (ready at slots env)) (sym
      (bind-assoc (evaluate (setting_with p cells turns) env.locals e) (λ v. Step (assign env (local_value env.locals x) (cells x) x v)) k))
      (expression_on p cells turns env.locals scope fits.names e n (ready at slots env)
      (λ v. bind (Step (assign env (local_value env.locals x) (cells x) x v)) k) fits.holds good.0 (first_at p.code at ce _ has) (λ m le v.
      at_instr p m (state_at (at + length ce) (v ∷ []) slots env) i _ (rest_at p.code at ce _ has).0
      (assign_run p m (at + length ce) scope env slots x v (slot_of scope x) (local_value env.locals x) (cells x) k fits
      (ap (λ s. slot_of s x) fits.names) found good.1 (fewer p n m _ _ k le (ends_at p n _ _ _ k len h)))))
  statement_runs p cells turns (AssignElement x i e) n at scope env slots k bounded fits good has h =
      let ci = expression_code cells scope at i in
      let ce = expression_code cells scope (at + length ci) e in
      let o = assign_element_code (cells x) in
      let len : at + length ci + length ce + 1 ≡ at + length (ci ++ (ce ++ o ∷ [])) =
      omega (arith, length-append ci (ce ++ o ∷ []), length-append ce (o ∷ [])) in
      let hb = rest_at p.code at ci _ has in
      let put = λ (j v : ℤ). Step (bind (element_of (cells x) j) (λ c. Set c v (Return env))) in
      subst (FollowsAt p n (ready at slots env)) (sym
      (bind-assoc (evaluate (setting_with p cells turns) env.locals i) (λ j. bind (evaluate (setting_with p cells turns) env.locals e)
      (put j)) k))
      (expression_on p cells turns env.locals scope fits.names i n (ready at slots env)
      (λ j. bind (bind (evaluate (setting_with p cells turns) env.locals e) (put j)) k) fits.holds good.0 (first_at p.code at ci _ has)
      (λ m le j.
      let c = state_at (at + length ci) (j ∷ []) slots env in
      subst (FollowsAt p m c) (sym (bind-assoc (evaluate (setting_with p cells turns) env.locals e) (put j) k))
      (expression_on p cells turns env.locals scope fits.names e m c (λ v. bind (put j v) k) fits.holds good.1 (first_at p.code _ ce _ hb)
      (λ l le' v.
      at_instr p l (state_at (at + length ci + length ce) (v ∷ j ∷ []) slots env) o _ (rest_at p.code _ ce _ hb).0
      (put_run p l (at + length ci + length ce) scope env slots j v (cells x) k fits good.2
      (fewer p n l _ _ k (omega (arith, le, le')) (ends_at p n _ _ _ k len h)))))))
  statement_runs p cells turns (Emit e) n at scope env slots k bounded fits good has h =
      let ce = expression_code cells scope at e in
      let len : at + length ce + 1 ≡ at + length (ce ++ instrs.Emit ∷ []) = omega (arith, length-append ce (instrs.Emit ∷ [])) in
      let f = λ (v : ℤ). Step (bind (emit p.world.emits v) (λ u. Return env)) in
      subst (FollowsAt p n (ready at slots env)) (sym (bind-assoc (evaluate (setting_with p cells turns) env.locals e) f k))
      (expression_on p cells turns env.locals scope fits.names e n (ready at slots env) (λ v. bind (f v) k) fits.holds good.0
      (first_at p.code at ce _ has) (λ m le v.
      let c = state_at (at + length ce) (v ∷ []) slots env in
      at_instr p m c instrs.Emit _ (rest_at p.code at ce _ has).0
      (step_over p m _ _ (λ l lt. cells_run p l 2 _ _ good.1 (subst
      (λ d. Follows p l (bind (emit p.world.emits v) (λ u. goes_to c (at + length ce + 1) [])) d)
      (sym (bind-assoc (emit p.world.emits v) (λ u. Return env) k))
      (follow_then p l (emit p.world.emits v) _ _ (λ j le' u. GoesOn _ (ends_at p n _ _ _ k len h j (omega arith) env slots fits))))))))
  statement_runs p cells turns (If e a b) n at scope env slots k bounded fits good has h =
      let ct = expression_code cells scope at e in
      let ca = statements_code cells scope (at + length ct + 1) a in
      let cb = statements_code cells scope (at + length ct + 1 + length ca + 1) b in
      let other = at + length ct + 1 + length ca + 1 in
      let end = other + length cb in
      let len : at + length (ct ++ instrs.Branch other ∷ (ca ++ instrs.Jump end ∷ cb)) ≡ end =
      omega (arith, length-append ct (instrs.Branch other ∷ (ca ++ instrs.Jump end ∷ cb)), length-append ca (instrs.Jump end ∷ cb)) in
      let hb = rest_at p.code at ct _ has in
      let hj = rest_at p.code _ ca _ hb.1 in
      let da = execute_all (setting_with p cells turns) a env in
      let db = execute_all (setting_with p cells turns) b env in
      let out = λ (after : Environment). Return (leave_block env after) in
      let done = ends_at p n _ _ _ k (sym len) h in
      subst (FollowsAt p n (ready at slots env)) (sym
      (bind-assoc (evaluate (setting_with p cells turns) env.locals e) (λ v. Step (bind (if_zero v db da) out)) k))
      (expression_on p cells turns env.locals scope fits.names e n (ready at slots env) (λ v. bind (Step (bind (if_zero v db da) out)) k)
      fits.holds good.0 (first_at p.code at ct _ has) (λ m le v.
      let c = state_at (at + length ct) (v ∷ []) slots env in
      at_instr p m c (instrs.Branch other) _ hb.0
      (step_over p m _ _ (λ l lt. subst (λ d. Follows p l (if_zero v (goes_to c other []) (goes_to c (at + length ct + 1) [])) d)
      (sym (bind-assoc (if_zero v db da) out k))
      (branch p l c other [] v db da (λ after. k (leave_block env after))
      (statements_run p cells turns b l other scope env slots (λ after. k (leave_block env after)) (omega (arith, bounded)) fits good.2 hj.1
      (λ j le' after now f. done j (omega arith) (leave_block env after) now (leaves scope b env after slots now fits f)))
      (statements_run p cells turns a l (at + length ct + 1) scope env slots (λ after. k (leave_block env after)) (omega (arith, bounded))
      fits good.1 (first_at p.code _ ca _ hb.1) (λ j le' after now f.
      at_instr p j (ready (at + length ct + 1 + length ca) now after) (instrs.Jump end) _ hj.0
      (GoesOn _ (done j (omega arith) (leave_block env after) now (leaves scope a env after slots now fits f))))))))))
  statement_runs p cells turns (While e a) n at scope env slots k bounded fits good has h =
      while_run p cells turns e a (statements_run p cells turns a) turns n at scope env slots k bounded bounded fits good has h
  statement_runs p cells turns (Stage s e) n at scope env slots k bounded fits good has h =
      let ce = expression_code cells scope at e in
      let len : at + length ce + 1 ≡ at + length (ce ++ stage_code s ∷ []) = omega (arith, length-append ce (stage_code s ∷ [])) in
      let f = λ (v : ℤ). Step (bind (go_to_stage p.world.stages s env.stage v) (λ s. Return (record env { stage = s }))) in
      subst (FollowsAt p n (ready at slots env)) (sym (bind-assoc (evaluate (setting_with p cells turns) env.locals e) f k))
      (expression_on p cells turns env.locals scope fits.names e n (ready at slots env) (λ v. bind (f v) k) fits.holds good
      (first_at p.code at ce _ has) (λ m le v.
      at_instr p m (state_at (at + length ce) (v ∷ []) slots env) (stage_code s) _ (rest_at p.code at ce _ has).0
      (stage_run p m (at + length ce) scope env slots s v k fits (fewer p n m _ _ k le (ends_at p n _ _ _ k len h)))))
  statement_runs p cells turns (NextStage s) n at scope env slots k bounded fits good has h =
      at_instr p n (ready at slots env) (next_stage_code s) _ has.0 (stage_next_run p n at scope env slots s k fits h)

  pub statements_run : (p : CodeSetting) (cells : List ℕ → Option CellRange) (turns : ℕ) (b : Statements) → StatementsRun p cells turns b
  statements_run p cells turns Empty n at scope env slots k bounded fits good has h =
      let e : at + 0 ≡ at = omega arith in subst (λ q. FollowsAt p n (ready q slots env) (k env)) e (h n (omega arith) env slots fits)
  statements_run p cells turns (Then s rest) n at scope env slots k bounded fits good has h =
      let cs = statement_code cells scope at s in
      let cr = statements_code cells (locals_after scope s) (at + length cs) rest in
      let len : at + length cs + length cr ≡ at + length (cs ++ cr) = omega (arith, length-append cs cr) in
      subst (FollowsAt p n (ready at slots env)) (sym
      (bind-assoc (execute (setting_with p cells turns) s env) (execute_all (setting_with p cells turns) rest) k))
      (statement_runs p cells turns s n at scope env slots (λ after. bind (execute_all (setting_with p cells turns) rest after) k) bounded
      fits good.0 (first_at p.code at cs _ has) (λ m le after now f.
      statements_run p cells turns rest m (at + length cs) (locals_after scope s) after now k (omega (arith, bounded)) f good.1
      (rest_at p.code at cs _ has) (fewer p n m _ _ k le (ends_at p n _ _ _ k len h))))

loop_test : (p : CodeSetting) (n : ℕ) (c : CodeState) (v : ℤ) (body : Interaction ColumnEnd)
    → FollowsAt p n (record c { place = c.place + 1; stack = [] }) body
    → Follows p n (after_loop_test p.world v (goes_to c (c.place + 1) [])) (after_test p.world v body)
loop_test p n c v body h = at_test v
  where
    on : (b : Bool) → Follows p n (if b then Raise traps.IterLimit else goes_to c (c.place + 1) [])
        (if b then Raise traps.IterLimit else body)
    on true = Raises _
    on false = GoesOn _ h

    at_test : (v : ℤ) → Follows p n (after_loop_test p.world v (goes_to c (c.place + 1) [])) (after_test p.world v body)
    at_test (pos zero) = Finishes _
    at_test (pos (suc j)) = on (int_eq (pos p.world.iteration) p.world.iterations)
    at_test (negsuc j) = on (int_eq (pos p.world.iteration) p.world.iterations)

-- the code of an iteration runs it
pub iteration_runs : (p : CodeSetting) (cells : List ℕ → Option CellRange) (turns : ℕ) (n at : ℕ) (slots : List ℤ) (test : Expression)
    (body : Statements) → n < turns → MOST_LOCALS ≤ length slots → StaysInBounds p.bounds cells [] 0 test
    → StatementsStayInBounds p.bounds cells [] body → HasAt p.code at (iteration_code cells at test body)
    → FollowsAt p n (ready at slots first_environment) (run_iteration (setting_with p cells turns) test body)
iteration_runs p cells turns n at slots test body bounded room_is good_test good has =
    let ct = expression_code cells [] at test in
    let cb = statements_code cells [] (at + length ct + 1) body in
    let hb = rest_at p.code at ct _ has in
    let rest = bind (execute_all (setting_with p cells turns) body first_environment) (λ env. Return ends.End) in
    expression_on p cells turns [] [] refl test n (ready at slots first_environment) (λ v. Step (after_test p.world v rest)) tt good_test
    (first_at p.code at ct _ has) (λ m le v.
    at_instr p m (state_at (at + length ct) (v ∷ []) slots first_environment) instrs.LoopTest _ hb.0
    (step_over p m _ _ (λ l lt. loop_test p l (state_at (at + length ct) (v ∷ []) slots first_environment) v rest
    (statements_run p cells turns body l (at + length ct + 1) [] first_environment slots (λ env. Return ends.End) (omega (arith, bounded))
    (record { holds = tt; room = room_is; names = refl }) good (first_at p.code _ cb _ hb.1) (λ j le' env now f.
    at_instr p j (ready (at + length ct + 1 + length cb) now env) instrs.End _ (rest_at p.code _ cb _ hb.1).0 (Finishes _))))))

-- the code of a part without a loop runs it
pub part_runs : (p : CodeSetting) (cells : List ℕ → Option CellRange) (turns : ℕ) (n at : ℕ) (slots : List ℤ) (body : Statements)
    → n < turns
    → MOST_LOCALS ≤ length slots → StatementsStayInBounds p.bounds cells [] body → HasAt p.code at (part_code cells at body)
    → FollowsAt p n (ready at slots first_environment) (bind (execute_all (setting_with p cells turns) body first_environment)
    (λ env. Return ends.End))
part_runs p cells turns n at slots body bounded room_is good has =
    let cb = statements_code cells [] at body in
    statements_run p cells turns body n at [] first_environment slots (λ env. Return ends.End) bounded
    (record { holds = tt; room = room_is; names = refl }) good (first_at p.code at cb _ has) (λ j le' env now f.
    at_instr p j (ready (at + length cb) now env) instrs.End _ (rest_at p.code at cb _ has).0 (Finishes _))
