-- Evaluation: what expressions, statements and iterations do, as interaction trees, from which costs and effects can be read case by case
-- (interaction trees: Xia et al., "Interaction Trees", POPL 2020).
use Rattle.std.specs.Prelude.{ℕ, zero, suc, ℤ, pos, negsuc, ◌+ℤ◌, int_lt, int_div, int_rem, List, [], ◌∷◌, ◌++◌, Option, Some, None, Bool}
use Rattle.std.specs.Prelude.{not, if◌then◌else◌, ◌==◌, ◌+◌, ◌^◌, nat_lt, length, take, slice_index_or}
use Rattle.pipe_model.specs.declared.operator_codes.TheConstants as operator_codes
use Rattle.std.proofs.Math.IntN.{◌-ℤ◌, ◌*ℤ◌, neg_ℤ}
use Rattle.std.specs.Ordering.{int_eq}
use Rattle.std.specs.Str.{bytes_eq}
use Rattle.pipe_model.specs.declared.column.ColumnEnd.{ColumnEnd}
use Rattle.pipe_model.specs.declared.column.ColumnEnd.TheVariants as ends
use Rattle.pipe_model.specs.declared.trap.Trap.TheVariants as traps
use Rattle.pipe_model.specs.declared.tree.StageKind.{StageKind}
use Rattle.pipe_model.specs.Language.Interaction.{Interaction, Return, Raise, Step, Get, Set, bind}
use Rattle.pipe_model.specs.Language.Interaction as interactions
use Rattle.pipe_model.specs.Language.SyntaxTree.{Expression, Number, Name, Element, And, Or, Binary, Unary, More, Take, Iter, Statement}
use Rattle.pipe_model.specs.Language.SyntaxTree.{Let, Assign, AssignElement, Emit, If, While, Stage, NextStage, Statements, Empty, Then}
use Rattle.pipe_model.specs.Language.SyntaxTree.{kind_of_stage}

-- a local and its value
pub record Local : Type 0 where
  pub name : List ℕ
  pub value : ℤ

-- the first cell of a declared name, and the number of its cells
pub record CellRange : Type 0 where
  pub first : ℕ
  pub size : ℕ

-- the input, the iteration's number, and the limits on iterations, stage instances and emitted numbers
pub record World : Type 0 where
  pub input : List ℤ
  pub iteration : ℕ
  pub iterations : ℤ
  pub stages : ℕ
  pub emits : ℕ

-- what a part of a program runs with: the declared names, a bound on the turns of one loop, and the world
pub record Setting : Type 0 where
  pub cells : List ℕ → Option CellRange
  pub turns : ℕ
  pub world : World

-- the current stage's number, and how many instances the iteration has had
pub record StagePosition : Type 0 where
  pub number : ℤ
  pub count : ℕ

-- the state that a statement reads and changes: the locals in scope, and the stage
pub record Environment : Type 0 where
  pub locals : List Local
  pub stage : StagePosition

-- ---- values

-- the number is an `i64`
abbrev pub is_i64 : ℤ → Bool
is_i64 (pos n) = nat_lt n (2 ^ 63)
is_i64 (negsuc n) = nat_lt n (2 ^ 63)

-- 1 for true and 0 for false
abbrev pub truth : Bool → ℤ
truth b = if b then pos 1 else pos 0

-- the first if the number is 0, and else the second
abbrev pub if_zero : {A : Type 0} → ℤ → A → A → A
if_zero (pos zero) a b = a
if_zero (pos (suc n)) a b = b
if_zero (negsuc n) a b = b

-- 0 for 0, and else 1
abbrev pub truth_of : ℤ → ℤ
truth_of v = if_zero v (pos 0) (pos 1)

-- the number if it is an `i64`, and else the trap Overflow
abbrev pub fitting : ℤ → Interaction ℤ
fitting v = if is_i64 v then Return v else Raise traps.Overflow

-- the last argument, which is the quotient or the remainder, if the divisor is not 0 and the quotient is an `i64`
abbrev pub divided : ℤ → ℤ → ℤ → Interaction ℤ
divided a b v = if_zero b (Raise traps.DivZero) (bind (fitting (int_div a b)) (λ quotient. Return v))

-- a binary operator other than `&&` and `||`, by its code. A program that a source spells has no other codes
-- (`has_known_operators`), and for those the value is 0.
abbrev pub operate : ℕ → ℤ → ℤ → Interaction ℤ
operate code a b =
    if code == operator_codes.EQUAL then Return (truth (int_eq a b))
    else (if code == operator_codes.UNEQUAL then Return (truth (not (int_eq a b)))
    else (if code == operator_codes.LESS then Return (truth (int_lt a b))
    else (if code == operator_codes.AT_MOST then Return (truth (not (int_lt b a)))
    else (if code == operator_codes.GREATER then Return (truth (int_lt b a))
    else (if code == operator_codes.AT_LEAST then Return (truth (not (int_lt a b)))
    else (if code == operator_codes.PLUS then fitting (a +ℤ b)
    else (if code == operator_codes.MINUS then fitting (a -ℤ b)
    else (if code == operator_codes.TIMES then fitting (a *ℤ b)
    else (if code == operator_codes.QUOTIENT then divided a b (int_div a b)
    else (if code == operator_codes.REMAINDER then divided a b (int_rem a b)
    else Return (pos 0)))))))))))

-- a unary operator, by its code. A program that a source spells has no other codes, and for those the value is 0.
abbrev pub operate_one : ℕ → ℤ → Interaction ℤ
operate_one code a =
    if code == operator_codes.NEGATIVE then fitting (neg_ℤ a)
    else (if code == operator_codes.NOT then Return (if_zero a (pos 1) (pos 0))
    else Return (pos 0))

-- ---- cells and locals

-- the value of the local of this name
abbrev pub local_value : List Local → List ℕ → Option ℤ
local_value [] x = None
local_value (l ∷ ls) x = if bytes_eq l.name x then Some l.value else local_value ls x

-- the locals, with a new value for the one of this name
abbrev pub updated_locals : List Local → List ℕ → ℤ → List Local
updated_locals [] x v = []
updated_locals (l ∷ ls) x v = if bytes_eq l.name x then record l { value = v } ∷ ls else l ∷ updated_locals ls x v

-- the cell at an index, which must be inside the range
abbrev pub element_in : ℕ → ℕ → ℤ → Interaction ℕ
element_in first size (pos i) = if nat_lt i size then Return (first + i) else Raise traps.Index
element_in first size (negsuc i) = Raise traps.Index

-- the cell at an index of a declared array
abbrev pub element_of : Option CellRange → ℤ → Interaction ℕ
element_of None i = Raise traps.Index
element_of (Some range) i = element_in range.first range.size i

-- the value of a name: reading a local is no access, and reading a cell is one
abbrev pub named_value : Option ℤ → Option CellRange → Interaction ℤ
named_value (Some v) range = Return v
named_value None (Some range) = Get range.first Return
named_value None None = Raise traps.Index

-- the input number at the cursor, which then moves by one
abbrev pub take_at : List ℤ → ℤ → Interaction ℤ
take_at input (pos n) = if nat_lt n (length input) then Set 0 (pos (n + 1)) (Return (slice_index_or input n (pos 0))) else Raise
    traps.InputEnd
take_at input (negsuc n) = Raise traps.InputEnd

-- ---- expressions: each node that is evaluated takes one step, after its operands and before its own effect
abbrev pub evaluate : Setting → List Local → Expression → Interaction ℤ
evaluate setting locals (Number n) = Step (Return n)
evaluate setting locals (Name x) = Step (named_value (local_value locals x) (setting.cells x))
evaluate setting locals (Element x i) = bind (evaluate setting locals i)
    (λ v. Step (bind (element_of (setting.cells x) v) (λ cell. Get cell Return)))
evaluate setting locals (And a b) = bind (evaluate setting locals a) (λ x. Step
    (if_zero x (Return (pos 0)) (bind (evaluate setting locals b) (λ y. Return (truth_of y)))))
evaluate setting locals (Or a b) = bind (evaluate setting locals a) (λ x. Step
    (if_zero x (bind (evaluate setting locals b) (λ y. Return (truth_of y))) (Return (pos 1))))
evaluate setting locals (Binary code a b) = bind (evaluate setting locals a)
    (λ x. bind (evaluate setting locals b) (λ y. Step (operate code x y)))
evaluate setting locals (Unary code a) = bind (evaluate setting locals a) (λ x. Step (operate_one code x))
evaluate setting locals More = Step (Get 0 (λ cursor. Return (truth (int_lt cursor (pos (length setting.world.input))))))
evaluate setting locals Take = Step (Get 0 (take_at setting.world.input))
evaluate setting locals Iter = Step (Return (pos setting.world.iteration))

-- ---- effects of statements

-- adds a local
abbrev pub declare_local : Environment → List ℕ → ℤ → Environment
declare_local env x v = record env { locals = env.locals ++ record { name = x; value = v } ∷ [] }

-- sets the local of this name, if there is one, and else writes to the cell
abbrev pub assign : Environment → Option ℤ → Option CellRange → List ℕ → ℤ → Interaction Environment
assign env (Some old) range x v = Return (record env { locals = updated_locals env.locals x v })
assign env None (Some range) x v = Set range.first v (Return env)
assign env None None x v = Raise traps.Index

-- reads the cell of the output, and writes to it unless it has as many numbers as the limit allows
abbrev pub emit : ℕ → ℤ → Interaction (Unit {0})
emit limit v = Get 1 (λ count. if int_eq count (pos limit) then Raise traps.OutputLimit else Set 1 v (Return tt))

-- ends the instance and names the next stage, whose number must be greater than the current one; there must be room for one more instance
abbrev pub go_to_stage : ℕ → StageKind → StagePosition → ℤ → Interaction StagePosition
go_to_stage stages kind here n =
    if int_lt here.number n
    then (if nat_lt here.count stages then interactions.Stage (kind_of_stage kind) n
    (Return (record { number = n; count = here.count + 1 }))
    else Raise traps.StageLimit)
    else Raise traps.StageOrder

-- a missing stage number is the current one plus 1
abbrev pub go_to_next_stage : ℕ → StageKind → StagePosition → Interaction StagePosition
go_to_next_stage stages kind here = bind (fitting (here.number +ℤ pos 1)) (go_to_stage stages kind here)

-- the locals of a block go out of scope at its end
abbrev pub leave_block : Environment → Environment → Environment
leave_block before after = record after { locals = take (length before.locals) after.locals }

-- a loop of at most this many turns; the budget of steps allows fewer
abbrev pub loop_turns : ℕ → (Environment → Interaction ℤ) → (Environment → Interaction Environment) → Environment → Interaction Environment
loop_turns zero test body env = Raise traps.Budget
loop_turns (suc n) test body env =
    bind (test env) (λ v. Step (if_zero v (Return env) (bind (body env) (λ after. loop_turns n test body (leave_block env after)))))

-- ---- statements: each takes one step, after its expressions and before its own effect
abbrev mutual
  pub execute : Setting → Statement → Environment → Interaction Environment
  execute setting (Let x e) env = bind (evaluate setting env.locals e) (λ v. Step (Return (declare_local env x v)))
  execute setting (Assign x e) env = bind (evaluate setting env.locals e)
      (λ v. Step (assign env (local_value env.locals x) (setting.cells x) x v))
  execute setting (AssignElement x i e) env =
      bind (evaluate setting env.locals i) (λ j. bind (evaluate setting env.locals e)
      (λ v. Step (bind (element_of (setting.cells x) j) (λ cell. Set cell v (Return env)))))
  execute setting (Emit e) env = bind (evaluate setting env.locals e) (λ v. Step (bind (emit setting.world.emits v) (λ done. Return env)))
  execute setting (If e a b) env =
      bind (evaluate setting env.locals e) (λ v. Step (bind (if_zero v (execute_all setting b env) (execute_all setting a env))
      (λ after. Return (leave_block env after))))
  execute setting (While e a) env = loop_turns setting.turns (λ now. evaluate setting now.locals e) (execute_all setting a) env
  execute setting (Stage kind e) env =
      bind (evaluate setting env.locals e) (λ n. Step (bind (go_to_stage setting.world.stages kind env.stage n)
      (λ stage. Return (record env { stage = stage }))))
  execute setting (NextStage kind) env = Step (bind (go_to_next_stage setting.world.stages kind env.stage)
      (λ stage. Return (record env { stage = stage })))

  -- statements one after the other
  pub execute_all : Setting → Statements → Environment → Interaction Environment
  execute_all setting Empty env = Return env
  execute_all setting (Then s ss) env = bind (execute setting s env) (execute_all setting ss)

-- ---- iterations

-- at the beginning of a body: no locals, stage 0, one instance
abbrev pub first_environment : Environment
first_environment = record { locals = []; stage = record { number = pos 0; count = 1 } }

-- what follows a test of the loop with this value: 0 closes the loop; otherwise the body runs, unless the limit on iterations is reached
abbrev pub after_test : World → ℤ → Interaction ColumnEnd → Interaction ColumnEnd
after_test world v body = if_zero v (Return ends.Closed)
    (if int_eq (pos world.iteration) world.iterations then Raise traps.IterLimit else body)

-- an iteration: the loop's test, which takes a step after its expression, and the body
abbrev pub run_iteration : Setting → Expression → Statements → Interaction ColumnEnd
run_iteration setting test body =
    bind (evaluate setting [] test) (λ v. Step (after_test setting.world v
    (bind (execute_all setting body first_environment) (λ env. Return ends.End))))
