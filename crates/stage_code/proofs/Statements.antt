-- The code of statements, one statement after the other, and the code of statements with blocks.
use Rattle.std.proofs.Common.{◌≡◌, ◌∙◌, ℕ, ◌+◌, ◌<◌, ◌≤◌, List, [], ◌∷◌, ◌++◌, length, take, drop, get_or, refl, sym, ap, subst, arith}
use Rattle.std.proofs.Common.{Option, length-append, append_assoc, append-nil, length-set}
use Rattle.std.specs.Prelude.{slice_set}
use Rattle.std.proofs.Math.Seq.{take-append_seam}
use Rattle.std.proofs.lemmas.List.{drop_all}
use Rattle.pipe_model.specs.declared.tree.Stmt.{Stmt}
use Rattle.pipe_model.specs.Language.Evaluation.{CellRange}
use Rattle.pipe_model.specs.Language.SyntaxTree.{Expression, Statement, Let, Assign, AssignElement, Emit, If, While, Stage, NextStage}
use Rattle.pipe_model.specs.Language.SyntaxTree.{Statements, Empty, Then, statement_of, statements_of}
use Rattle.pipe_check.proofs.Statements.{statements_from}
use Rattle.stage_code.specs.declared.code_bounds.TheConstants.{LONGEST_CODE}
use Rattle.stage_code.specs.CodeOfTrees.{expression_code, statement_code, statements_code}
use Rattle.stage_code.specs.Fitting.{CodeFits}
use Rattle.stage_code.specs.Slots.{HasSlots, HaveSlots, locals_after, locals_at_end}
use Rattle.stage_code.specs.declared.instr.Instr.{Instr}
use Rattle.stage_code.specs.declared.instr.Instr.TheVariants as instrs

pub statement_fits : (cells : List ℕ → Option CellRange) (scope first_scope : List (List ℕ)) (ss : List Stmt) (i : ℕ) (now old : List Instr)
    (all : Statements) (s : Stmt) → i < length ss → s ≡ get_or ss i s
    → now ++ statements_code cells scope (length now) (statements_of (drop i ss)) ≡ old ++ statements_code cells first_scope
    (length old) all
    → CodeFits old (statements_code cells first_scope (length old) all)
    → CodeFits now (statement_code cells scope (length now) (statement_of s))
statement_fits cells scope first_scope ss i now old all s h e is bounded =
    let code = statement_code cells scope (length now) (statement_of s) in
    let rest = statements_code cells (locals_after scope (statement_of s)) (length now + length code) (statements_of (drop (i + 1) ss)) in
    let from : length (now ++ (code ++ rest)) ≡ length (old ++ statements_code cells first_scope (length old) all) =
    ap (λ t. length (now ++ statements_code cells scope (length now) t)) (sym (statements_from ss i s h e)) ∙ ap length is in
    omega (
      arith,
      from,
      bounded,
      length-append now (code ++ rest),
      length-append code rest,
      length-append old
          (statements_code cells first_scope (length old) all),
    )

pub statement_slots : (scope : List (List ℕ)) (ss : List Stmt) (i : ℕ) (s : Stmt) → i < length ss → s ≡ get_or ss i s
    → HaveSlots scope (statements_of (drop i ss))
    → HasSlots scope (statement_of s)
statement_slots scope ss i s h e slots = (subst (λ t. HaveSlots scope t) (statements_from ss i s h e) slots).0

-- statements append locals to those in scope
record AddsLocals (before after : List (List ℕ)) : Type 0 where
  pub more : List (List ℕ)
  pub is : after ≡ before ++ more

same : (names : List (List ℕ)) → AddsLocals names names
same names = record { more = []; is = sym (append-nil names) }

adds_local : (scope : List (List ℕ)) (s : Statement) → AddsLocals scope (locals_after scope s)
adds_local scope (Let x e) = record { more = x ∷ []; is = refl }
adds_local scope (Assign x e) = same scope
adds_local scope (AssignElement x i e) = same scope
adds_local scope (Emit e) = same scope
adds_local scope (If e a b) = same scope
adds_local scope (While e a) = same scope
adds_local scope (Stage kind e) = same scope
adds_local scope (NextStage kind) = same scope

adds_locals : (scope : List (List ℕ)) (ss : Statements) → AddsLocals scope (locals_at_end scope ss)
adds_locals scope Empty = same scope
adds_locals scope (Then s ss) =
    let one = adds_local scope s in
    let rest = adds_locals (locals_after scope s) ss in
    record { more = one.more ++ rest.more; is = rest.is ∙ ap (λ names. names ++ rest.more) one.is ∙ append_assoc scope one.more rest.more }

pub first_locals : (scope : List (List ℕ)) (ss : Statements) → take (length scope) (locals_at_end scope ss) ≡ scope
first_locals scope ss =
    let all = adds_locals scope ss in
    ap (take (length scope)) all.is ∙ take-append_seam scope all.more

pub block_left : (first_scope scope : List (List ℕ)) (ss : List Stmt) (i : ℕ) (all : Statements) → length ss ≤ i
    → locals_at_end scope (statements_of (drop i ss)) ≡ locals_at_end first_scope all → take (length first_scope) scope ≡ first_scope
block_left first_scope scope ss i all h is =
    ap (take (length first_scope)) (ap (λ l. locals_at_end scope (statements_of l)) (sym (drop_all i ss h)) ∙ is)
    ∙ first_locals first_scope all

-- ---- branches and loops

if_fits : (cells : List ℕ → Option CellRange) (scope : List (List ℕ)) (e : Expression) (a b : Statements) (whole : Statement)
    (base : List Instr)
    (test body other : List Instr) → whole ≡ If e a b
    → CodeFits base (statement_code cells scope (length base) whole) → test ≡ expression_code cells scope (length base) e
    → body ≡ statements_code cells scope (length base + length test + 1) a
    → other ≡ statements_code cells scope (length base + length test + 1 + length body + 1) b
    → length base + length test + 1 + length body + 1 + length other ≤ LONGEST_CODE
if_fits cells scope e a b whole base test body other is bounded e1 e2 e3 =
    let at = length base in
    let test' = expression_code cells scope at e in
    let body' = statements_code cells scope (at + length test' + 1) a in
    let other_at = at + length test' + 1 + length body' + 1 in
    let other' = statements_code cells scope other_at b in
    let all : length (statement_code cells scope at whole) ≡ length (test' ++ instrs.Branch other_at
    ∷ (body' ++ instrs.Jump (other_at + length other') ∷ other')) = ap (λ s. length (statement_code cells scope at s)) is in
    let l1 : length test ≡ length test' = ap length e1 in
    let l2 : length body ≡ length body' = ap length e2 ∙ ap (λ n. length (statements_code cells scope (at + n + 1) a)) l1 in
    let at2 : at + length test + 1 + length body + 1 ≡ other_at = omega (arith, l1, l2) in
    let l3 : length other ≡ length other' = ap length e3 ∙ ap (λ n. length (statements_code cells scope n b)) at2 in
    omega (
      arith,
      bounded,
      all,
      l1,
      l2,
      l3,
      length-append test' (instrs.Branch other_at
          ∷ (body' ++ instrs.Jump (other_at + length other') ∷ other')),
      length-append body' (instrs.Jump (other_at + length other') ∷ other'),
    )

-- how long the code is after each step of an `if`
pub record IfFits (cells : List ℕ → Option CellRange) (scope : List (List ℕ)) (a b : Statements) (at first second : ℕ) : Type 0 where
  pub body : first + length (statements_code cells scope first a) ≤ LONGEST_CODE
  pub second_is : second ≡ first + length (statements_code cells scope first a) + 1
  pub other : second + length (statements_code cells scope second b) ≤ LONGEST_CODE

pub if_parts : (cells : List ℕ → Option CellRange) (scope : List (List ℕ)) (e : Expression) (a b : Statements) (whole : Statement)
    (base c1 c2 : List Instr) (x : Instr) → whole ≡ If e a b
    → CodeFits base (statement_code cells scope (length base) whole) → c1 ≡ base ++ expression_code cells scope (length base) e
    → c2 ≡ c1 ++ x ∷ []
    → IfFits cells scope a b (length base) (length c2) (length c2 + length (statements_code cells scope (length c2) a) + 1)
if_parts cells scope e a b whole base c1 c2 x is bounded e1 e2 =
    let at = length base in
    let test = expression_code cells scope at e in
    let first = at + length test + 1 in
    let body = statements_code cells scope first a in
    let second = first + length body + 1 in
    let other = statements_code cells scope second b in
    let all = if_fits cells scope e a b whole base test body other is bounded refl refl refl in
    let l2 : length c2 ≡ first = omega (arith, ap length e2, length-append c1 (x ∷ []), ap length e1, length-append base test) in
    subst (λ n. IfFits cells scope a b at n (n + length (statements_code cells scope n a) + 1)) (sym l2)
    (record { body = omega (arith, all); second_is = refl; other = all })

pub first_fits : (cells : List ℕ → Option CellRange) (scope : List (List ℕ)) (e : Expression) (a b : Statements) (whole : Statement)
    (base c1 c2 : List Instr) (x : Instr) → whole ≡ If e a b
    → CodeFits base (statement_code cells scope (length base) whole) → c1 ≡ base ++ expression_code cells scope (length base) e
    → c2 ≡ c1 ++ x ∷ []
    → CodeFits c2 (statements_code cells scope (length c2) a)
first_fits cells scope e a b whole base c1 c2 x is bounded e1 e2 = (if_parts cells scope e a b whole base c1 c2 x is bounded e1 e2).body

-- the index after the first block
pub between_fits : (cells : List ℕ → Option CellRange) (scope : List (List ℕ)) (e : Expression) (a b : Statements) (whole : Statement)
    (base c1 c2 c3 c4 : List Instr) (x y : Instr) → whole ≡ If e a b
    → CodeFits base (statement_code cells scope (length base) whole) → c1 ≡ base ++ expression_code cells scope (length base) e
    → c2 ≡ c1 ++ x ∷ []
    → c3 ≡ c2 ++ statements_code cells scope (length c2) a → c4 ≡ c3 ++ y ∷ [] → CodeFits c4 (statements_code cells scope (length c4) b)
between_fits cells scope e a b whole base c1 c2 c3 c4 x y is bounded e1 e2 e3 e4 =
    let body = statements_code cells scope (length c2) a in
    let l4 : length c4 ≡ length c2 + length body + 1 =
    omega (arith, ap length e4, length-append c3 (y ∷ []), ap length e3, length-append c2 body) in
    subst (λ n. n + length (statements_code cells scope n b) ≤ LONGEST_CODE) (sym l4)
    (if_parts cells scope e a b whole base c1 c2 x is bounded e1 e2).other

-- the second block
pub second_fits : (cells : List ℕ → Option CellRange) (scope between : List (List ℕ)) (b : Statements) (c4 : List Instr) (hole : ℕ)
    (i : Instr)
    → between ≡ scope
    → CodeFits c4 (statements_code cells scope (length c4) b) → CodeFits (slice_set c4 hole i)
    (statements_code cells between (length (slice_set c4 hole i)) b)
second_fits cells scope between b c4 hole i left bounded =
    subst (λ (names : List (List ℕ)). CodeFits (slice_set c4 hole i) (statements_code cells names (length (slice_set c4 hole i)) b))
    (sym left)
    (subst (λ n. n + length (statements_code cells scope n b) ≤ LONGEST_CODE) (sym (length-set c4 hole i)) bounded)

pub if_slots : (scope : List (List ℕ)) (e : Expression) (a b : Statements) (whole : Statement) → whole ≡ If e a b → HasSlots scope whole
    → HaveSlots scope a × HaveSlots scope b
if_slots scope e a b whole is slots = subst (λ s. HasSlots scope s) is slots

pub while_slots : (scope : List (List ℕ)) (e : Expression) (a : Statements) (whole : Statement) → whole ≡ While e a → HasSlots scope whole
    → HaveSlots scope a
while_slots scope e a whole is slots = subst (λ s. HasSlots scope s) is slots

-- the body of a loop, and the jump after it
pub body_fits : (cells : List ℕ → Option CellRange) (scope : List (List ℕ)) (e : Expression) (a : Statements) (whole : Statement)
    (base c1 c2 : List Instr) (x : Instr) → whole ≡ While e a
    → CodeFits base (statement_code cells scope (length base) whole) → c1 ≡ base ++ expression_code cells scope (length base) e
    → c2 ≡ c1 ++ x ∷ []
    → length c2 + length (statements_code cells scope (length c2) a) + 1 ≤ LONGEST_CODE
body_fits cells scope e a whole base c1 c2 x is bounded e1 e2 =
    let at = length base in
    let test = expression_code cells scope at e in
    let first = at + length test + 1 in
    let body = statements_code cells scope first a in
    let all : length (statement_code cells scope at whole) ≡ length (test ++ instrs.Branch (first + length body + 1)
    ∷ (body ++ instrs.Jump at ∷ [])) = ap (λ s. length (statement_code cells scope at s)) is in
    let l2 : length c2 ≡ first = omega (arith, ap length e2, length-append c1 (x ∷ []), ap length e1, length-append base test) in
    subst (λ n. n + length (statements_code cells scope n a) + 1 ≤ LONGEST_CODE) (sym l2)
    (omega (
      arith,
      bounded,
      all,
      length-append test (instrs.Branch (first + length body + 1) ∷ (body ++ instrs.Jump at ∷ [])),
      length-append body
          (instrs.Jump at ∷ []),
    ))
