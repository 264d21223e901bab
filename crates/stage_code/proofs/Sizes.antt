-- The code of a program is at most twice as long as the program, and its stack is at most half as high as its longest expression.
use Rattle.std.proofs.Common.{◌≡◌, ◌∙◌, ℕ, suc, ◌+◌, ◌*◌, ◌<◌, ◌≤◌, List, [], ◌∷◌, ◌++◌, length, sum_by, All, Option, ap, arith}
use Rattle.std.proofs.Common.{length-append}
use Rattle.std.proofs.lemmas.List.Sums.{sum_by-append, sum_by-cons}
use Rattle.pipe_model.specs.declared.bounds.TheConstants.{LONGEST_EXPRESSION}
use Rattle.pipe_model.specs.Language.Evaluation.{CellRange}
use Rattle.pipe_model.specs.Language.SpellablePrograms.{node_count, statement_count, statement_counts, expressions_of}
use Rattle.pipe_model.specs.Language.SpellablePrograms.{expressions_of_statement, expressions_of_statements, size_of}
use Rattle.pipe_model.specs.Language.SyntaxTree.{Expression, Number, Name, Element, And, Or, Binary, Unary, More, Take, Iter, Statement}
use Rattle.pipe_model.specs.Language.SyntaxTree.{Let, Assign, AssignElement, Emit, If, While, Stage, NextStage, Statements, Empty, Then}
use Rattle.pipe_model.specs.Language.SyntaxTree.{SyntaxTree}
use Rattle.pipe_check.proofs.FirstFaults.{first_of, others_of}
use Rattle.stage_code.specs.declared.code_bounds.TheConstants.{HIGHEST_STACK}
use Rattle.stage_code.specs.CodeOfTrees.{expression_code, statement_code, statements_code, part_code, iteration_code, element_code}
use Rattle.stage_code.specs.CodeOfTrees.{assign_code, assign_element_code, stage_code}
use Rattle.stage_code.specs.Heights.{greater, height_of, height_of_statement, height_of_statements, greatest_height}
use Rattle.stage_code.specs.Slots.{slot_of, locals_after}
use Rattle.stage_code.specs.declared.instr.Instr.TheVariants as instrs
use Rattle.stage_code.proofs.Lists.{all_front, all_back}

pub expression_short : (cells : List ℕ → Option CellRange) (scope : List (List ℕ)) (at : ℕ) (e : Expression)
    → length (expression_code cells scope at e) ≤ 2 * node_count e
expression_short cells scope at (Number n) = omega arith
expression_short cells scope at (Name x) = omega arith
expression_short cells scope at (Element x i) =
    omega (arith, expression_short cells scope at i, length-append (expression_code cells scope at i) (element_code (cells x) ∷ []))
expression_short cells scope at (And a b) =
    let left = expression_code cells scope at a in
    let right = expression_code cells scope (at + length left + 1) b in
    let i = instrs.AndTest (at + length left + 1 + length right + 1) in
    omega (
      arith,
      expression_short cells scope at a,
      expression_short cells scope (at + length left + 1) b,
      length-append left
          (i ∷ (right ++ instrs.Truth ∷ [])),
      length-append right (instrs.Truth ∷ []),
    )
expression_short cells scope at (Or a b) =
    let left = expression_code cells scope at a in
    let right = expression_code cells scope (at + length left + 1) b in
    let i = instrs.OrTest (at + length left + 1 + length right + 1) in
    omega (
      arith,
      expression_short cells scope at a,
      expression_short cells scope (at + length left + 1) b,
      length-append left
          (i ∷ (right ++ instrs.Truth ∷ [])),
      length-append right (instrs.Truth ∷ []),
    )
expression_short cells scope at (Binary code a b) =
    let left = expression_code cells scope at a in
    let right = expression_code cells scope (at + length left) b in
    omega (
      arith,
      expression_short cells scope at a,
      expression_short cells scope (at + length left) b,
      length-append left
          (right ++ instrs.Binary code ∷ []),
      length-append right (instrs.Binary code ∷ []),
    )
expression_short cells scope at (Unary code a) =
    omega (arith, expression_short cells scope at a, length-append (expression_code cells scope at a) (instrs.Unary code ∷ []))
expression_short cells scope at More = omega arith
expression_short cells scope at Take = omega arith
expression_short cells scope at Iter = omega arith

one_node : (e : Expression) → sum_by node_count (e ∷ []) ≡ node_count e
one_node e = omega (arith, sum_by-cons node_count e [])

-- nodes and statements
abbrev weight_of : Statement → ℕ
weight_of s = sum_by node_count (expressions_of_statement s) + statement_count s

abbrev weight_of_all : Statements → ℕ
weight_of_all ss = sum_by node_count (expressions_of_statements ss) + statement_counts ss

mutual
  pub statement_short : (cells : List ℕ → Option CellRange) (scope : List (List ℕ)) (at : ℕ) (s : Statement)
      → length (statement_code cells scope at s) ≤ 2 * weight_of s
  statement_short cells scope at (Let x e) =
      omega (
        arith,
        one_node e,
        expression_short cells scope at e,
        length-append (expression_code cells scope at e)
            (instrs.SetLocal (length scope) ∷ []),
      )
  statement_short cells scope at (Assign x e) =
      omega (
        arith,
        one_node e,
        expression_short cells scope at e,
        length-append (expression_code cells scope at e)
            (assign_code (slot_of scope x) (cells x) ∷ []),
      )
  statement_short cells scope at (AssignElement x i e) =
      let index = expression_code cells scope at i in
      let value = expression_code cells scope (at + length index) e in
      let nodes : sum_by node_count (i ∷ e ∷ []) ≡ node_count i + node_count e = sum_by-cons node_count i (e ∷ [])
      ∙ ap (λ n. node_count i + n) (one_node e) in
      omega (
        arith,
        nodes,
        expression_short cells scope at i,
        expression_short cells scope (at + length index) e,
        length-append index (value ++ assign_element_code (cells x) ∷ []),
        length-append value (assign_element_code (cells x) ∷ []),
      )
  statement_short cells scope at (Emit e) =
      omega (arith, one_node e, expression_short cells scope at e, length-append (expression_code cells scope at e) (instrs.Emit ∷ []))
  statement_short cells scope at (If e a b) =
      let test = expression_code cells scope at e in
      let body = statements_code cells scope (at + length test + 1) a in
      let other_at = at + length test + 1 + length body + 1 in
      let other = statements_code cells scope other_at b in
      let xs = expressions_of_statements a in
      let ys = expressions_of_statements b in
      omega (
        arith,
        expression_short cells scope at e,
        statements_short cells scope (at + length test + 1) a,
        statements_short cells scope other_at b,
        sum_by-cons node_count e (xs ++ ys),
        sum_by-append node_count xs ys,
        length-append test (instrs.Branch other_at ∷ (body ++ instrs.Jump (other_at + length other) ∷ other)),
        length-append body (instrs.Jump (other_at + length other) ∷ other),
      )
  statement_short cells scope at (While e a) =
      let test = expression_code cells scope at e in
      let body = statements_code cells scope (at + length test + 1) a in
      let i = instrs.Branch (at + length test + 1 + length body + 1) in
      omega (
        arith,
        expression_short cells scope at e,
        statements_short cells scope (at + length test + 1) a,
        sum_by-cons node_count e (expressions_of_statements a),
        length-append test (i ∷ (body ++ instrs.Jump at ∷ [])),
        length-append body (instrs.Jump at ∷ []),
      )
  statement_short cells scope at (Stage kind e) =
      omega (arith, one_node e, expression_short cells scope at e, length-append (expression_code cells scope at e) (stage_code kind ∷ []))
  statement_short cells scope at (NextStage kind) = omega arith

  pub statements_short : (cells : List ℕ → Option CellRange) (scope : List (List ℕ)) (at : ℕ) (ss : Statements)
      → length (statements_code cells scope at ss) ≤ 2 * weight_of_all ss
  statements_short cells scope at Empty = omega arith
  statements_short cells scope at (Then s ss) =
      let first = statement_code cells scope at s in
      let rest = statements_code cells (locals_after scope s) (at + length first) ss in
      omega (
        arith,
        statement_short cells scope at s,
        statements_short cells (locals_after scope s) (at + length first) ss,
        length-append first rest,
        sum_by-append node_count (expressions_of_statement s) (expressions_of_statements ss),
      )

part_short : (cells : List ℕ → Option CellRange) (at : ℕ) (ss : Statements) → length (part_code cells at ss) ≤ 2 * weight_of_all ss + 1
part_short cells at ss = omega (arith, statements_short cells [] at ss, length-append (statements_code cells [] at ss) (instrs.End ∷ []))

iteration_short : (cells : List ℕ → Option CellRange) (at : ℕ) (test : Expression) (body : Statements)
    → length (iteration_code cells at test body) ≤ 2 * (node_count test + weight_of_all body) + 2
iteration_short cells at test body =
    let first = expression_code cells [] at test in
    let rest = statements_code cells [] (at + length first + 1) body in
    omega (
      arith,
      expression_short cells [] at test,
      statements_short cells [] (at + length first + 1) body,
      length-append first
          (instrs.LoopTest ∷ (rest ++ instrs.End ∷ [])),
      length-append rest (instrs.End ∷ []),
    )

-- the lengths of the parts of a program's code
pub record ArePartsShort (tree : SyntaxTree) (init pipe last : ℕ) : Type 0 where
  pub all : init + pipe + last ≤ 2 * size_of tree + 4
  pub some_init : 0 < init
  pub some_pipe : 0 < pipe
  pub some_last : 0 < last

pub parts_short : (tree : SyntaxTree) (cells : List ℕ → Option CellRange) (a b : ℕ)
    → ArePartsShort tree (length (part_code cells 0 tree.init)) (length (iteration_code cells a tree.test tree.body))
    (length (part_code cells b tree.last))
parts_short tree cells a b =
    let is = expressions_of_statements tree.init in
    let bs = expressions_of_statements tree.body in
    let ls = expressions_of_statements tree.last in
    let nodes : sum_by node_count (expressions_of tree) ≡ sum_by node_count is
    + (node_count tree.test + (sum_by node_count bs + sum_by node_count ls)) =
    omega (
      arith,
      sum_by-append node_count is (tree.test ∷ (bs ++ ls)),
      sum_by-cons node_count tree.test
          (bs ++ ls),
      sum_by-append node_count bs ls,
    ) in
    let first = expression_code cells [] a tree.test in
    let rest = statements_code cells [] (a + length first + 1) tree.body in
    record {
      all = omega (arith, nodes, part_short cells 0 tree.init, iteration_short cells a tree.test tree.body, part_short cells b tree.last);
      some_init = omega (arith, length-append (statements_code cells [] 0 tree.init) (instrs.End ∷ []));
      some_pipe = omega (arith, length-append first (instrs.LoopTest ∷ (rest ++ instrs.End ∷ [])));
      some_last = omega (arith, length-append (statements_code cells [] b tree.last) (instrs.End ∷ []));
    }

-- ---- heights

greater_double : (a b n : ℕ) → 2 * a ≤ n → 2 * b ≤ n → 2 * greater a b ≤ n
greater_double a b n p q = grind arith

pub greater_least : (a b n : ℕ) → a ≤ n → b ≤ n → greater a b ≤ n
greater_least a b n p q = grind arith

half_high : (e : Expression) → 2 * height_of e ≤ node_count e + 1
half_high (Number n) = omega arith
half_high (Name x) = omega arith
half_high (Element x i) = omega (arith, half_high i)
half_high (And a b) = greater_double (height_of a) (height_of b) _ (omega (arith, half_high a)) (omega (arith, half_high b))
half_high (Or a b) = greater_double (height_of a) (height_of b) _ (omega (arith, half_high a)) (omega (arith, half_high b))
half_high (Binary code a b) =
    let some : 0 < node_count a = some_nodes a in
    let some_too : 0 < node_count b = some_nodes b in
    greater_double (height_of a) (suc (height_of b)) _ (omega (arith, half_high a, some_too)) (omega (arith, half_high b, some))
  where
    some_nodes : (e : Expression) → 0 < node_count e
    some_nodes (Number n) = omega arith
    some_nodes (Name x) = omega arith
    some_nodes (Element x i) = omega arith
    some_nodes (And a b) = omega arith
    some_nodes (Or a b) = omega arith
    some_nodes (Binary code a b) = omega arith
    some_nodes (Unary code a) = omega arith
    some_nodes More = omega arith
    some_nodes Take = omega arith
    some_nodes Iter = omega arith
half_high (Unary code a) = omega (arith, half_high a)
half_high More = omega arith
half_high Take = omega arith
half_high Iter = omega arith

abbrev IsShort : Expression → Type 0
IsShort e = node_count e ≤ LONGEST_EXPRESSION

low : (e : Expression) → IsShort e → height_of e ≤ 128
low e h = omega (arith, half_high e, h)

mutual
  statement_low : (s : Statement) → All IsShort (expressions_of_statement s) → height_of_statement s ≤ HIGHEST_STACK
  statement_low (Let x e) h = omega (arith, low e (first_of IsShort e [] h))
  statement_low (Assign x e) h = omega (arith, low e (first_of IsShort e [] h))
  statement_low (AssignElement x i e) h =
      greater_least (height_of i) (suc (height_of e)) HIGHEST_STACK (omega (arith, low i (first_of IsShort i (e ∷ []) h)))
      (omega (arith, low e (first_of IsShort e [] (others_of IsShort i (e ∷ []) h))))
  statement_low (Emit e) h = omega (arith, low e (first_of IsShort e [] h))
  statement_low (If e a b) h =
      let xs = expressions_of_statements a in
      let ys = expressions_of_statements b in
      let rest = others_of IsShort e (xs ++ ys) h in
      greater_least (height_of e) (greater (height_of_statements a) (height_of_statements b)) HIGHEST_STACK
      (omega (arith, low e (first_of IsShort e (xs ++ ys) h)))
      (greater_least (height_of_statements a) (height_of_statements b) HIGHEST_STACK (statements_low a (all_front IsShort xs ys rest))
      (statements_low b (all_back IsShort xs ys rest)))
  statement_low (While e a) h =
      let xs = expressions_of_statements a in
      greater_least (height_of e) (height_of_statements a) HIGHEST_STACK (omega (arith, low e (first_of IsShort e xs h)))
      (statements_low a (others_of IsShort e xs h))
  statement_low (Stage kind e) h = omega (arith, low e (first_of IsShort e [] h))
  statement_low (NextStage kind) h = omega arith

  statements_low : (ss : Statements) → All IsShort (expressions_of_statements ss) → height_of_statements ss ≤ HIGHEST_STACK
  statements_low Empty h = omega arith
  statements_low (Then s ss) h =
      let xs = expressions_of_statement s in
      let ys = expressions_of_statements ss in
      greater_least (height_of_statement s) (height_of_statements ss) HIGHEST_STACK (statement_low s (all_front IsShort xs ys h))
      (statements_low ss (all_back IsShort xs ys h))

-- the stack of a program with short expressions
pub program_low : (tree : SyntaxTree) → All (λ e. node_count e ≤ LONGEST_EXPRESSION) (expressions_of tree)
    → greatest_height tree ≤ HIGHEST_STACK
program_low tree h =
    let is = expressions_of_statements tree.init in
    let bs = expressions_of_statements tree.body in
    let ls = expressions_of_statements tree.last in
    let after_it = all_back IsShort is (tree.test ∷ (bs ++ ls)) h in
    let loops = others_of IsShort tree.test (bs ++ ls) after_it in
    greater_least (height_of_statements tree.init) _ HIGHEST_STACK
    (statements_low tree.init (all_front IsShort is (tree.test ∷ (bs ++ ls)) h))
    (greater_least (height_of tree.test) _ HIGHEST_STACK (omega (arith, low tree.test (first_of IsShort tree.test (bs ++ ls) after_it)))
    (greater_least (height_of_statements tree.body) (height_of_statements tree.last) HIGHEST_STACK
    (statements_low tree.body (all_front IsShort bs ls loops)) (statements_low tree.last (all_back IsShort bs ls loops))))
