-- In a program's code a jump backward leads to the test of a loop, which takes steps.
use Rattle.std.proofs.Common.{◌≡◌, ◌∙◌, ℕ, zero, suc, ◌+◌, ◌≤◌, true, List, [], ◌∷◌, ◌++◌, length, Option, Some, None, refl, sym, ap, subst}
use Rattle.std.proofs.Common.{arith}
use Rattle.std.specs.Prelude.{slice_get}
use Rattle.pipe_model.specs.declared.tree.StageKind.{StageKind}
use Rattle.pipe_model.specs.declared.tree.StageKind.TheVariants as stage_kinds
use Rattle.pipe_model.specs.Language.Evaluation.{CellRange}
use Rattle.pipe_model.specs.Language.Programs.{range_of}
use Rattle.pipe_model.specs.Language.SyntaxTree.{Expression, Number, Name, Element, And, Or, Binary, Unary, More, Take, Iter, Statement}
use Rattle.pipe_model.specs.Language.SyntaxTree.{Let, Assign, AssignElement, Emit, If, While, Stage, NextStage, Statements, Empty, Then}
use Rattle.pipe_model.specs.Language.SyntaxTree.{SyntaxTree}
use Rattle.stage_code.specs.CodeOfTrees.{name_code, element_code, expression_code, assign_code, assign_element_code, stage_code}
use Rattle.stage_code.specs.CodeOfTrees.{next_stage_code, statement_code, statements_code, part_code, iteration_code, flat_code}
use Rattle.stage_code.specs.Instructions.{takes_step}
use Rattle.stage_code.specs.Jumps.{steps_at, JumpsBackToSteps}
use Rattle.stage_code.specs.Slots.{slot_of, locals_after}
use Rattle.stage_code.specs.declared.instr.Instr.{Instr}
use Rattle.stage_code.specs.declared.instr.Instr.TheVariants as instrs
use Rattle.stage_code.proofs.CodeParts.{first_at, rest_at, has_all}
use Rattle.stage_code.specs.Decoding.{HasAt}

-- an instruction at an index is no jump backward, or leads to a step
abbrev LeadsOn : List Instr → ℕ → Instr → Type 0
LeadsOn code at (instrs.Jump to) = to ≤ at → steps_at (slice_get code to) ≡ true
LeadsOn code at i = Unit {0}

abbrev LeadOn : List Instr → ℕ → List Instr → Type 0
LeadOn code at [] = Unit {0}
LeadOn code at (i ∷ is) = LeadsOn code at i × LeadOn code (at + 1) is

lead_then : (code : List Instr) (at : ℕ) (a b : List Instr) → LeadOn code at a → LeadOn code (at + length a) b → LeadOn code at (a ++ b)
lead_then code at [] b p q = let e : at + 0 ≡ at = omega arith in subst (λ n. LeadOn code n b) e q
lead_then code at (i ∷ a) b p q =
    let e : at + length (i ∷ a) ≡ at + 1 + length a = omega arith in
    (p.0, lead_then code (at + 1) a b p.1 (subst (λ n. LeadOn code n b) e q))

name_leads : (code : List Instr) (at : ℕ) (slot : Option ℕ) (range : Option CellRange) → LeadsOn code at (name_code slot range)
name_leads code at (Some slot) range = tt
name_leads code at None (Some range) = tt
name_leads code at None None = tt

element_leads : (code : List Instr) (at : ℕ) (range : Option CellRange) → LeadsOn code at (element_code range)
element_leads code at (Some range) = tt
element_leads code at None = tt

assign_leads : (code : List Instr) (at : ℕ) (slot : Option ℕ) (range : Option CellRange) → LeadsOn code at (assign_code slot range)
assign_leads code at (Some slot) range = tt
assign_leads code at None (Some range) = tt
assign_leads code at None None = tt

assign_element_leads : (code : List Instr) (at : ℕ) (range : Option CellRange) → LeadsOn code at (assign_element_code range)
assign_element_leads code at (Some range) = tt
assign_element_leads code at None = tt

stage_leads : (code : List Instr) (at : ℕ) (kind : StageKind) → LeadsOn code at (stage_code kind)
stage_leads code at stage_kinds.Wait = tt
stage_leads code at stage_kinds.Continue = tt

next_stage_leads : (code : List Instr) (at : ℕ) (kind : StageKind) → LeadsOn code at (next_stage_code kind)
next_stage_leads code at stage_kinds.Wait = tt
next_stage_leads code at stage_kinds.Continue = tt

-- an expression has no jump that takes no step
expression_leads : (code : List Instr) (cells : List ℕ → Option CellRange) (scope : List (List ℕ)) (e : Expression) (at n : ℕ)
    → LeadOn code at (expression_code cells scope n e)
expression_leads code cells scope (Number v) at n = (tt, tt)
expression_leads code cells scope (Name x) at n = (name_leads code at (slot_of scope x) (cells x), tt)
expression_leads code cells scope (Element x i) at n = lead_then code at _ _ (expression_leads code cells scope i at n)
    (element_leads code _ (cells x), tt)
expression_leads code cells scope (And a b) at n = lead_then code at _ _ (expression_leads code cells scope a at n)
    (tt, lead_then code _ _ _ (expression_leads code cells scope b _ _) (tt, tt))
expression_leads code cells scope (Or a b) at n = lead_then code at _ _ (expression_leads code cells scope a at n)
    (tt, lead_then code _ _ _ (expression_leads code cells scope b _ _) (tt, tt))
expression_leads code cells scope (Binary op a b) at n =
    lead_then code at _ _ (expression_leads code cells scope a at n)
    (lead_then code _ _ _ (expression_leads code cells scope b _ _) (tt, tt))
expression_leads code cells scope (Unary op a) at n = lead_then code at _ _ (expression_leads code cells scope a at n) (tt, tt)
expression_leads code cells scope More at n = (tt, tt)
expression_leads code cells scope Take at n = (tt, tt)
expression_leads code cells scope Iter at n = (tt, tt)

-- the code of an expression begins with an instruction that takes a step
name_steps : (slot : Option ℕ) (range : Option CellRange) → takes_step (name_code slot range) ≡ true
name_steps (Some slot) range = refl
name_steps None (Some range) = refl
name_steps None None = refl

expression_begins : (code : List Instr) (at : ℕ) (cells : List ℕ → Option CellRange) (scope : List (List ℕ)) (n : ℕ) (e : Expression)
    → HasAt code at (expression_code cells scope n e)
    → steps_at (slice_get code at) ≡ true
expression_begins code at cells scope n (Number v) h = ap steps_at h.0
expression_begins code at cells scope n (Name x) h = ap steps_at h.0 ∙ name_steps (slot_of scope x) (cells x)
expression_begins code at cells scope n (Element x i) h = expression_begins code at cells scope n i (first_at code at _ _ h)
expression_begins code at cells scope n (And a b) h = expression_begins code at cells scope n a (first_at code at _ _ h)
expression_begins code at cells scope n (Or a b) h = expression_begins code at cells scope n a (first_at code at _ _ h)
expression_begins code at cells scope n (Binary op a b) h = expression_begins code at cells scope n a (first_at code at _ _ h)
expression_begins code at cells scope n (Unary op a) h = expression_begins code at cells scope n a (first_at code at _ _ h)
expression_begins code at cells scope n More h = ap steps_at h.0
expression_begins code at cells scope n Take h = ap steps_at h.0
expression_begins code at cells scope n Iter h = ap steps_at h.0

mutual
  statement_leads : (code : List Instr) (cells : List ℕ → Option CellRange) (scope : List (List ℕ)) (at : ℕ) (s : Statement)
      → HasAt code at (statement_code cells scope at s)
      → LeadOn code at (statement_code cells scope at s)
  statement_leads code cells scope at (Let x e) h = lead_then code at _ _ (expression_leads code cells scope e at at) (tt, tt)
  statement_leads code cells scope at (Assign x e) h =
      lead_then code at _ _ (expression_leads code cells scope e at at) (assign_leads code _ (slot_of scope x) (cells x), tt)
  statement_leads code cells scope at (AssignElement x i e) h =
      lead_then code at _ _ (expression_leads code cells scope i at at) (lead_then code _ _ _ (expression_leads code cells scope e _ _)
      (assign_element_leads code _ (cells x), tt))
  statement_leads code cells scope at (Emit e) h = lead_then code at _ _ (expression_leads code cells scope e at at) (tt, tt)
  statement_leads code cells scope at (If e a b) h =
      let test = expression_code cells scope at e in
      let body = statements_code cells scope (at + length test + 1) a in
      let other_at = at + length test + 1 + length body + 1 in
      let after_it = rest_at code at test _ h in
      let other = rest_at code (at + length test + 1) body _ after_it.1 in
      lead_then code at _ _ (expression_leads code cells scope e at at) (
        tt,
        lead_then code (at + length test + 1) _ _ (statements_leads code cells scope (at + length test + 1) a
            (first_at code _ body _ after_it.1))
            ((λ back. absurd (omega (arith, back))), statements_leads code cells scope other_at b other.1),
      )
  statement_leads code cells scope at (While e a) h =
      let test = expression_code cells scope at e in
      let body = statements_code cells scope (at + length test + 1) a in
      let after_it = rest_at code at test _ h in
      lead_then code at _ _ (expression_leads code cells scope e at at) (
        tt,
        lead_then code (at + length test + 1) _ _ (statements_leads code cells scope (at + length test + 1) a
            (first_at code _ body _ after_it.1))
            ((λ back. expression_begins code at cells scope at e (first_at code at test _ h)), tt),
      )
  statement_leads code cells scope at (Stage kind e) h = lead_then code at _ _ (expression_leads code cells scope e at at)
      (stage_leads code _ kind, tt)
  statement_leads code cells scope at (NextStage kind) h = (next_stage_leads code at kind, tt)

  statements_leads : (code : List Instr) (cells : List ℕ → Option CellRange) (scope : List (List ℕ)) (at : ℕ) (ss : Statements)
      → HasAt code at (statements_code cells scope at ss)
      → LeadOn code at (statements_code cells scope at ss)
  statements_leads code cells scope at Empty h = tt
  statements_leads code cells scope at (Then s ss) h =
      let first = statement_code cells scope at s in
      lead_then code at _ _ (statement_leads code cells scope at s (first_at code at first _ h))
      (statements_leads code cells (locals_after scope s) (at + length first) ss (rest_at code at first _ h))

part_leads : (code : List Instr) (cells : List ℕ → Option CellRange) (at : ℕ) (ss : Statements) → HasAt code at (part_code cells at ss)
    → LeadOn code at (part_code cells at ss)
part_leads code cells at ss h =
    lead_then code at _ _ (statements_leads code cells [] at ss (first_at code at (statements_code cells [] at ss) _ h)) (tt, tt)

iteration_leads : (code : List Instr) (cells : List ℕ → Option CellRange) (at : ℕ) (test : Expression) (body : Statements)
    → HasAt code at (iteration_code cells at test body)
    → LeadOn code at (iteration_code cells at test body)
iteration_leads code cells at test body h =
    let first = expression_code cells [] at test in
    let rest = statements_code cells [] (at + length first + 1) body in
    let after_it = rest_at code at first _ h in
    lead_then code at _ _ (expression_leads code cells [] test at at)
    (tt, lead_then code _ _ _ (statements_leads code cells [] (at + length first + 1) body (first_at code _ rest _ after_it.1)) (tt, tt))

-- if the instructions at an index and after it lead on, so does each of them
lead_at : (code : List Instr) (at : ℕ) (is : List Instr) → LeadOn code at is → (k to : ℕ) → slice_get is k ≡ Some (instrs.Jump to)
    → to ≤ at + k
    → steps_at (slice_get code to) ≡ true
lead_at code at [] h k to e back = absurd (let d : None ≡ Some (instrs.Jump to) = e in cc (d))
lead_at code at (i ∷ is) h zero to e back =
    let d : i ≡ instrs.Jump to = cc (e) in (subst (λ j. LeadsOn code at j) d h.0) (omega (arith, back))
lead_at code at (i ∷ is) h (suc k) to e back = lead_at code (at + 1) is h.1 k to e (omega (arith, back))

-- the code of a program
pub program_leads : (tree : SyntaxTree) → JumpsBackToSteps (flat_code tree).instrs
program_leads tree place to e back =
    let cells = range_of 2 tree.cells in
    let code = (flat_code tree).instrs in
    let init = part_code cells 0 tree.init in
    let pipe = iteration_code cells (length init) tree.test tree.body in
    let last = part_code cells (length init + length pipe) tree.last in
    let all : HasAt code 0 (init ++ (pipe ++ last)) = has_all code in
    let from : 0 + length init ≡ length init = omega arith in
    let after_it : HasAt code (length init) (pipe ++ last) = subst (λ n. HasAt code n (pipe ++ last)) from
    (rest_at code 0 init (pipe ++ last) all) in
    lead_at code 0 (init ++ (pipe ++ last))
    (lead_then code 0 init (pipe ++ last) (part_leads code cells 0 tree.init (first_at code 0 init _ all))
    (subst (λ n. LeadOn code n (pipe ++ last)) (sym from)
    (lead_then code (length init) pipe last (iteration_leads code cells (length init) tree.test tree.body
    (first_at code (length init) pipe _ after_it))
    (part_leads code cells (length init + length pipe) tree.last (rest_at code (length init) pipe last after_it)))))
    place to e (omega (arith, back))
