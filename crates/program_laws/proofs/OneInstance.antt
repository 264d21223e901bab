-- `init` and `final` of an accepted program name no stage, so each is one instance.
use Rattle.std.proofs.Common.{◌≡◌, ◌∙◌, ap, refl, ℕ, zero, suc, ℤ, false, List, [], ◌++◌, Option, Some, None}
use Rattle.pipe_model.specs.declared.region.Region.TheVariants as regions
use Rattle.pipe_model.specs.Language.CheckingRules.{Fault, PipeOutside, broken_at, first_fault, has_stages}
use Rattle.pipe_model.specs.Language.CheckingRules.{limit_fault_or, first_limit_out}
use Rattle.pipe_model.specs.Language.Evaluation.{CellRange, Setting, Environment, evaluate, execute, execute_all, assign}
use Rattle.pipe_model.specs.Language.Evaluation.{first_environment, leave_block, local_value, loop_turns}
use Rattle.pipe_model.specs.Language.Interaction.{Interaction, with_budget}
use Rattle.pipe_model.specs.declared.column.ColumnEnd.{ColumnEnd}
use Rattle.pipe_model.specs.Language.Marks.{Scope, StageWord, after_block, after_statement, after_statements, marks_of}
use Rattle.pipe_model.specs.Language.Marks.{marks_of_cells, marks_of_expression, marks_of_statement, marks_of_statements, opening}
use Rattle.pipe_model.specs.Language.Marks as marks
use Rattle.pipe_model.specs.Language.Programs.{natural, setting_of}
use Rattle.pipe_model.specs.Language.SyntaxTree as syntax
use Rattle.pipe_model.specs.Language.SyntaxTree.{SyntaxTree, Statement, Let, Assign, AssignElement, Emit, If, While, NextStage}
use Rattle.pipe_model.specs.Language.SyntaxTree.{Statements, Empty, Then}
use Rattle.program_laws.proofs.UnbrokenMarks.{unbroken, unbroken_left, unbroken_right, AreUnbroken}
use Rattle.program_laws.proofs.LegalStages.{straight-emit}
use Rattle.program_laws.proofs.Straight.{IsStraight, Returns, Raises, Steps, Gets, Sets, Anything, straight-bind, straight-evaluate}
use Rattle.program_laws.proofs.Straight.{straight-element_of, either_by_zero}
use Rattle.pipe_model.specs.Pipelines.WholePrograms.{IsOneInstance}
use Rattle.pipe_model.specs.Language.ProgramsOfTrees.{part_of}
use Rattle.program_laws.specs.ProgramRunLaws.{PartsAreOneInstance}

-- a stage statement breaks a rule in `init` and `final`
pub stage_is_broken : (scope : Scope) → has_stages scope.region ≡ false → broken_at (marks.mark_at scope StageWord) ≡ None → ⊥
stage_is_broken scope outside h =
    let broken : broken_at (marks.mark_at scope StageWord) ≡ Some PipeOutside = rw outside in
    cc

-- statements stay in their region
mutual
  region_after : (scope : Scope) (s : Statement) → (after_statement scope s).region ≡ scope.region
  region_after scope (Let x e) = refl
  region_after scope (Assign x e) = refl
  region_after scope (AssignElement x i e) = refl
  region_after scope (Emit e) = refl
  region_after scope (If e a b) = region_after_all (after_block scope a) b ∙ region_after_all scope a
  region_after scope (While e a) = region_after_all scope a
  region_after scope (syntax.Stage kind e) = refl
  region_after scope (NextStage kind) = refl

  region_after_all : (scope : Scope) (ss : Statements) → (after_statements scope ss).region ≡ scope.region
  region_after_all scope Empty = refl
  region_after_all scope (Then s ss) = region_after_all (after_statement scope s) ss ∙ region_after scope s

abbrev mutual
  -- the statement names no stage
  NamesNone : Statement → Type 0
  NamesNone (Let x e) = Unit {0}
  NamesNone (Assign x e) = Unit {0}
  NamesNone (AssignElement x i e) = Unit {0}
  NamesNone (Emit e) = Unit {0}
  NamesNone (If e a b) = NameNone a × NameNone b
  NamesNone (While e a) = NameNone a
  NamesNone (syntax.Stage kind e) = ⊥
  NamesNone (NextStage kind) = ⊥

  -- the same for statements in order
  NameNone : Statements → Type 0
  NameNone Empty = Unit {0}
  NameNone (Then s ss) = NamesNone s × NameNone ss

mutual
  unbroken_names_none : (scope : Scope) (s : Statement) → has_stages scope.region ≡ false → AreUnbroken (marks_of_statement scope s)
      → NamesNone s
  unbroken_names_none scope (Let x e) outside u = tt
  unbroken_names_none scope (Assign x e) outside u = tt
  unbroken_names_none scope (AssignElement x i e) outside u = tt
  unbroken_names_none scope (Emit e) outside u = tt
  unbroken_names_none scope (If e a b) outside u =
      let blocks = unbroken_right (marks_of_expression scope e)
      (marks_of_statements scope a ++ marks_of_statements (after_block scope a) b) u in (
        unbroken_name_none scope a outside (unbroken_left (marks_of_statements scope a) (marks_of_statements (after_block scope a) b)
            blocks),
        unbroken_name_none (after_block scope a) b (ap has_stages (region_after_all scope a) ∙ outside)
            (unbroken_right (marks_of_statements scope a) (marks_of_statements (after_block scope a) b) blocks),
      )
  unbroken_names_none scope (While e a) outside u =
      unbroken_name_none scope a outside (unbroken_right (marks_of_expression scope e) (marks_of_statements scope a) u)
  unbroken_names_none scope (syntax.Stage kind e) outside u = stage_is_broken scope outside u.0
  unbroken_names_none scope (NextStage kind) outside u = stage_is_broken scope outside u.0

  unbroken_name_none : (scope : Scope) (ss : Statements) → has_stages scope.region ≡ false → AreUnbroken (marks_of_statements scope ss)
      → NameNone ss
  unbroken_name_none scope Empty outside u = tt
  unbroken_name_none scope (Then s ss) outside u = (
    unbroken_names_none scope s outside (unbroken_left (marks_of_statement scope s) (marks_of_statements (after_statement scope s) ss) u),
    unbroken_name_none (after_statement scope s) ss (ap has_stages (region_after scope s) ∙ outside)
        (unbroken_right (marks_of_statement scope s) (marks_of_statements (after_statement scope s) ss) u),
  )

-- ---- the tree

straight-assign : (env : Environment) (o : Option ℤ) (range : Option CellRange) (x : List ℕ) (v : ℤ)
    → IsStraight Anything (assign env o range x v)
straight-assign env (Some old) range x v = Returns tt
straight-assign env None (Some range) x v = Sets _ _ (Returns tt)
straight-assign env None None x v = Raises _

straight-turns : (turns : ℕ) (test : Environment → Interaction ℤ) (body : Environment → Interaction Environment) (env : Environment)
    → ((now : Environment) → IsStraight Anything (test now)) → ((now : Environment) → IsStraight Anything (body now))
    → IsStraight Anything (loop_turns turns test body env)
straight-turns zero test body env tests bodies = Raises _
straight-turns (suc turns) test body env tests bodies =
    straight-bind (tests env) (λ v h. Steps (either_by_zero Anything v _ _ (Returns tt)
    (straight-bind (bodies env) (λ after k. straight-turns turns test body (leave_block env after) tests bodies))))

mutual
  straight-execute : (setting : Setting) (s : Statement) (env : Environment) → NamesNone s → IsStraight Anything (execute setting s env)
  straight-execute setting (Let x e) env k = straight-bind (straight-evaluate setting env.locals e) (λ v h. Steps (Returns tt))
  straight-execute setting (Assign x e) env k =
      straight-bind (straight-evaluate setting env.locals e)
      (λ v h. Steps (straight-assign env (local_value env.locals x) (setting.cells x) x v))
  straight-execute setting (AssignElement x i e) env k =
      straight-bind (straight-evaluate setting env.locals i) (λ j h. straight-bind (straight-evaluate setting env.locals e) (λ v h'. Steps
      (straight-bind (straight-element_of (setting.cells x) j) (λ c h''. Sets c v (Returns tt)))))
  straight-execute setting (Emit e) env k =
      straight-bind (straight-evaluate setting env.locals e)
      (λ v h. Steps (straight-bind (straight-emit setting.world.emits v) (λ done h'. Returns tt)))
  straight-execute setting (If e a b) env k =
      straight-bind (straight-evaluate setting env.locals e) (λ v h. Steps (straight-bind
      (either_by_zero Anything v _ _ (straight-execute_all setting b env k.1) (straight-execute_all setting a env k.0))
      (λ after h'. Returns tt)))
  straight-execute setting (While e a) env k =
      straight-turns setting.turns (λ now. evaluate setting now.locals e) (execute_all setting a) env
      (λ now. straight-evaluate setting now.locals e) (λ now. straight-execute_all setting a now k)
  straight-execute setting (syntax.Stage kind e) env k = absurd k
  straight-execute setting (NextStage kind) env k = absurd k

  straight-execute_all : (setting : Setting) (ss : Statements) (env : Environment) → NameNone ss
      → IsStraight Anything (execute_all setting ss env)
  straight-execute_all setting Empty env k = Returns tt
  straight-execute_all setting (Then s ss) env k = straight-bind (straight-execute setting s env k.0)
      (λ after h. straight-execute_all setting ss after k.1)

one-with_budget : {d : Interaction ColumnEnd} (budget left : ℕ) → IsStraight Anything d → IsOneInstance (with_budget budget left d)
one-with_budget budget left (Returns p) = tt
one-with_budget budget left (Raises t) = tt
one-with_budget budget zero (Steps s) = tt
one-with_budget budget (suc left) (Steps s) = one-with_budget budget left s
one-with_budget budget left (Gets c s) = λ v. one-with_budget budget left (s v)
one-with_budget budget left (Sets c v s) = one-with_budget budget left s

one_instance : (tree : SyntaxTree) (input : List ℤ) (statements : Statements) → NameNone statements
    → IsOneInstance (part_of tree input statements)
one_instance tree input statements k =
    one-with_budget (natural tree.limits.steps) (natural tree.limits.steps)
    (straight-bind (straight-execute_all (setting_of tree input 0) statements first_environment k) (λ env h. Returns tt))

pub rest_is_none : (o : Option ℕ) (rest : Option Fault) → limit_fault_or o rest ≡ None → rest ≡ None
rest_is_none None rest h = h
rest_is_none (Some which) rest h = absurd (cc)

pub parts_are_one_instance : PartsAreOneInstance
parts_are_one_instance tree input a =
    let init = marks_of_statements (opening regions.Init tree.cells) tree.init in
    let test = marks_of_expression (opening regions.Test tree.cells) tree.test in
    let body = marks_of_statements (opening regions.Body tree.cells) tree.body in
    let last = marks_of_statements (opening regions.Last tree.cells) tree.last in
    let all : AreUnbroken (marks_of tree) = unbroken 0 (marks_of tree)
    (rest_is_none (first_limit_out tree.limits) (first_fault 0 (marks_of tree)) a.obeys) in
    let parts = unbroken_right (marks_of_cells [] tree.cells) (init ++ (test ++ (body ++ last))) all in
    let later = unbroken_right init (test ++ (body ++ last)) parts in
    let end = unbroken_right body last (unbroken_right test (body ++ last) later) in (
      one_instance tree input tree.init (unbroken_name_none (opening regions.Init tree.cells) tree.init refl
          (unbroken_left init (test ++ (body ++ last)) parts)),
      one_instance tree input tree.last (unbroken_name_none (opening regions.Last tree.cells) tree.last refl end),
    )
