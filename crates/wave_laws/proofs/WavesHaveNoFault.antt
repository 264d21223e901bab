-- A wave loop that breaks no rule has no fault as a wave loop.
use Rattle.std.proofs.Common.{◌≡◌, ◌∙◌, sym, ap, refl, subst, pos, true, false, List, [], ◌∷◌, ◌++◌, None}
use Rattle.pipe_model.specs.declared.region.Region.TheVariants as regions
use Rattle.pipe_model.specs.declared.tree.Declaration.{Declaration}
use Rattle.pipe_model.specs.Language.CheckingRules.{first_fault, first_limit_out, has_stages}
use Rattle.pipe_model.specs.Language.Marks.{Scope, marks_of, marks_of_cells, marks_of_expression, marks_of_statement}
use Rattle.pipe_model.specs.Language.Marks.{marks_of_statements, after_block, after_statement, after_statements, opening}
use Rattle.pipe_model.specs.Language.SyntaxTree as syntax
use Rattle.pipe_model.specs.Language.SyntaxTree.{Expression, Number, Statement, Let, Assign, AssignElement, Emit, If, While, NextStage}
use Rattle.pipe_model.specs.Language.SyntaxTree.{Statements, Empty, Then}
use Rattle.program_laws.proofs.OneInstance.{stage_is_broken}
use Rattle.wave_laws.proofs.Flags.{AreFalse, both_false, falses, none_flagged}
use Rattle.wave_laws.proofs.StageWords.{NoneIsStage, false_for_stages, stage_both}
use Rattle.program_laws.proofs.UnbrokenMarks.{AreUnbroken, limits_and_marks, unbroken, unbroken_left, unbroken_right}
use Rattle.wave_laws.specs.WaveLaws.{WavesHaveNoFault}
use Rattle.wave_laws.specs.Waves.MarkFlags.{flags_of_statement, flags_of_statements, no_flags}
use Rattle.wave_laws.specs.Waves.WaveFaults.{begins_with_row, first_row_set, first_stage, is_number, marks_before_body}
use Rattle.wave_laws.specs.Waves.WaveLoops.{AllHaveNoStage, AllKeepRow, HasNoStage, KeepsRow, rest_of, row_declaration}

-- ---- marks without a fault

mutual
  region_after : (scope : Scope) (s : Statement) → (after_statement scope s).region ≡ scope.region
  region_after scope (Let x e) = refl
  region_after scope (Assign x e) = refl
  region_after scope (AssignElement x i e) = refl
  region_after scope (Emit e) = refl
  region_after scope (If e a b) = region_after_all (after_block scope a) b ∙ region_after_all scope a
  region_after scope (While e a) = region_after_all scope a
  region_after scope (syntax.Stage kind e) = refl
  region_after scope (NextStage kind) = refl

  region_after_all : (scope : Scope) (ss : Statements) → (after_statements scope ss).region ≡ scope.region
  region_after_all scope Empty = refl
  region_after_all scope (Then s ss) = region_after_all (after_statement scope s) ss ∙ region_after scope s

mutual
  outside_names_none : (scope : Scope) (s : Statement) → has_stages scope.region ≡ false → AreUnbroken (marks_of_statement scope s)
      → HasNoStage s
  outside_names_none scope (Let x e) outside u = tt
  outside_names_none scope (Assign x e) outside u = tt
  outside_names_none scope (AssignElement x i e) outside u = tt
  outside_names_none scope (Emit e) outside u = tt
  outside_names_none scope (If e a b) outside u =
      let blocks = unbroken_right (marks_of_expression scope e)
      (marks_of_statements scope a ++ marks_of_statements (after_block scope a) b) u in (
        outside_name_none scope a outside
            (unbroken_left (marks_of_statements scope a) (marks_of_statements (after_block scope a) b) blocks),
        outside_name_none (after_block scope a) b (ap has_stages (region_after_all scope a) ∙ outside)
            (unbroken_right (marks_of_statements scope a) (marks_of_statements (after_block scope a) b) blocks),
      )
  outside_names_none scope (While e a) outside u =
      outside_name_none scope a outside (unbroken_right (marks_of_expression scope e) (marks_of_statements scope a) u)
  outside_names_none scope (syntax.Stage kind e) outside u = stage_is_broken scope outside u.0
  outside_names_none scope (NextStage kind) outside u = stage_is_broken scope outside u.0

  outside_name_none : (scope : Scope) (ss : Statements) → has_stages scope.region ≡ false → AreUnbroken (marks_of_statements scope ss)
      → AllHaveNoStage ss
  outside_name_none scope Empty outside u = tt
  outside_name_none scope (Then s ss) outside u = (
    outside_names_none scope s outside (unbroken_left (marks_of_statement scope s) (marks_of_statements (after_statement scope s) ss) u),
    outside_name_none (after_statement scope s) ss (ap has_stages (region_after scope s) ∙ outside)
        (unbroken_right (marks_of_statement scope s) (marks_of_statements (after_statement scope s) ss) u),
  )

-- ---- flags

mutual
  unset_one : (s : Statement) → KeepsRow s → AreFalse (flags_of_statement false true s)
  unset_one (Let x e) h = (refl, none_flagged e)
  unset_one (Assign x e) h = (h, none_flagged e)
  unset_one (AssignElement x i e) h = (refl, both_false (no_flags i) (no_flags e) (none_flagged i) (none_flagged e))
  unset_one (Emit e) h = none_flagged e
  unset_one (If e a b) h =
      both_false (no_flags e) (flags_of_statements false true a ++ flags_of_statements false true b) (none_flagged e)
      (both_false (flags_of_statements false true a) (flags_of_statements false true b) (unset_all a h.0) (unset_all b h.1))
  unset_one (While e a) h = both_false (no_flags e) (flags_of_statements false true a) (none_flagged e) (unset_all a h)
  unset_one (syntax.Stage kind e) h = (refl, none_flagged e)
  unset_one (NextStage kind) h = (refl, tt)

  unset_all : (ss : Statements) → AllKeepRow ss → AreFalse (flags_of_statements false true ss)
  unset_all Empty h = tt
  unset_all (Then s ss) h =
      both_false (flags_of_statement false true s) (flags_of_statements false true ss) (unset_one s h.0) (unset_all ss h.1)

-- ---- stages

in_expression : (scope : Scope) (e : Expression) → NoneIsStage (marks_of_expression scope e)
in_expression scope (Number n) = tt
in_expression scope (syntax.Name x) = (refl, tt)
in_expression scope (syntax.Element x i) = (refl, in_expression scope i)
in_expression scope (syntax.And a b) =
    stage_both (marks_of_expression scope a) (marks_of_expression scope b) (in_expression scope a) (in_expression scope b)
in_expression scope (syntax.Or a b) =
    stage_both (marks_of_expression scope a) (marks_of_expression scope b) (in_expression scope a) (in_expression scope b)
in_expression scope (syntax.Binary code a b) =
    stage_both (marks_of_expression scope a) (marks_of_expression scope b) (in_expression scope a) (in_expression scope b)
in_expression scope (syntax.Unary code a) = in_expression scope a
in_expression scope syntax.More = tt
in_expression scope syntax.Take = tt
in_expression scope syntax.Iter = (refl, tt)

mutual
  in_statement : (scope : Scope) (s : Statement) → HasNoStage s → NoneIsStage (marks_of_statement scope s)
  in_statement scope (Let x e) h = (refl, in_expression scope e)
  in_statement scope (Assign x e) h = (refl, in_expression scope e)
  in_statement scope (AssignElement x i e) h =
      (refl, stage_both (marks_of_expression scope i) (marks_of_expression scope e) (in_expression scope i) (in_expression scope e))
  in_statement scope (Emit e) h = in_expression scope e
  in_statement scope (If e a b) h =
      stage_both (marks_of_expression scope e) (marks_of_statements scope a ++ marks_of_statements (after_block scope a) b)
      (in_expression scope e)
      (stage_both (marks_of_statements scope a) (marks_of_statements (after_block scope a) b) (in_statements scope a h.0)
      (in_statements (after_block scope a) b h.1))
  in_statement scope (While e a) h =
      stage_both (marks_of_expression scope e) (marks_of_statements scope a) (in_expression scope e) (in_statements scope a h)
  in_statement scope (syntax.Stage kind e) h = absurd h
  in_statement scope (NextStage kind) h = absurd h

  in_statements : (scope : Scope) (ss : Statements) → AllHaveNoStage ss → NoneIsStage (marks_of_statements scope ss)
  in_statements scope Empty h = tt
  in_statements scope (Then s ss) h =
      stage_both (marks_of_statement scope s) (marks_of_statements (after_statement scope s) ss) (in_statement scope s h.0)
      (in_statements (after_statement scope s) ss h.1)

in_cells : (before cells : List Declaration) → NoneIsStage (marks_of_cells before cells)
in_cells before [] = tt
in_cells before (d ∷ ds) = (refl, in_cells (before ++ d ∷ []) ds)

-- ---- the whole

pub waves_have_no_fault : WavesHaveNoFault
waves_have_no_fault tree w h =
    let cells = marks_of_cells [] tree.cells in
    let init = marks_of_statements (opening regions.Init tree.cells) tree.init in
    let test = marks_of_expression (opening regions.Test tree.cells) tree.test in
    let body = marks_of_statements (opening regions.Body tree.cells) tree.body in
    let last = marks_of_statements (opening regions.Last tree.cells) tree.last in
    let all : AreUnbroken (marks_of tree) = unbroken 0 (marks_of tree)
    ((limits_and_marks (first_limit_out tree.limits) (first_fault 0 (marks_of tree)) h.obeys).1) in
    let parts = unbroken_right cells (init ++ (test ++ (body ++ last))) all in
    let end = unbroken_right body last (unbroken_right test (body ++ last) (unbroken_right init (test ++ (body ++ last)) parts)) in
    let init_none = outside_name_none (opening regions.Init tree.cells) tree.init refl
    (unbroken_left init (test ++ (body ++ last)) parts) in
    let last_none = outside_name_none (opening regions.Last tree.cells) tree.last refl end in
    let whole : AllHaveNoStage (Then row_declaration (rest_of tree.body)) = (tt, w.straight) in
    let body_none : AllHaveNoStage tree.body = subst AllHaveNoStage (sym w.body) whole in
    let none : NoneIsStage (marks_of tree) =
    stage_both cells (init ++ (test ++ (body ++ last))) (in_cells [] tree.cells)
    (stage_both init (test ++ (body ++ last)) (in_statements (opening regions.Init tree.cells) tree.init init_none)
    (stage_both test (body ++ last) (in_expression (opening regions.Test tree.cells) tree.test)
    (stage_both body last (in_statements (opening regions.Body tree.cells) tree.body body_none)
    (in_statements (opening regions.Last tree.cells) tree.last last_none)))) in
    let whole_unset : AllKeepRow (Then row_declaration (rest_of tree.body)) = (tt, w.unset) in
    let body_unset : AllKeepRow tree.body = subst AllKeepRow (sym w.body) whole_unset in
    let stage : first_stage tree ≡ None = falses 0 _ (false_for_stages (marks_of tree) none) in
    let set : first_row_set tree ≡ None = falses (marks_before_body tree) (flags_of_statements false true tree.body)
    (unset_all tree.body body_unset) in
    let one : is_number (pos 1) tree.test ≡ true = ap (is_number (pos 1)) w.test in
    let begins : begins_with_row tree.body ≡ true = ap begins_with_row w.body in
    rw (one, begins, stage, set) refl
