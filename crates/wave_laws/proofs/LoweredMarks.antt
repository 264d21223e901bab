-- The checker finds no fault in the lowered program: its new marks break no rule.
use Rattle.std.proofs.Common.{◌∙◌, sym, ap, refl, subst, [], ◌∷◌, ◌++◌, append-nil}
use Rattle.pipe_model.specs.declared.region.Region.TheVariants as regions
use Rattle.pipe_model.specs.Language.CheckingRules.{first_fault, first_limit_out, limit_fault_or}
use Rattle.pipe_model.specs.Language.Marks.{Scope, Plain, StageWord, mark_at, after_let, marks_of, marks_of_cells, marks_of_expression}
use Rattle.pipe_model.specs.Language.Marks.{marks_of_statements, opening}
use Rattle.pipe_model.specs.Language.SyntaxTree.{Then, SyntaxTree}
use Rattle.program_laws.proofs.UnbrokenMarks.{AreUnbroken, faultless, limits_and_marks, unbroken, unbroken_both}
use Rattle.program_laws.proofs.UnbrokenMarks.{unbroken_left, unbroken_right}
use Rattle.wave_laws.specs.WaveLaws.{LoweredWavesBreakNoRule}
use Rattle.wave_laws.specs.Waves.LoweredLoops.{lowered, lowered_body, lowered_test}
use Rattle.wave_laws.specs.Waves.WaveLoops.{rest_of, row, row_declaration}

-- the scope of the body, and the scope after the row is declared
abbrev pub body_scope : SyntaxTree → Scope
body_scope tree = opening regions.Body tree.cells

abbrev pub row_scope : SyntaxTree → Scope
row_scope tree = after_let (body_scope tree) row

body_unbroken : (tree : SyntaxTree) → AreUnbroken (marks_of_statements (body_scope tree) (Then row_declaration (rest_of tree.body)))
    → AreUnbroken (marks_of_statements (body_scope tree) (lowered_body tree.limits.stages (rest_of tree.body)))
body_unbroken tree u =
    let scope = row_scope tree in
    let plain = mark_at scope (Plain row) in
    let rest = marks_of_statements scope (rest_of tree.body) in
    let turn : AreUnbroken (plain ∷ (plain ∷ (mark_at scope StageWord ∷ (plain ∷ (plain ∷ rest))))) =
    (refl, (refl, (refl, (refl, (refl, u.1))))) in
    (u.0, subst AreUnbroken (sym (append-nil (plain ∷ (plain ∷ (mark_at scope StageWord ∷ (plain ∷ (plain ∷ rest))))))) turn)

pub lowered_waves_break_no_rule : LoweredWavesBreakNoRule
lowered_waves_break_no_rule tree w h =
    let both = limits_and_marks (first_limit_out tree.limits) (first_fault 0 (marks_of tree)) h.obeys in
    let all = unbroken 0 (marks_of tree) both.1 in
    let cells = marks_of_cells [] tree.cells in
    let init = marks_of_statements (opening regions.Init tree.cells) tree.init in
    let test = marks_of_expression (opening regions.Test tree.cells) tree.test in
    let body = marks_of_statements (body_scope tree) tree.body in
    let last = marks_of_statements (opening regions.Last tree.cells) tree.last in
    let after_cells = unbroken_right cells (init ++ (test ++ (body ++ last))) all in
    let after_init = unbroken_right init (test ++ (body ++ last)) after_cells in
    let after_test = unbroken_right test (body ++ last) after_init in
    let old_body = subst (λ b. AreUnbroken (marks_of_statements (body_scope tree) b)) w.body (unbroken_left body last after_test) in
    let new_body = marks_of_statements (body_scope tree) (lowered_body tree.limits.stages (rest_of tree.body)) in
    let new_test = marks_of_expression (opening regions.Test tree.cells) (lowered_test tree.limits.iterations) in
    let marks : AreUnbroken (marks_of (lowered tree)) =
    unbroken_both cells (init ++ (new_test ++ (new_body ++ last))) (unbroken_left cells _ all)
    (unbroken_both init (new_test ++ (new_body ++ last)) (unbroken_left init _ after_cells)
    (refl, unbroken_both new_body last (body_unbroken tree old_body) (unbroken_right body last after_test))) in
    record {
      obeys = ap (λ o. limit_fault_or o (first_fault 0 (marks_of (lowered tree)))) both.0
          ∙ faultless 0 (marks_of (lowered tree)) marks;
    }
