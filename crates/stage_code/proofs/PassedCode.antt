-- Room for the code of the right side of `&&` and `||`.
use Rattle.std.proofs.Common.{◌≡◌, ◌∙◌, ◌+◌, ◌≤◌, ◌++◌, ◌∷◌, [], ℕ, List, Option, ap, arith, length, length-append}
use Rattle.std.proofs.Common.{subst, true}
use Rattle.pipe_model.specs.Language.Evaluation.{CellRange}
use Rattle.pipe_model.specs.Language.SyntaxTree.{Expression, binary_expression}
use Rattle.stage_code.specs.CodeOfTrees.{expression_code}
use Rattle.stage_code.specs.Fitting.{CodeFits, is_short}
use Rattle.stage_code.specs.declared.code_bounds.TheConstants.{LONGEST_CODE}
use Rattle.stage_code.specs.declared.instr.Instr.{Instr}
use Rattle.stage_code.proofs.Patches.{short_joined}

-- the code of the left side, a jump, the code of the right side and one more instruction fit
pub passed_fits : (cells : List ℕ → Option CellRange) (scope : List (List ℕ)) (base tested jumped more now : List Instr) (jump end : Instr)
    (code : ℕ) (a b : Expression)
    → is_short code ≡ true → tested ≡ base ++ expression_code cells scope (length base) a → jumped ≡ tested ++ jump ∷ []
    → more ≡ jumped ++ expression_code cells scope (length jumped) b → now ≡ more ++ end ∷ []
    → CodeFits base (expression_code cells scope (length base) (binary_expression code a b))
    → length now ≤ LONGEST_CODE
passed_fits cells scope base tested jumped more now jump end code a b short e1 e2 e3 e4 fits =
    let left = expression_code cells scope (length base) a in
    let l1 : length tested ≡ length base + length left = ap length e1 ∙ length-append base left in
    let l2 : length jumped ≡ length base + length left + 1 = ap length e2 ∙ length-append tested (jump ∷ []) ∙ omega (arith, l1) in
    let right = expression_code cells scope (length base + length left + 1) b in
    let e3' : more ≡ jumped ++ right = subst (λ n. more ≡ jumped ++ expression_code cells scope n b) l2 e3 in
    let l3 : length more ≡ length jumped + length right = ap length e3' ∙ length-append jumped right in
    let l4 : length now ≡ length more + 1 = ap length e4 ∙ length-append more (end ∷ []) in
    let whole = simp length-append at
    (subst (λ l. length base + length l ≤ LONGEST_CODE) (short_joined cells scope (length base) code a b short) fits) in
    omega (arith, l2, l3, l4, whole)
