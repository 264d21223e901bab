-- A jump gets its target once the code that it skips is emitted.
use Rattle.std.proofs.Common.{◌≡◌, ℕ, ◌+◌, ◌==◌, ◌||◌, Bool, true, false, if◌then◌else◌, List, [], ◌∷◌, ◌++◌, Option, length, refl, ap, ◌∙◌}
use Rattle.std.proofs.Common.{subst, arith, append_assoc, length-append}
use Rattle.std.specs.Prelude.{slice_set}
use Rattle.std.proofs.Math.Seq.{set-append_seam}
use Rattle.pipe_model.specs.Language.Evaluation.{CellRange}
use Rattle.pipe_model.specs.Language.SyntaxTree.{Expression, And, Or, Binary, binary_expression}
use Rattle.stage_code.specs.CodeOfTrees.{expression_code}
use Rattle.stage_code.specs.Fitting.{is_short, test_code}
use Rattle.stage_code.specs.declared.instr.Instr.{Instr}
use Rattle.stage_code.specs.declared.instr.Instr.TheVariants as instrs

-- code, a jump past what follows, and that, which ends with an instruction
abbrev pub passing_code : (ℕ → Instr) → ℕ → List Instr → (ℕ → List Instr) → Instr → List Instr
passing_code jump at first second end =
    let more = second (at + length first + 1) in first ++ jump (at + length first + 1 + length more + 1) ∷ (more ++ end ∷ [])

pub passing_patched : (jump : ℕ → Instr) (base first c1 c2 c3 c4 : List Instr) (second : ℕ → List Instr) (x end : Instr) (hole to : ℕ)
    → c1 ≡ base ++ first → hole ≡ length c1 → c2 ≡ c1 ++ x ∷ [] → c3 ≡ c2 ++ second (length c2) → c4 ≡ c3 ++ end ∷ [] → to ≡ length c4
    → slice_set c4 hole (jump to) ≡ base ++ passing_code jump (length base) first second end
passing_patched jump base first c1 c2 c3 c4 second x end hole to e1 m e2 e3 e4 e5 =
    let l1 : length c1 ≡ length base + length first = ap length e1 ∙ length-append base first in
    let l2 : length c2 ≡ length base + length first + 1 = ap length e2 ∙ length-append c1 (x ∷ []) ∙ omega (arith, l1) in
    let b = second (length base + length first + 1) in
    let e3' : c3 ≡ c2 ++ b = subst (λ n. c3 ≡ c2 ++ second n) l2 e3 in
    let l3 : length c3 ≡ length c2 + length b = ap length e3' ∙ length-append c2 b in
    let l4 : to ≡ length base + length first + 1 + length b + 1 = e5 ∙ ap length e4 ∙ length-append c3 (end ∷ []) ∙ omega (arith, l3, l2) in
    let all : c4 ≡ ((c1 ++ x ∷ []) ++ b) ++ end ∷ [] = cc in
    let flat : ((c1 ++ x ∷ []) ++ b) ++ end ∷ [] ≡ c1 ++ x ∷ (b ++ end ∷ []) = simp append_assoc in
    ap (λ l. slice_set l hole (jump to)) (all ∙ flat)
    ∙ ap (λ n. slice_set (c1 ++ x ∷ (b ++ end ∷ [])) n (jump to)) m
    ∙ set-append_seam c1 x (b ++ end ∷ []) (jump to)
    ∙ ap (λ l. l ++ jump to ∷ (b ++ end ∷ [])) e1
    ∙ append_assoc base first (jump to ∷ (b ++ end ∷ []))
    ∙ ap (λ n. base ++ (first ++ jump n ∷ (b ++ end ∷ []))) l4

short_either : (cells : List ℕ → Option CellRange) (scope : List (List ℕ)) (at code : ℕ) (a b : Expression) (first second : Bool)
    → (first || second) ≡ true
    → expression_code cells scope at (if first then Or a b else (if second then And a b else Binary code a b))
    ≡ passing_code (λ to. if first then instrs.OrTest to else instrs.AndTest to) at (expression_code cells scope at a)
    (λ n. expression_code cells scope n b) instrs.Truth
short_either cells scope at code a b true second h = refl
short_either cells scope at code a b false true h = refl
short_either cells scope at code a b false false h = absurd (let e : false ≡ true = h in cc (e))

-- the code of `&&` and `||`
pub short_joined : (cells : List ℕ → Option CellRange) (scope : List (List ℕ)) (at code : ℕ) (a b : Expression) → is_short code ≡ true
    → expression_code cells scope at (binary_expression code a b)
    ≡ passing_code (test_code code) at (expression_code cells scope at a) (λ n. expression_code cells scope n b) instrs.Truth
short_joined cells scope at code a b h = short_either cells scope at code a b (code == 1) (code == 2) h

-- code, a jump past the first of two others, that, a jump past the second, and that
abbrev pub choosing_code : ℕ → List Instr → (ℕ → List Instr) → (ℕ → List Instr) → List Instr
choosing_code at test first second =
    let a = first (at + length test + 1) in
    let b = second (at + length test + 1 + length a + 1) in
    test ++ instrs.Branch (at + length test + 1 + length a + 1) ∷ (a ++ instrs.Jump (at + length test + 1 + length a + 1 + length b) ∷ b)

pub choosing_patched : (base test c1 c2 c3 c4 c5 c6 : List Instr) (first second : ℕ → List Instr) (x y : Instr) (hole hole2 to to2 : ℕ)
    → c1 ≡ base ++ test → hole ≡ length c1 → c2 ≡ c1 ++ x ∷ [] → c3 ≡ c2 ++ first (length c2) → hole2 ≡ length c3 → c4 ≡ c3 ++ y ∷ []
    → to ≡ length c4
    → c5 ≡ slice_set c4 hole (instrs.Branch to) → c6 ≡ c5 ++ second (length c5) → to2 ≡ length c6
    → slice_set c6 hole2 (instrs.Jump to2) ≡ base ++ choosing_code (length base) test first second
choosing_patched base test c1 c2 c3 c4 c5 c6 first second x y hole hole2 to to2 e1 m e2 e3 m2 e4 m3 e5 e6 m4 =
    let at = length base in
    let l1 : length c1 ≡ at + length test = ap length e1 ∙ length-append base test in
    let l2 : length c2 ≡ at + length test + 1 = ap length e2 ∙ length-append c1 (x ∷ []) ∙ omega (arith, l1) in
    let a = first (at + length test + 1) in
    let e3' : c3 ≡ c2 ++ a = subst (λ n. c3 ≡ c2 ++ first n) l2 e3 in
    let l3 : length c3 ≡ length c2 + length a = ap length e3' ∙ length-append c2 a in
    let l4 : to ≡ at + length test + 1 + length a + 1 = m3 ∙ ap length e4 ∙ length-append c3 (y ∷ []) ∙ omega (arith, l3, l2) in
    let i = instrs.Branch to in
    let all : c4 ≡ ((c1 ++ x ∷ []) ++ a) ++ y ∷ [] = cc in
    let flat : ((c1 ++ x ∷ []) ++ a) ++ y ∷ [] ≡ c1 ++ x ∷ (a ++ y ∷ []) = simp append_assoc in
    let e5' : c5 ≡ c1 ++ i ∷ (a ++ y ∷ []) = e5 ∙ ap (λ l. slice_set l hole i) (all ∙ flat)
    ∙ ap (λ n. slice_set (c1 ++ x ∷ (a ++ y ∷ [])) n i) m
    ∙ set-append_seam c1 x (a ++ y ∷ []) i in
    let l5 : length c5 ≡ at + length test + 1 + length a + 1 = ap length e5' ∙ length-append c1 (i ∷ (a ++ y ∷ []))
    ∙ omega (arith, l1, length-append a (y ∷ [])) in
    let b = second (at + length test + 1 + length a + 1) in
    let e6' : c6 ≡ c5 ++ b = subst (λ n. c6 ≡ c5 ++ second n) l5 e6 in
    let l6 : to2 ≡ at + length test + 1 + length a + 1 + length b = m4 ∙ ap length e6' ∙ length-append c5 b ∙ omega (arith, l5) in
    let j = instrs.Jump to2 in
    let head = c1 ++ i ∷ a in
    let all2 : c6 ≡ (c1 ++ i ∷ (a ++ y ∷ [])) ++ b = e6' ∙ ap (λ l. l ++ b) e5' in
    let flat2 : (c1 ++ i ∷ (a ++ y ∷ [])) ++ b ≡ (c1 ++ i ∷ a) ++ y ∷ b = simp append_assoc in
    let at2 : hole2 ≡ length head = omega (arith, m2, l3, l2, l1, length-append c1 (i ∷ a)) in
    ap (λ l. slice_set l hole2 j) (all2 ∙ flat2)
    ∙ ap (λ n. slice_set (head ++ y ∷ b) n j) at2
    ∙ set-append_seam head y b j
    ∙ append_assoc c1 (i ∷ a) (j ∷ b)
    ∙ ap (λ l. l ++ i ∷ (a ++ j ∷ b)) e1
    ∙ append_assoc base test (i ∷ (a ++ j ∷ b))
    ∙ ap (λ n. base ++ (test ++ instrs.Branch n ∷ (a ++ j ∷ b))) l4
    ∙ ap (λ n. base ++ (test ++ instrs.Branch (at + length test + 1 + length a + 1) ∷ (a ++ instrs.Jump n ∷ b))) l6
