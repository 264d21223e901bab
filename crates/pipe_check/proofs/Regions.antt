-- The marks of a program, region by region: when the first ones pass, those after them decide.
use Rattle.std.proofs.Common.{◌≡◌, ◌∙◌, ℕ, ◌≤◌, List, [], ◌∷◌, ◌++◌, length, sym, arith, refl, Result, Ok, Err, None}
use Rattle.pipe_check.specs.declared.fault.CheckFault.{CheckFault}
use Rattle.pipe_check.specs.Passing.{PassesMarks, Fits}
use Rattle.pipe_check.proofs.Faults.{fails_first, passes_then, fits_first, fits_then}
use Rattle.pipe_model.specs.declared.region.Region.TheVariants as regions
use Rattle.pipe_model.specs.declared.tree.Declaration.{Declaration}
use Rattle.pipe_model.specs.Language.CheckingRules.{first_fault}
use Rattle.pipe_model.specs.Language.Marks.{Mark, opening, marks_of, marks_of_cells, marks_of_expression, marks_of_statements}
use Rattle.pipe_model.specs.Language.SpellablePrograms.{IsSpellable}
use Rattle.pipe_model.specs.Language.SyntaxTree.{SyntaxTree}

-- the marks of each region
abbrev pub init_marks : SyntaxTree → List Mark
init_marks tree = marks_of_statements (opening regions.Init tree.cells) tree.init

abbrev pub test_marks : SyntaxTree → List Mark
test_marks tree = marks_of_expression (opening regions.Test tree.cells) tree.test

abbrev pub body_marks : SyntaxTree → List Mark
body_marks tree = marks_of_statements (opening regions.Body tree.cells) tree.body

abbrev pub last_marks : SyntaxTree → List Mark
last_marks tree = marks_of_statements (opening regions.Last tree.cells) tree.last

-- of all marks these are left, and the first of them has the number k
pub record AreLeft (k : ℕ) (left all : List Mark) : Type 0 where
  pub decide : (outcome : Result ℕ CheckFault) → PassesMarks outcome k left → PassesMarks outcome 0 all
  pub fit : Fits k left

-- the first marks pass
next_region : (k j : ℕ) (a b all : List Mark) → AreLeft k (a ++ b) all → PassesMarks (Ok j) k a → AreLeft j b all
next_region k j a b all at p = record {
  decide = λ outcome q. at.decide outcome (passes_then outcome k j a b p q);
  fit = fits_then k j a b at.fit p;
}

-- the first marks have a fault, or their numbers are within the bound
region_fails : (refusal : CheckFault) (k : ℕ) (a b all : List Mark) → AreLeft k (a ++ b) all → PassesMarks (Err refusal) k a
    → PassesMarks (Err refusal) 0 all
region_fails refusal k a b all at q = at.decide (Err refusal) (fails_first refusal k a b q)

region_fits : (k : ℕ) (a b all : List Mark) → AreLeft k (a ++ b) all → Fits k a
region_fits k a b all at = fits_first k a b at.fit

-- there are as many marks as declarations
pub cells_length : (before cells : List Declaration) → length (marks_of_cells before cells) ≡ length cells
cells_length before [] = refl
cells_length before (d ∷ ds) = let rest = cells_length (before ++ d ∷ []) ds in omega (arith, rest)

-- all marks are left at first
pub at_cells : (tree : SyntaxTree) → IsSpellable tree → AreLeft 0 (marks_of tree) (marks_of tree)
at_cells tree s = record { decide = λ outcome p. p; fit = omega (arith, s.bounded) }

-- a program has at most 4194304 declarations
pub few_cells : (tree : SyntaxTree) → IsSpellable tree → length tree.cells ≤ 4194304
few_cells tree s =
    let fits = region_fits 0 (marks_of_cells [] tree.cells) (init_marks tree ++ (test_marks tree ++ (body_marks tree ++ last_marks tree)))
    (marks_of tree) (at_cells tree s) in
    omega (arith, fits, cells_length [] tree.cells)

pub cells_fail : (tree : SyntaxTree) (refusal : CheckFault) → IsSpellable tree → PassesMarks (Err refusal) 0 (marks_of_cells [] tree.cells)
    → PassesMarks (Err refusal) 0 (marks_of tree)
cells_fail tree refusal s =
    region_fails refusal 0 (marks_of_cells [] tree.cells) (init_marks tree ++ (test_marks tree ++ (body_marks tree ++ last_marks tree)))
    (marks_of tree) (at_cells tree s)

-- after the declarations
pub at_init : (tree : SyntaxTree) (k : ℕ) → IsSpellable tree → first_fault 0 (marks_of_cells [] tree.cells) ≡ None → k ≡ length tree.cells
    → AreLeft k (init_marks tree ++ (test_marks tree ++ (body_marks tree ++ last_marks tree))) (marks_of tree)
at_init tree k s none counted =
    next_region 0 k (marks_of_cells [] tree.cells) (init_marks tree ++ (test_marks tree ++ (body_marks tree ++ last_marks tree)))
    (marks_of tree)
    (at_cells tree s)
    (none, counted ∙ sym (cells_length [] tree.cells) ∙ omega arith)

pub init_fits : (tree : SyntaxTree) (k : ℕ)
    → AreLeft k (init_marks tree ++ (test_marks tree ++ (body_marks tree ++ last_marks tree))) (marks_of tree) → Fits k (init_marks tree)
init_fits tree k = region_fits k (init_marks tree) (test_marks tree ++ (body_marks tree ++ last_marks tree)) (marks_of tree)

pub init_fails : (tree : SyntaxTree) (refusal : CheckFault) (k : ℕ)
    → AreLeft k (init_marks tree ++ (test_marks tree ++ (body_marks tree ++ last_marks tree))) (marks_of tree)
    → PassesMarks (Err refusal) k (init_marks tree) → PassesMarks (Err refusal) 0 (marks_of tree)
init_fails tree refusal k = region_fails refusal k (init_marks tree) (test_marks tree ++ (body_marks tree ++ last_marks tree))
    (marks_of tree)

-- after `init`
pub at_test : (tree : SyntaxTree) (k j : ℕ) → AreLeft k (init_marks tree ++ (test_marks tree ++ (body_marks tree ++ last_marks tree)))
    (marks_of tree)
    → PassesMarks (Ok j) k (init_marks tree) → AreLeft j (test_marks tree ++ (body_marks tree ++ last_marks tree)) (marks_of tree)
at_test tree k j = next_region k j (init_marks tree) (test_marks tree ++ (body_marks tree ++ last_marks tree)) (marks_of tree)

pub test_fits : (tree : SyntaxTree) (k : ℕ) → AreLeft k (test_marks tree ++ (body_marks tree ++ last_marks tree)) (marks_of tree)
    → Fits k (test_marks tree)
test_fits tree k = region_fits k (test_marks tree) (body_marks tree ++ last_marks tree) (marks_of tree)

pub test_fails : (tree : SyntaxTree) (refusal : CheckFault) (k : ℕ) → AreLeft k (test_marks tree ++ (body_marks tree ++ last_marks tree))
    (marks_of tree)
    → PassesMarks (Err refusal) k (test_marks tree) → PassesMarks (Err refusal) 0 (marks_of tree)
test_fails tree refusal k = region_fails refusal k (test_marks tree) (body_marks tree ++ last_marks tree) (marks_of tree)

-- after the loop's test
pub at_body : (tree : SyntaxTree) (k j : ℕ) → AreLeft k (test_marks tree ++ (body_marks tree ++ last_marks tree)) (marks_of tree)
    → PassesMarks (Ok j) k (test_marks tree) → AreLeft j (body_marks tree ++ last_marks tree) (marks_of tree)
at_body tree k j = next_region k j (test_marks tree) (body_marks tree ++ last_marks tree) (marks_of tree)

pub body_fits : (tree : SyntaxTree) (k : ℕ) → AreLeft k (body_marks tree ++ last_marks tree) (marks_of tree) → Fits k (body_marks tree)
body_fits tree k = region_fits k (body_marks tree) (last_marks tree) (marks_of tree)

pub body_fails : (tree : SyntaxTree) (refusal : CheckFault) (k : ℕ) → AreLeft k (body_marks tree ++ last_marks tree) (marks_of tree)
    → PassesMarks (Err refusal) k (body_marks tree) → PassesMarks (Err refusal) 0 (marks_of tree)
body_fails tree refusal k = region_fails refusal k (body_marks tree) (last_marks tree) (marks_of tree)

-- after the loop
pub at_last : (tree : SyntaxTree) (k j : ℕ) → AreLeft k (body_marks tree ++ last_marks tree) (marks_of tree)
    → PassesMarks (Ok j) k (body_marks tree)
    → AreLeft j (last_marks tree) (marks_of tree)
at_last tree k j = next_region k j (body_marks tree) (last_marks tree) (marks_of tree)
