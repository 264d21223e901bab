-- The mark of a fault is one of the program's marks.
use Rattle.std.proofs.Common.{◌≡◌, ℕ, Bool, true, false, List, [], ◌∷◌, ◌++◌, ◌+◌, ◌<◌, Option, Some, None, if◌then◌else◌, length, map}
use Rattle.std.proofs.Common.{arith, length-append}
use Rattle.std.proofs.lemmas.List.{length-map}
use Rattle.pipe_model.specs.declared.region.Region.TheVariants as regions
use Rattle.pipe_model.specs.Language.Marks.{marks_of, marks_of_cells, marks_of_expression, marks_of_statements, opening}
use Rattle.pipe_model.specs.Language.SyntaxTree.{SyntaxTree}
use Rattle.wave_laws.specs.Waves.MarkFlags.{first_true, flags_of_statements}
use Rattle.wave_laws.specs.Waves.WaveFaults.{BadTest, HasStage, NoRow, RowSet, first_row_set, first_stage}
use Rattle.wave_laws.specs.Waves.WaveFaults.{marks_before_body, row_fault, stage_fault_or, wave_fault}
use Rattle.wave_lower.proofs.ProgramFlags.{block_flags, same_length, stage_of}

-- the number of the first flag that is true is within the list
first_within : (n m : ℕ) (flags : List Bool) → first_true n flags ≡ Some m → m < n + length flags
first_within n m [] h = cc (h)
first_within n m (true ∷ flags) h = let same : n ≡ m = cc (h) in omega (arith, same)
first_within n m (false ∷ flags) h = let within = first_within (n + 1) m flags h in omega (arith, within)

-- ---- which search found the mark

found_stage : (a b : Bool) (stage row : Option ℕ) (m : ℕ)
    → (if a then Some BadTest else (if b then Some NoRow else stage_fault_or stage (row_fault row))) ≡ Some (HasStage m) → stage ≡ Some m
found_stage true b stage row m h = absurd (cc (h))
found_stage false true stage row m h = absurd (cc (h))
found_stage false false None None m h = absurd (cc (h))
found_stage false false None (Some k) m h = absurd (cc (h))
found_stage false false (Some k) row m h = cc (h)

found_row : (a b : Bool) (stage row : Option ℕ) (m : ℕ)
    → (if a then Some BadTest else (if b then Some NoRow else stage_fault_or stage (row_fault row))) ≡ Some (RowSet m) → row ≡ Some m
found_row true b stage row m h = absurd (cc (h))
found_row false true stage row m h = absurd (cc (h))
found_row false false None None m h = absurd (cc (h))
found_row false false None (Some k) m h = cc (h)
found_row false false (Some k) row m h = absurd (cc (h))

-- ---- the mark is one of all marks

pub stage_within : (tree : SyntaxTree) (m : ℕ) → wave_fault tree ≡ Some (HasStage m) → m < length (marks_of tree)
stage_within tree m h =
    let found = found_stage _ _ (first_stage tree) (first_row_set tree) m h in
    let within = first_within 0 m (map stage_of (marks_of tree)) found in
    let many = length-map (marks_of tree) stage_of in
    omega (arith, within, many)

pub row_within : (tree : SyntaxTree) (m : ℕ) → wave_fault tree ≡ Some (RowSet m) → m < length (marks_of tree)
row_within tree m h =
    let cells = marks_of_cells [] tree.cells in
    let init = marks_of_statements (opening regions.Init tree.cells) tree.init in
    let test = marks_of_expression (opening regions.Test tree.cells) tree.test in
    let body = marks_of_statements (opening regions.Body tree.cells) tree.body in
    let last = marks_of_statements (opening regions.Last tree.cells) tree.last in
    let within = first_within (marks_before_body tree) m (flags_of_statements false true tree.body)
    (found_row _ _ (first_stage tree) (first_row_set tree) m h) in
    let flags : length (map stage_of body) ≡ length (flags_of_statements true false tree.body) =
    (λ i. length (block_flags (opening regions.Body tree.cells) tree.body i)) in
    let marks = length-map body stage_of in
    let same = same_length false true true false tree.body in
    let a = length-append cells (init ++ (test ++ (body ++ last))) in
    let b = length-append init (test ++ (body ++ last)) in
    let c = length-append test (body ++ last) in
    let d = length-append body last in
    omega (arith, within, flags, marks, same, a, b, c, d)
