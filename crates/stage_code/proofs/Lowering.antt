-- The code of a whole program, part by part.
use Rattle.std.proofs.Common.{◌≡◌, ◌∙◌, ℕ, ◌+◌, ◌≤◌, List, [], ◌++◌, length, All, Option, None, sym, ap, subst, arith, length-append}
use Rattle.std.proofs.Common.{append_assoc}
use Rattle.pipe_check.proofs.FirstFaults.{breaks_none}
use Rattle.pipe_model.specs.declared.bounds.TheConstants.{MOST_CELLS, LARGEST_PROGRAM}
use Rattle.pipe_model.specs.declared.region.Region.TheVariants as regions
use Rattle.pipe_model.specs.declared.tree.Declaration.{Declaration}
use Rattle.pipe_model.specs.Language.CheckingRules.{cell_total, fault_of}
use Rattle.pipe_model.specs.Language.Evaluation.{CellRange}
use Rattle.pipe_model.specs.Language.Marks.{opening, marks_of_cells, marks_of_expression, marks_of_statements}
use Rattle.pipe_model.specs.Language.Programs.{range_of}
use Rattle.pipe_model.specs.Language.SpellablePrograms.{IsSpellable, size_of}
use Rattle.pipe_model.specs.Language.SyntaxTree.{SyntaxTree}
use Rattle.stage_code.specs.CodeOfTrees.{part_code, iteration_code, flat_code}
use Rattle.stage_code.specs.FlatCode.{FlatCode}
use Rattle.stage_code.specs.Fitting.{CodeFits}
use Rattle.stage_code.specs.Heights.{greatest_height}
use Rattle.stage_code.specs.CellRanges.{AreNew}
use Rattle.stage_code.specs.Slots.{HaveSlots}
use Rattle.stage_code.specs.FlatCode.{IsSoundCode}
use Rattle.stage_code.specs.declared.instr.Instr.{Instr}
use Rattle.stage_code.specs.Instructions.{Bounds}
use Rattle.stage_code.specs.declared.code_bounds.TheConstants.{HIGHEST_STACK}
use Rattle.stage_code.proofs.DeclaredCells.{new_names, few_cells}
use Rattle.stage_code.proofs.ProgramsInBounds.{Obeys, program_in_bounds, slots_of_all}
use Rattle.stage_code.proofs.Jumps.{program_leads}
use Rattle.stage_code.proofs.LimitRanges.{limits_in_range}
use Rattle.stage_code.proofs.Lists.{all_front}
use Rattle.stage_code.proofs.Sizes.{parts_short, program_low}

-- what `lower_program` needs of a program that breaks no rule
pub record IsReady (tree : SyntaxTree) : Type 0 where
  pub new : AreNew [] tree.cells
  pub bounded : cell_total tree.cells ≤ MOST_CELLS
  pub init : HaveSlots [] tree.init
  pub body : HaveSlots [] tree.body
  pub last : HaveSlots [] tree.last
  pub shallow : greatest_height tree ≤ HIGHEST_STACK

pub ready : (tree : SyntaxTree) → IsSpellable tree → fault_of tree ≡ None → IsReady tree
ready tree spellable obeys =
    let cells = tree.cells in
    let bounds : Bounds = record { depth = greatest_height tree; cells = 2 + cell_total cells } in
    let within = program_in_bounds tree bounds obeys (omega arith) (omega arith) in
    let ranges = range_of 2 cells in
    let mc = marks_of_cells [] cells in
    let rest = marks_of_statements (opening regions.Init cells) tree.init
    ++ (marks_of_expression (opening regions.Test cells) tree.test
    ++ (marks_of_statements (opening regions.Body cells) tree.body ++ marks_of_statements (opening regions.Last cells) tree.last)) in
    let obey : All Obeys mc = all_front Obeys mc rest (breaks_none tree obeys).marks in
    let total = few_cells [] cells obey (omega arith) in
    record {
      new = new_names [] cells obey;
      bounded = omega (arith, total);
      init = slots_of_all bounds ranges [] tree.init within.init;
      body = slots_of_all bounds ranges [] tree.body within.body;
      last = slots_of_all bounds ranges [] tree.last within.last;
      shallow = program_low tree spellable.short;
    }

-- ---- room for the parts of the code

pub init_fits : (tree : SyntaxTree) (cells : List ℕ → Option CellRange) (c0 : List Instr) → size_of tree ≤ LARGEST_PROGRAM → c0 ≡ []
    → CodeFits c0 (part_code cells (length c0) tree.init)
init_fits tree cells c0 bounded e0 =
    let short = parts_short tree cells 0 0 in
    subst (λ l. CodeFits l (part_code cells (length l) tree.init)) (sym e0) (omega (arith, bounded, short.all))

-- the code of the first part
init_is : (tree : SyntaxTree) (cells : List ℕ → Option CellRange) (c0 c1 : List Instr) → c0 ≡ []
    → c1 ≡ c0 ++ part_code cells (length c0) tree.init → c1 ≡ part_code cells 0 tree.init
init_is tree cells c0 c1 e0 e1 = e1 ∙ ap (λ l. l ++ part_code cells (length l) tree.init) e0

pub pipe_fits : (tree : SyntaxTree) (cells : List ℕ → Option CellRange) (c0 c1 : List Instr) → size_of tree ≤ LARGEST_PROGRAM → c0 ≡ []
    → c1 ≡ c0 ++ part_code cells (length c0) tree.init
    → CodeFits c1 (iteration_code cells (length c1) tree.test tree.body)
pipe_fits tree cells c0 c1 bounded e0 e1 =
    let short = parts_short tree cells (length c1) 0 in
    omega (arith, bounded, short.all, ap length (init_is tree cells c0 c1 e0 e1))

pub last_fits : (tree : SyntaxTree) (cells : List ℕ → Option CellRange) (c0 c1 c2 : List Instr) → size_of tree ≤ LARGEST_PROGRAM → c0 ≡ []
    → c1 ≡ c0 ++ part_code cells (length c0) tree.init
    → c2 ≡ c1 ++ iteration_code cells (length c1) tree.test tree.body → CodeFits c2 (part_code cells (length c2) tree.last)
last_fits tree cells c0 c1 c2 bounded e0 e1 e2 =
    let short = parts_short tree cells (length c1) (length c2) in
    omega (
      arith,
      bounded,
      short.all,
      ap length (init_is tree cells c0 c1 e0 e1),
      ap length e2,
      length-append c1
          (iteration_code cells (length c1) tree.test tree.body),
    )

-- ---- the whole

abbrev made : SyntaxTree → List Instr → ℕ → ℕ → ℕ → FlatCode
made tree instrs pipe last depth = record { instrs = instrs; init = 0; pipe = pipe; last = last; depth = depth; limits = tree.limits }

pub flat_is : (tree : SyntaxTree) (table : List Declaration) (c0 c1 c2 c3 : List Instr) (pipe last depth : ℕ) → table ≡ tree.cells → c0 ≡ []
    → c1 ≡ c0 ++ part_code (range_of 2 table) (length c0) tree.init → pipe ≡ length c1
    → c2 ≡ c1 ++ iteration_code (range_of 2 table) (length c1) tree.test tree.body → last ≡ length c2
    → c3 ≡ c2 ++ part_code (range_of 2 table) (length c2) tree.last → depth ≡ greatest_height tree
    → record { instrs = c3; init = 0; pipe = pipe; last = last; depth = depth; limits = tree.limits } ≡ flat_code tree
flat_is tree table c0 c1 c2 c3 pipe last depth t e0 e1 p e2 l e3 d =
    let cells = range_of 2 tree.cells in
    let init = part_code cells 0 tree.init in
    let run = iteration_code cells (length init) tree.test tree.body in
    let end = part_code cells (length init + length run) tree.last in
    let f1 : c1 ≡ init = init_is tree cells c0 c1 e0 (subst (λ (ds : List Declaration). c1 ≡ c0 ++ part_code (range_of 2 ds)
    (length c0) tree.init) t e1) in
    let f2 : c2 ≡ init ++ run = subst (λ (ds : List Declaration). c2 ≡ c1 ++ iteration_code (range_of 2 ds)
    (length c1) tree.test tree.body) t e2
    ∙ ap (λ c. c ++ iteration_code cells (length c) tree.test tree.body) f1 in
    let l2 : length c2 ≡ length init + length run = ap length f2 ∙ length-append init run in
    let f3 : c3 ≡ init ++ (run ++ end) = subst (λ (ds : List Declaration). c3 ≡ c2 ++ part_code (range_of 2 ds) (length c2) tree.last) t e3
    ∙ ap (λ n. c2 ++ part_code cells n tree.last) l2 ∙ ap (λ c. c ++ end) f2 ∙ append_assoc init run end in
    ap (λ c. made tree c pipe last depth) f3
    ∙ ap (λ n. made tree (init ++ (run ++ end)) n last depth) (p ∙ ap length f1)
    ∙ ap (λ n. made tree (init ++ (run ++ end)) (length init) n depth) (l ∙ l2)
    ∙ ap (λ n. made tree (init ++ (run ++ end)) (length init) (length init + length run) n) d

pub flat_sound : (tree : SyntaxTree) → IsSpellable tree → fault_of tree ≡ None → IsSoundCode (flat_code tree)
flat_sound tree spellable obeys =
    let cells = range_of 2 tree.cells in
    let init = part_code cells 0 tree.init in
    let run = iteration_code cells (length init) tree.test tree.body in
    let end = part_code cells (length init + length run) tree.last in
    let short = parts_short tree cells (length init) (length init + length run) in
    let all = length-append init (run ++ end) in
    let more = length-append run end in
    let bounded = spellable.bounded in
    record {
      short = omega (arith, bounded, short.all, all, more);
      init = omega (arith, short.some_init, all);
      pipe = omega (arith, short.some_pipe, all, more);
      last = omega (arith, short.some_last, all, more);
      shallow = (ready tree spellable obeys).shallow;
      back = program_leads tree;
      limits = limits_in_range tree.limits (breaks_none tree obeys).limits spellable.emits;
    }
