use Rattle.std.proofs.Common.{◌∙◌, ◌≤◌, ◌+◌, ap, arith, subst, sym}
use Rattle.cell_store.proofs.DeclaredCells.{values_length}
use Rattle.frame_book.specs.BookStates.{BookState}
use Rattle.program_hall.proofs.Openings.{can_drive, map_both}
use Rattle.hall_table.specs.SeatViews.{constants_of}
use Rattle.pipe_model.specs.declared.bounds.TheConstants.{MOST_CELLS}
use Rattle.pipe_model.specs.Language.CheckingRules.{cell_total}
use Rattle.pipe_worker.specs.Machines.{cells_of}
use Rattle.stage_interp.specs.CellNumbers.{most_cell_ids}
use Rattle.book_laws.proofs.PlannedPrograms.{accepted_programs_are_planned}
use Rattle.frame_book.specs.NewBooks.{IsPlannedProgram}
use Rattle.hall_table.specs.ShardParts.{HaveIdentities}
use Rattle.pipe_model.specs.declared.tree.Program.{Program}
use Rattle.pipe_model.specs.Language.SyntaxTree.{SyntaxTree, tree_of}
use Rattle.program_hall.proofs.opening.open.Goals as goal

pub new-requires-clause-planned : goal.new-requires-clause-planned
new-requires-clause-planned g c =
    let prepared = c.args.prepared.now in
    subst (λ (p : Program). IsPlannedProgram (tree_of p) prepared.input.now) (sym c.program-program.ensures.program)
    (accepted_programs_are_planned (tree_of prepared.checked.now) prepared.input.now c.requires.accepted)

pub hall_after-requires-clause-identities : goal.hall_after-requires-clause-identities
hall_after-requires-clause-identities g c = subst HaveIdentities (sym c.payloads.ensures.unchanged) c.in_ok-orders.ensures.identities

pub returns-clause-hall : goal.returns-clause-hall
returns-clause-hall g c =
    let book = c.in_ok-book.book in
    let made = c.in_ok-book.ensures in
    map_both c.hall_after.result c.hall_after.ensures.constants c.hall_after.ensures.before (λ opened constants before. record {
      constants = constants_of book;
      are = constants;
      tree_is = made.tree ∙ ap (λ (p : Program). tree_of p) c.program-program.ensures.program;
      input_is = ap (λ (b : BookState). b.input) made.book;
      limit_is = ap (λ (b : BookState). b.limit) made.book;
      before_is = before;
    })

few_cells : (tree : SyntaxTree) → cell_total tree.cells + 2 ≤ MOST_CELLS + 2 → cells_of tree ≤ most_cell_ids
few_cells tree bounded = let declared = values_length tree.cells in omega (arith, declared, bounded)

pub returns-clause-drives : goal.returns-clause-drives
returns-clause-drives g c =
    let book = c.in_ok-book.book in
    let made = c.in_ok-book.ensures in
    let tree = tree_of c.args.prepared.now.checked.now in
    let tree_is = made.tree ∙ ap (λ (p : Program). tree_of p) c.program-program.ensures.program in
    let bounded : cells_of tree ≤ most_cell_ids =
    few_cells tree (subst (λ n. n ≤ MOST_CELLS + 2) c.cell_count-count.ensures.count c.cell_count-count.ensures.bounded) in
    map_both c.hall_after.result c.hall_after.ensures.constants c.hall_after.ensures.constants (λ opened constants same.
    can_drive g.B.RunCode.code opened.0.hall (constants_of book) c.args.prepared.now.code.now c.args.prepared.now.input.now constants
    c.requires.code
    (sym (ap (λ (b : BookState). b.input) made.book)) (subst (λ (t : SyntaxTree). cells_of t ≤ most_cell_ids) (sym tree_is) bounded))
