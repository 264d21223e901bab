use Rattle.std.proofs.Common.{◌≡◌, ◌∙◌, ◌≤◌, [], IfOk, List, sym, subst, arith}
use Rattle.pipe_model.specs.declared.bounds.TheConstants.{MOST_CELLS}
use Rattle.pipe_model.specs.declared.tree.Declaration.{Declaration}
use Rattle.pipe_model.specs.Language.CheckingRules.{cell_total}
use Rattle.pipe_model.specs.Language.Programs.{range_of}
use Rattle.pipe_model.specs.Language.SyntaxTree.{tree_of}
use Rattle.stage_code.specs.CellRanges.{AreNew}
use Rattle.stage_code.specs.FlatCode.{FlatCode, IsSoundCode}
use Rattle.stage_code.proofs.Lowering.{ready, init_fits, pipe_fits, last_fits, flat_is, flat_sound}
use Rattle.stage_code.proofs.lower.lower_program.Goals as goal

pub of-requires-clause-new : goal.of-requires-clause-new
of-requires-clause-new c =
    subst (λ (ds : List Declaration). AreNew [] ds) (sym c.as_slice.ensures)
    (ready (tree_of c.args.program.now) c.requires.spellable c.requires.obeys).new

pub of-requires-clause-bounded : goal.of-requires-clause-bounded
of-requires-clause-bounded c =
    subst (λ (ds : List Declaration). cell_total ds ≤ MOST_CELLS) (sym c.as_slice.ensures)
    (ready (tree_of c.args.program.now) c.requires.spellable c.requires.obeys).bounded

pub put_part-requires-clause-fits : goal.put_part-requires-clause-fits
put_part-requires-clause-fits c =
    init_fits (tree_of c.args.program.now) (range_of 2 c.in_ok-cells.cells) c.new-instrs.result.items c.requires.spellable.bounded
    c.new-instrs.ensures.items

pub put_part-requires-clause-slots : goal.put_part-requires-clause-slots
put_part-requires-clause-slots c = (ready (tree_of c.args.program.now) c.requires.spellable c.requires.obeys).init

pub place-pipe-requires : goal.place-pipe-requires
place-pipe-requires c =
    let fits = pipe_fits (tree_of c.args.program.now) (range_of 2 c.in_ok-cells.cells) c.new-instrs.result.items c.put_part.new.code.items
    c.requires.spellable.bounded c.new-instrs.ensures.items c.in_ok-put_part.ensures in
    omega (arith, fits)

pub put_iteration-requires-clause-fits : goal.put_iteration-requires-clause-fits
put_iteration-requires-clause-fits c =
    pipe_fits (tree_of c.args.program.now) (range_of 2 c.in_ok-cells.cells) c.new-instrs.result.items c.put_part.new.code.items
    c.requires.spellable.bounded c.new-instrs.ensures.items c.in_ok-put_part.ensures

pub put_iteration-requires-clause-slots : goal.put_iteration-requires-clause-slots
put_iteration-requires-clause-slots c = (ready (tree_of c.args.program.now) c.requires.spellable c.requires.obeys).body

pub place-last-requires : goal.place-last-requires
place-last-requires c =
    let fits = last_fits (tree_of c.args.program.now) (range_of 2 c.in_ok-cells.cells) c.new-instrs.result.items c.put_part.new.code.items
    c.put_iteration.new.code.items
    c.requires.spellable.bounded c.new-instrs.ensures.items c.in_ok-put_part.ensures c.in_ok-put_iteration.ensures in
    omega (arith, fits)

pub put_part-requires-2-clause-fits : goal.put_part-requires-2-clause-fits
put_part-requires-2-clause-fits c =
    last_fits (tree_of c.args.program.now) (range_of 2 c.in_ok-cells.cells) c.new-instrs.result.items c.put_part.new.code.items
    c.put_iteration.new.code.items
    c.requires.spellable.bounded c.new-instrs.ensures.items c.in_ok-put_part.ensures c.in_ok-put_iteration.ensures

pub put_part-requires-2-clause-slots : goal.put_part-requires-2-clause-slots
put_part-requires-2-clause-slots c = (ready (tree_of c.args.program.now) c.requires.spellable c.requires.obeys).last

pub greatest_height-depth-requires : goal.greatest_height-depth-requires
greatest_height-depth-requires c = (ready (tree_of c.args.program.now) c.requires.spellable c.requires.obeys).shallow

pub new-requires : goal.new-requires
new-requires c =
    let program = c.args.program.now in
    let table : c.in_ok-cells.cells ≡ program.cells = c.in_ok-cells.ensures ∙ c.as_slice.ensures in
    subst IsSoundCode (sym (flat_is (tree_of program) c.in_ok-cells.cells c.new-instrs.result.items c.put_part.new.code.items
    c.put_iteration.new.code.items c.put_part-2.new.code.items
    c.place-pipe.result c.place-last.result c.greatest_height-depth.result table c.new-instrs.ensures.items c.in_ok-put_part.ensures
    c.place-pipe.ensures
    c.in_ok-put_iteration.ensures c.place-last.ensures c.in_ok-put_part-2.ensures c.greatest_height-depth.ensures))
    (flat_sound (tree_of program) c.requires.spellable c.requires.obeys)

pub returns : goal.returns
returns c =
    let program = c.args.program.now in
    let table : c.in_ok-cells.cells ≡ program.cells = c.in_ok-cells.ensures ∙ c.as_slice.ensures in
    subst (λ (made : FlatCode). IfOk c.new.result (λ code. code ≡ made))
    (flat_is (tree_of program) c.in_ok-cells.cells c.new-instrs.result.items c.put_part.new.code.items c.put_iteration.new.code.items
    c.put_part-2.new.code.items
    c.place-pipe.result c.place-last.result c.greatest_height-depth.result table c.new-instrs.ensures.items c.in_ok-put_part.ensures
    c.place-pipe.ensures
    c.in_ok-put_iteration.ensures c.place-last.ensures c.in_ok-put_part-2.ensures c.greatest_height-depth.ensures) c.new.ensures
