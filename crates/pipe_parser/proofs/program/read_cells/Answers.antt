use Rattle.std.proofs.Common.{rules, ◌≡◌, ◌∙◌, ◌++◌, ◌∷◌, []}
use Rattle.std.proofs.lemmas.Result.{err_from_is_err_and}
use Rattle.pipe_parser.proofs.ProgramFronts.{one_more_cell, passes_one_cell, cells_read, fault_cell}
use Rattle.pipe_parser.proofs.program.read_cells.Goals as goal

pub loop-declared-preserved : goal.loop-declared-preserved
loop-declared-preserved c =
    let cells : c.push.new.self ≡ c.loop-declared.cells ++ c.in_ok-cell.cell ∷ [] = search rules in
    record {
      reads = λ ds end r. rw cells
          (one_more_cell _ _ _ _ _ _ c.loop-declared.invariant.reads c.in-Some.ensures.some c.in_ok-cell.ensures.ok ds end r);
      passes = λ below. c.loop-declared.invariant.passes below ∙ passes_one_cell _ _ _ _ c.in-Some.ensures.some c.in_ok-cell.ensures.ok
          below;
    }

pub returns-in_err-cell-clause-err : goal.returns-in_err-cell-clause-err
returns-in_err-cell-clause-err c =
    let p = err_from_is_err_and c.from_residual.result c.from_residual.ensures.1 in
    rw (p.1, p.2) (fault_cell _ _ _ c.loop-declared.invariant.passes c.in-Some.ensures.some _ c.in_err-cell.ensures.err)

pub returns-clause-ok : goal.returns-clause-ok
returns-clause-ok c = cells_read _ _ _ c.loop-declared.invariant.reads c.in_default.ensures.none
