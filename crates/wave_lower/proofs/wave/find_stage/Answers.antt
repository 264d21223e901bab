use Rattle.std.proofs.Common.{◌≡◌, rules, length}
use Rattle.std.proofs.lemmas.Result.{err_from_is_err_and}
use Rattle.pipe_model.specs.Language.SyntaxTree.{tree_of}
use Rattle.wave_lower.proofs.ProgramFlags.{body_begins, body_fits, few_cells, found_in_body, found_in_init, found_in_last, init_fits}
use Rattle.wave_lower.proofs.ProgramFlags.{last_fits}
use Rattle.wave_lower.proofs.ProgramFlags.{none_found}
use Rattle.wave_lower.proofs.wave.find_stage.Goals as goal

pub overflow_cast-next : goal.overflow_cast-next
overflow_cast-next c =
    let bounded = few_cells (tree_of c.args.program.now) c.requires.test c.requires.small in
    let counted : c.len-next.result ≡ length c.args.program.now.cells = c.len-next.ensures in
    search (rules, bounded, counted)

pub find_in_block-requires : goal.find_in_block-requires
find_in_block-requires c = init_fits (tree_of c.args.program.now) _ c.requires.test c.requires.small c.len-next.ensures

pub returns-in_err-body-clause-found : goal.returns-in_err-body-clause-found
returns-in_err-body-clause-found c =
    let p = err_from_is_err_and c.from_residual.result c.from_residual.ensures.1 in
    rw (p.1, p.2) (found_in_init (tree_of c.args.program.now) _ _ c.requires.test c.len-next.ensures c.in_err-body.ensures)

pub find_in_block-requires-2 : goal.find_in_block-requires-2
find_in_block-requires-2 c = body_fits
    (tree_of c.args.program.now) _ _ c.requires.test c.requires.small c.len-next.ensures c.in_ok-body.ensures

pub returns-in_err-last-clause-found : goal.returns-in_err-last-clause-found
returns-in_err-last-clause-found c =
    let p = err_from_is_err_and c.from_residual-in_err-last.result c.from_residual-in_err-last.ensures.1 in
    rw (p.1, p.2) (found_in_body
    (tree_of c.args.program.now) _ _ _ c.requires.test c.len-next.ensures c.in_ok-body.ensures c.in_err-last.ensures)

pub find_in_block-requires-3 : goal.find_in_block-requires-3
find_in_block-requires-3 c =
    last_fits (tree_of c.args.program.now) _ _ _ c.requires.test c.requires.small c.len-next.ensures c.in_ok-body.ensures
    c.in_ok-last.ensures

pub returns-in_err-find_in_block-clause-found : goal.returns-in_err-find_in_block-clause-found
returns-in_err-find_in_block-clause-found c =
    let p = err_from_is_err_and c.from_residual-in_err-find_in_block.result c.from_residual-in_err-find_in_block.ensures.1 in
    rw (p.1, p.2) (found_in_last
    (tree_of c.args.program.now) _ _ _ _ c.requires.test c.len-next.ensures c.in_ok-body.ensures c.in_ok-last.ensures
    c.in_err-find_in_block.ensures)

pub returns-clause-none : goal.returns-clause-none
returns-clause-none c =
    none_found (tree_of c.args.program.now) _ _ _ _ c.requires.test c.len-next.ensures c.in_ok-body.ensures c.in_ok-last.ensures
    c.in_ok-find_in_block.ensures

pub returns-clause-next : goal.returns-clause-next
returns-clause-next c = body_begins (tree_of c.args.program.now) _ _ c.requires.test c.len-next.ensures c.in_ok-body.ensures
