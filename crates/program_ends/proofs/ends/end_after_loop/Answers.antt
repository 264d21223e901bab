use Rattle.std.proofs.Common.{◌∙◌, ◌≤◌, ◌^◌, ap, sym, subst, All, length}
use Rattle.std.proofs.lemmas.Result.{IfOk-weaker}
use Rattle.std.specs.Prelude.{◌<◌}
use Rattle.pipe_model.specs.declared.column.Column.{Column}
use Rattle.pipe_model.specs.Language.SyntaxTree.{tree_of}
use Rattle.program_ends.proofs.RunColumns.{columns_are_small}
use Rattle.serial_elision.specs.ColumnTraps.{least_trap}
use Rattle.program_ends.proofs.ends.end_after_loop.Goals as goal

pub least_trap-trap-requires-clause-count : goal.least_trap-trap-requires-clause-count
least_trap-trap-requires-clause-count c =
    let accepted = c.requires.accepted in
    let run = c.requires.run in
    subst (λ l. length l ≤ 2 ^ 32) (sym (c.as_slice.ensures ∙ run.2.columns_are))
    (columns_are_small (tree_of c.args.prepared.now.checked.now) c.args.prepared.now.input.now run.0 run.1 accepted run.2.run).count

pub least_trap-trap-requires-clause-nonempty : goal.least_trap-trap-requires-clause-nonempty
least_trap-trap-requires-clause-nonempty c =
    let accepted = c.requires.accepted in
    let run = c.requires.run in
    subst (λ l. All (λ (column : Column). 0 < length column.nodes) l) (sym (c.as_slice.ensures ∙ run.2.columns_are))
    (columns_are_small (tree_of c.args.prepared.now.checked.now) c.args.prepared.now.input.now run.0 run.1 accepted run.2.run).some

pub least_trap-trap-requires-clause-bounded : goal.least_trap-trap-requires-clause-bounded
least_trap-trap-requires-clause-bounded c =
    let accepted = c.requires.accepted in
    let run = c.requires.run in
    subst (λ l. All (λ (column : Column). length column.nodes ≤ 2 ^ 32) l) (sym (c.as_slice.ensures ∙ run.2.columns_are))
    (columns_are_small (tree_of c.args.prepared.now.checked.now) c.args.prepared.now.input.now run.0 run.1 accepted run.2.run).bounded

pub end_with_trap-requires-clause-run : goal.end_with_trap-requires-clause-run
end_with_trap-requires-clause-run c =
    let run = c.requires.run in (run.0, run.1, c.args.columns.now, run.2)

pub returns : goal.returns
returns c = IfOk-weaker c.end_with_trap.result _ _
    (λ r ends limit events h. ends limit events c.args.columns.now h (c.least_trap-trap.ensures ∙ ap (least_trap 0) c.as_slice.ensures))
    c.end_with_trap.ensures
