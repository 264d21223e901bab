use Rattle.std.proofs.Common.{◌∙◌, ◌++◌, ap, subst, sym}
use Rattle.cell_store.specs.ShardState.{IsStateAfter}
use Rattle.pipe_model.specs.Language.Programs.{store_of}
use Rattle.pipe_model.specs.Language.SyntaxTree.{tree_of}
use Rattle.pipe_model.specs.Pipelines.SerialElision.{located, serial_trace}
use Rattle.pipe_model.specs.Runs.State.{accesses_of}
use Rattle.run_laws.proofs.Iterations.LocatedActions.{accesses_of-located}
use Rattle.serial_elision.specs.declared.log.Log.{Log}
use Rattle.stage_interp.specs.RemainingBehaviour.{behaviour_in}
use Rattle.serial_elision.proofs.outer_parts.run_alone.Goals as goal

pub returns-clause-accesses : goal.returns-clause-accesses
returns-clause-accesses c = λ before state.
    let tree = tree_of c.args.prepared.now.checked.now in
    let trace = serial_trace (store_of tree) (behaviour_in tree c.args.prepared.now.input.now c.args.part 0) before in
    let begun = subst (λ (l : Log). IsStateAfter (store_of tree) before l.cells) (sym c.new-log.ensures) state in
    let made = (c.in_ok-column.ensures.ran before begun).accesses_are ∙ ap (λ (l : Log). l.accesses ++ located 0 0 trace) c.new-log.ensures
    in
    c.in_ok-plain_accesses.ensures ∙ ap accesses_of made ∙ accesses_of-located 0 0 trace

pub returns-clause-made : goal.returns-clause-made
returns-clause-made c = c.in_ok-column.ensures.made c.args.prepared.now.code.now c.requires.made
