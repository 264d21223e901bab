use Rattle.std.proofs.Common.{arith, length}
use Rattle.pipe_model.specs.Language.SyntaxTree.{tree_of}
use Rattle.stage_code.specs.declared.instr.Part.TheVariants as parts
use Rattle.stage_interp.specs.RemainingBehaviour.{behaviour_in}
use Rattle.language_tests.proofs.stopped_instances.first_instance.Goals as goal

pub end_after_stop-end-requires-clause-before : goal.end_after_stop-end-requires-clause-before
end_after_stop-end-requires-clause-before c =
    let tree = tree_of c.args.checked.now in (
      behaviour_in tree c.new-input.result parts.Pipe 0,
      c.reset.ensures.represents tree c.in_ok-code.code (length c.in_ok-memory.memory.values.items) c.new-input.result
          (record { accepted = c.requires.accepted; limits = c.in_ok-code.ensures.limits; runs = c.in_ok-code.ensures.runs })
          c.in_ok-machine.ensures.made
          (omega (arith, c.cell_count.ensures.count, c.in_ok-memory.ensures)),
    )
