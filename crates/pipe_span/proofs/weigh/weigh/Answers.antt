use Rattle.std.proofs.Common.{◌≡◌, ◌∙◌, [], ap, pos, map, sym, true, false}
use Rattle.std.specs.Prelude.{is_some}
use Rattle.pipe_model.specs.Language.ProgramsOfTrees.{whole_of}
use Rattle.pipe_model.specs.Language.SyntaxTree.{tree_of}
use Rattle.pipe_model.specs.Pipelines.ElisionResults.{ended_column}
use Rattle.pipe_model.specs.Pipelines.SerialElision.{serial_traces, unless}
use Rattle.pipe_model.specs.Pipelines.WholePrograms.{init_accesses, init_trap, loop_after_init, loop_traces}
use Rattle.serial_elision.specs.ElisionSteps.{steps_from}
use Rattle.pipe_span.proofs.ElisionWeights.{can_be_weighed}
use Rattle.pipe_span.proofs.weigh.weigh.Goals as goal

pub returns-then-is_some : goal.returns-then-is_some
returns-then-is_some c =
    let tree = tree_of c.args.checked.now in
    let input = c.args.input.now in
    let w = whole_of tree input in
    let trap : c.in_ok-init.init.trap ≡ init_trap w = c.in_ok-init.ensures.trap [] c.in_ok-cells.ensures.state in
    let some : is_some (init_trap w) ≡ true = ap is_some (sym trap) ∙ sym c.is_some.ensures ∙ c.if-is_some.true in
    let none : loop_traces w ≡ [] = ap (λ b. unless b (serial_traces (loop_after_init w))) some in
    let columns = c.new-then-is_some.ensures ∙ ap (map ended_column) (sym none) in
    let steps = c.new-then-is_some-2.ensures ∙ ap (λ l. map pos (steps_from tree input 0 (init_accesses w) l)) (sym none) in
    let can = can_be_weighed tree c.args.code.now input c.limits-limits.result _ _ c.requires.code c.limits-limits.ensures.limits
    c.limits-limits.ensures.in_range columns steps in
    record {
      elision = columns;
      counted = steps;
      columns = can.full;
      rising = can.rising;
      whole = can.whole;
      bounded = can.bounded;
      steps =
          can.each;
    }

pub returns : goal.returns
returns c =
    let tree = tree_of c.args.checked.now in
    let input = c.args.input.now in
    let w = whole_of tree input in
    let trap : c.in_ok-init.init.trap ≡ init_trap w = c.in_ok-init.ensures.trap [] c.in_ok-cells.ensures.state in
    let free : is_some (init_trap w) ≡ false = ap is_some (sym trap) ∙ sym c.is_some.ensures ∙ c.if-is_some.false in
    let all : loop_traces w ≡ serial_traces (loop_after_init w) = ap (λ b. unless b (serial_traces (loop_after_init w))) free in
    let columns = c.in_ok-run.ensures.ran.columns_are ∙ ap (map ended_column) (sym all) in
    let steps = c.in_ok-run.ensures.steps ∙ ap (λ l. map pos (steps_from tree input 0 (init_accesses w) l)) (sym all) in
    let can = can_be_weighed tree c.args.code.now input c.limits-limits.result _ _ c.requires.code c.limits-limits.ensures.limits
    c.limits-limits.ensures.in_range columns steps in
    record {
      elision = columns;
      counted = steps;
      columns = can.full;
      rising = can.rising;
      whole = can.whole;
      bounded = can.bounded;
      steps =
          can.each;
    }

pub run_loop-requires : goal.run_loop-requires
run_loop-requires c =
    let init = c.in_ok-init.ensures in
    record {
      code = c.requires.code;
      made = init.made;
      serves = init.serves;
      state = init.state [] c.in_ok-cells.ensures.state;
    }

pub run_alone-requires-clause-code : goal.run_alone-requires-clause-code
run_alone-requires-clause-code c = c.requires.code

pub run_alone-requires-clause-made : goal.run_alone-requires-clause-made
run_alone-requires-clause-made c = c.in_ok-machine.ensures.made

pub run_alone-requires-clause-serves : goal.run_alone-requires-clause-serves
run_alone-requires-clause-serves c = c.in_ok-cells.ensures.serves
