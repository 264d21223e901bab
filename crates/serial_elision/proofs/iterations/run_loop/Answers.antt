use Rattle.std.proofs.Common.{◌≡◌, ◌∙◌, ◌+◌, ◌-◌, ap, refl, sym, subst, suc, zero, None, arith, true, false}
use Rattle.cell_store.specs.ShardState.{IsStateAfter}
use Rattle.pipe_model.specs.declared.tree.Limits.{Limits}
use Rattle.pipe_model.specs.Language.Programs.{natural}
use Rattle.pipe_model.specs.Language.ProgramsOfTrees.{whole_of}
use Rattle.pipe_model.specs.Language.SyntaxTree.{tree_of}
use Rattle.pipe_model.specs.Pipelines.WholePrograms.{loop_after_init}
use Rattle.serial_elision.specs.declared.log.Log.{Log}
use Rattle.serial_elision.specs.PartRuns.{Serves}
use Rattle.serial_elision.proofs.Elided.{Elided, StepsSoFar, elided_all, elided_none, elided_push, steps_all, steps_none, steps_push}
use Rattle.serial_elision.proofs.iterations.run_loop.Goals as goal

pub loop-iteration-init : goal.loop-iteration-init
loop-iteration-init c =
    let tree = tree_of c.args.prepared.now.checked.now in
    let p = loop_after_init (whole_of tree c.args.prepared.now.input.now) in
    let log = c.new-log.result in
    let begun = c.new-log.ensures in
    let limit : c.last_iteration-last.result ≡ natural tree.limits.iterations = c.last_iteration-last.ensures.limit
    ∙ ap (λ (l : Limits). natural l.iterations) c.requires.code.limits in
    let all : p.last_iteration + 1 ≡ c.last_iteration-last.result + 1 - 0 = omega (arith, limit) in
    record {
      elided = subst (λ n. Elided p n 0 c.new-columns.result None log) all (subst (λ l. Elided p (p.last_iteration + 1) 0 l None log)
          (sym c.new-columns.ensures)
          (elided_none p log (ap (λ (l : Log). l.accesses) begun)
          (subst (λ (l : Log). IsStateAfter p.store p.preamble l.cells) (sym begun) c.requires.state)));
      counted = subst (λ n. StepsSoFar tree c.args.prepared.now.input.now p n 0 log c.new-steps.result) all
          (subst (λ l. StepsSoFar tree c.args.prepared.now.input.now p (p.last_iteration + 1) 0 log l) (sym c.new-steps.ensures)
          (steps_none tree c.args.prepared.now.input.now p log (ap (λ (l : Log). l.accesses) begun)));
      made = c.requires.made;
      serves = subst (λ (l : Log). Serves tree l.cells) (sym begun) c.requires.serves;
    }

pub loop-iteration-preserved : goal.loop-iteration-preserved
loop-iteration-preserved c =
    let s = c.loop-iteration in
    let tree = tree_of c.args.prepared.now.checked.now in
    let input = c.args.prepared.now.input.now in
    let p = loop_after_init (whole_of tree input) in
    let last = c.last_iteration-last.result in
    let rest = last + 1 - (s.iteration + 1) in
    let more : last + 1 - s.iteration ≡ suc rest = omega (arith, c.loop-iteration-test.true) in
    let was = subst (λ n. Elided p n s.iteration s.columns s.trap s.log) more s.invariant.elided in
    record {
      elided = elided_push p rest rest s.iteration s.columns c.push.new.self s.trap c.column_trap.result c.or-trap.result s.log
          c.in_ok-column.ran c.in_ok-column.column c.column_closes-closes.result
          was (c.in_ok-column.ensures.ran _ s.invariant.elided.cells) c.column_closes-closes.ensures
          (λ h. absurd (let e : false ≡ true = sym c.if-closes.false ∙ h in cc (e))) (λ h. refl)
          c.in_ok-push.ensures.ok c.or-trap.ensures c.column_trap.ensures;
      counted = steps_push tree input p rest rest s.iteration s.log c.in_ok-column.ran c.in_ok-column.column c.column_closes-closes.result
          s.steps
          c.run_part.new.steps (subst (λ n. StepsSoFar tree input p n s.iteration s.log s.steps) more s.invariant.counted)
          (c.in_ok-column.ensures.ran _ s.invariant.elided.cells) c.column_closes-closes.ensures
          (λ h. absurd (let e : false ≡ true = sym c.if-closes.false ∙ h in cc (e))) (λ h. refl)
          (c.in_ok-column.ensures.steps _ s.invariant.elided.cells);
      made = c.in_ok-column.ensures.made c.args.prepared.now.code.now s.invariant.made;
      serves = c.in_ok-column.ensures.serves;
    }

pub returns-then-closes-clause-ran : goal.returns-then-closes-clause-ran
returns-then-closes-clause-ran c =
    let s = c.loop-iteration in
    let tree = tree_of c.args.prepared.now.checked.now in
    let input = c.args.prepared.now.input.now in
    let p = loop_after_init (whole_of tree input) in
    let last = c.last_iteration-last.result in
    let more : last + 1 - s.iteration ≡ suc (last - s.iteration) = omega (arith, c.loop-iteration-test.true) in
    let was = subst (λ n. Elided p n s.iteration s.columns s.trap s.log) more s.invariant.elided in
    elided_all p (s.iteration + 1) c.push.new.self c.run_part.new.steps c.or-trap.result c.in_ok-column.ran
    (elided_push p (last - s.iteration) zero s.iteration s.columns c.push.new.self s.trap c.column_trap.result c.or-trap.result s.log
    c.in_ok-column.ran c.in_ok-column.column c.column_closes-closes.result
    was (c.in_ok-column.ensures.ran _ s.invariant.elided.cells) c.column_closes-closes.ensures (λ h. refl)
    (λ h. absurd (let e : true ≡ false = sym c.if-closes.true ∙ h in cc (e)))
    c.in_ok-push.ensures.ok c.or-trap.ensures c.column_trap.ensures)

pub returns-then-closes-clause-made : goal.returns-then-closes-clause-made
returns-then-closes-clause-made c = c.in_ok-column.ensures.made c.args.prepared.now.code.now c.loop-iteration.invariant.made

pub returns-clause-ran : goal.returns-clause-ran
returns-clause-ran c =
    let s = c.loop-iteration in
    let tree = tree_of c.args.prepared.now.checked.now in
    let input = c.args.prepared.now.input.now in
    let p = loop_after_init (whole_of tree input) in
    let none : c.last_iteration-last.result + 1 - s.iteration ≡ zero = omega (arith, c.loop-iteration-test.false) in
    elided_all p s.iteration s.columns s.steps s.trap s.log
    (subst (λ n. Elided p n s.iteration s.columns s.trap s.log) none s.invariant.elided)

pub returns-then-closes-clause-steps : goal.returns-then-closes-clause-steps
returns-then-closes-clause-steps c =
    let s = c.loop-iteration in
    let tree = tree_of c.args.prepared.now.checked.now in
    let input = c.args.prepared.now.input.now in
    let p = loop_after_init (whole_of tree input) in
    let last = c.last_iteration-last.result in
    let more : last + 1 - s.iteration ≡ suc (last - s.iteration) = omega (arith, c.loop-iteration-test.true) in
    steps_all tree input p (s.iteration + 1) c.in_ok-column.ran c.run_part.new.steps
    (steps_push tree input p (last - s.iteration) zero s.iteration s.log c.in_ok-column.ran c.in_ok-column.column
    c.column_closes-closes.result
    s.steps c.run_part.new.steps (subst (λ n. StepsSoFar tree input p n s.iteration s.log s.steps) more s.invariant.counted)
    (c.in_ok-column.ensures.ran _ s.invariant.elided.cells) c.column_closes-closes.ensures (λ h. refl)
    (λ h. absurd (let e : true ≡ false = sym c.if-closes.true ∙ h in cc (e)))
    (c.in_ok-column.ensures.steps _ s.invariant.elided.cells))

pub returns-clause-steps : goal.returns-clause-steps
returns-clause-steps c =
    let s = c.loop-iteration in
    let tree = tree_of c.args.prepared.now.checked.now in
    let input = c.args.prepared.now.input.now in
    let p = loop_after_init (whole_of tree input) in
    let none : c.last_iteration-last.result + 1 - s.iteration ≡ zero = omega (arith, c.loop-iteration-test.false) in
    steps_all tree input p s.iteration s.log s.steps (subst (λ n. StepsSoFar tree input p n s.iteration s.log s.steps) none
    s.invariant.counted)
