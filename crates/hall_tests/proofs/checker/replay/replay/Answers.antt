use Rattle.std.proofs.Common.{ℕ, subst, sym}
use Rattle.stage_interp.specs.RemainingBehaviour.{Represents}
use Rattle.hall_tests.proofs.NamedStages.{at_next_stage}
use Rattle.hall_tests.proofs.checker.replay.replay.Goals as goal

pub returns : goal.returns
returns c = λ names.
    let code = c.args.code.now in
    let input = c.args.input.now in
    let cells = c.new-memory.ensures.cells in
    let before = c.requires.before in
    let represents = subst (λ (n : ℕ). Represents code n input c.args.machine.now.run before.0) (sym cells) before.1 in
    let ran = c.run_stage-end.ensures.ran before.0 represents in
    let next = at_next_stage code c.new-memory.result.cells input c.run_stage-end.result c.run_stage-end.new.self.run _ ran.ends_as names in
    (next.0, subst (λ (n : ℕ). Represents code n input c.run_stage-end.new.self.run next.0) cells next.1)
