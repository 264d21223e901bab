use Rattle.std.proofs.Common.{sym, subst}
use Rattle.stage_interp.specs.declared.pending.Pending.TheVariants as pendings
use Rattle.stage_interp.proofs.Running.{ended, begun, joined, served}
use Rattle.stage_interp.specs.Executions.{run_of, state_of, setting_for}
use Rattle.stage_interp.specs.RemainingBehaviour.{pending_of}
use Rattle.stage_interp.specs.TreeRuns.{IsPendingTree, RanTree}
use Rattle.stage_interp.proofs.execution.Execution.go_on.Goals as goal

pub returns-in-Some-clause-ran : goal.returns-in-Some-clause-ran
returns-in-Some-clause-ran g c = λ d h. ended c.args.code.now (g.M.Memory.served c.args.memory.now) c.args.input.now c.args.self.now
    c.serve.new.self d _ _ _ _ (pending_of (setting_for c.args.code.now (g.M.Memory.served c.args.memory.now) c.args.input.now
    c.args.self.now)
    (state_of c.args.self.now) c.args.self.now.pending) c.in-Some.end (let k = c.in-Some.ensures.keeps in
    record { depth = k.depth; slots = k.slots; iteration = k.iteration }) (begun
    (setting_for c.args.code.now (g.M.Memory.served c.args.memory.now) c.args.input.now c.args.self.now) _ d _ _ _ _ h.pending)
    c.in-Some.ensures.ran c.in-Some.ensures.counts h.within c.in-Some.ensures.still

pub run_on-requires-clause-before : goal.run_on-requires-clause-before
run_on-requires-clause-before g c =
    let s = served c.args.code.now (g.M.Memory.served c.args.memory.now) c.args.input.now c.args.self.now c.serve.new.self
    c.requires.before.0 _
    _ c.args.self.now.pending (let k = c.in_default.ensures.keeps in record { depth = k.depth; slots = k.slots; iteration = k.iteration })
    c.requires.before.1.pending c.in_default.ensures.ran c.in_default.ensures.counts in (
      s.rest,
      subst (λ k. IsPendingTree c.args.code.now k c.args.input.now (run_of c.serve.new.self) pendings.Nothing s.rest)
          (sym c.in_default.ensures.serves) s.within,
    )

pub returns-clause-ran : goal.returns-clause-ran
returns-clause-ran g c = λ d h. let s = served c.args.code.now (g.M.Memory.served c.args.memory.now) c.args.input.now c.args.self.now
    c.serve.new.self d _ _ c.args.self.now.pending (let k = c.in_default.ensures.keeps in
    record { depth = k.depth; slots = k.slots; iteration = k.iteration }) h.pending c.in_default.ensures.ran c.in_default.ensures.counts in
    joined c.args.code.now (g.M.Memory.served c.args.memory.now) c.args.input.now d _ _ _ _ c.serve.new.self c.run_on.new.self
    c.run_on.result s
    (subst (λ k. RanTree c.args.code.now k c.args.input.now s.rest c.serve.new.self.left
    (g.M.Memory.made c.serve.new.memory) (g.M.Memory.made c.run_on.new.memory) (run_of c.run_on.new.self) c.run_on.result)
    c.in_default.ensures.serves (c.run_on.ensures.ran _ (subst
    (λ k. IsPendingTree c.args.code.now k c.args.input.now (run_of c.serve.new.self) pendings.Nothing s.rest)
    (sym c.in_default.ensures.serves) s.within)))
