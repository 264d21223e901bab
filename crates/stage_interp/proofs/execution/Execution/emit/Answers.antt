use Rattle.std.proofs.Common.{rules, ◌+◌, refl, sym, ◌∙◌, w64}
use mir.Val.{SFits}
use Rattle.std.proofs.lemmas.Int.{to_z-of_z}
use Rattle.pipe_model.specs.declared.trap.Trap.TheVariants as traps
use Rattle.pipe_model.specs.Language.Programs.{natural}
use Rattle.pipe_model.specs.Language.Interaction.{Raise}
use Rattle.stage_code.specs.Instructions.{goes_to}
use Rattle.stage_interp.specs.Executions.{state_of, setting_for}
use Rattle.stage_interp.proofs.Accesses.{read_safe, read_ran, here, renamed, with_is, cells_there, safe_as, emit_limit, emit_more}
use Rattle.stage_interp.specs.declared.pending.Pending.TheVariants as pendings
use Rattle.stage_interp.specs.RemainingBehaviour.{pending_of}
use Rattle.stage_interp.proofs.PureEffects.{safe_over, comes_over}
use Rattle.stage_interp.proofs.execution.Execution.emit.Goals as goal

pub output-requires-clause-safe : goal.output-requires-clause-safe
output-requires-clause-safe g c = let fits : SFits w64 c.args.v = search rules in let fits2 : SFits w64 c.in-Some.n = search rules in
    simp to_z-of_z (safe_over c.args.code.now c.args.input.now c.args.self.now
    (λ p. pending_of p (state_of c.args.self.now) (pendings.Output c.args.v)) _ _ _ (sym c.in-Some.ensures.serves)
    (safe_as (setting_for c.args.code.now (g.M.Memory.served c.args.memory.now) c.args.input.now c.args.self.now) _ _ _
    (emit_more (natural c.args.code.now.limits.emits) c.in-Some.n c.args.v
    (goes_to (state_of c.args.self.now) (c.args.self.now.place + 1) c.args.self.now.stack.items)
    (sym (simp to_z-of_z at c.is_full.ensures) ∙ c.if-is_full.false)
    ∙ sym (with_is (setting_for c.args.code.now (g.M.Memory.served c.args.memory.now) c.args.input.now c.args.self.now) 2 _
    (cells_there (setting_for c.args.code.now (g.M.Memory.served c.args.memory.now) c.args.input.now c.args.self.now) 2 _ _
    c.requires.safe)))
    (read_safe (setting_for c.args.code.now (g.M.Memory.served c.args.memory.now) c.args.input.now c.args.self.now) 2 1 _ _ c.in-Some.n
    c.requires.safe)))

pub returns-in-None-clause-ran : goal.returns-in-None-clause-ran
returns-in-None-clause-ran g c = let fits : SFits w64 c.args.v = search rules in
    simp to_z-of_z (here (setting_for c.args.code.now (g.M.Memory.served c.args.memory.now) c.args.input.now c.args.self.now) _ _ _ _ _ _ _
    refl
    refl c.in-None.ensures.none refl)

pub returns-then-is_full-clause-ran : goal.returns-then-is_full-clause-ran
returns-then-is_full-clause-ran g c = let fits2 : SFits w64 c.in-Some.n = search rules in
    read_ran (setting_for c.args.code.now (g.M.Memory.served c.args.memory.now) c.args.input.now c.args.self.now) 2 1 _ _ c.in-Some.n _ _ _
    _ _
    c.requires.safe c.in-Some.ensures.some (here (setting_for c.args.code.now (g.M.Memory.served c.args.memory.now) c.args.input.now
    c.args.self.now) _ (Raise traps.OutputLimit) _ _ _ _ _ (emit_limit (natural c.args.code.now.limits.emits) c.in-Some.n c.args.v
    (goes_to (state_of c.args.self.now) (c.args.self.now.place + 1) c.args.self.now.stack.items)
    (sym (simp to_z-of_z at c.is_full.ensures) ∙ c.if-is_full.true)) refl refl refl)

pub returns-else-is_full-clause-ran : goal.returns-else-is_full-clause-ran
returns-else-is_full-clause-ran g c = let fits : SFits w64 c.args.v = search rules in let fits2 : SFits w64 c.in-Some.n = search rules in
    read_ran (setting_for c.args.code.now (g.M.Memory.served c.args.memory.now) c.args.input.now c.args.self.now) 2 1 _ _ c.in-Some.n _ _ _
    _ _
    c.requires.safe c.in-Some.ensures.some (renamed (setting_for c.args.code.now (g.M.Memory.served c.args.memory.now) c.args.input.now
    c.args.self.now) _ _ _ _ _ _ _ (emit_more (natural c.args.code.now.limits.emits) c.in-Some.n c.args.v
    (goes_to (state_of c.args.self.now) (c.args.self.now.place + 1) c.args.self.now.stack.items)
    (sym (simp to_z-of_z at c.is_full.ensures) ∙ c.if-is_full.false)
    ∙ sym (with_is (setting_for c.args.code.now (g.M.Memory.served c.args.memory.now) c.args.input.now c.args.self.now) 2 _
    (cells_there (setting_for c.args.code.now (g.M.Memory.served c.args.memory.now) c.args.input.now c.args.self.now) 2 _ _
    c.requires.safe)))
    (comes_over c.args.code.now c.args.input.now c.args.self.now _
    (λ p. pending_of p (state_of c.args.self.now) (pendings.Output c.args.v)) _ _
    _ _ _ _ c.in-Some.ensures.serves (simp to_z-of_z at c.output.ensures.ran)))
