use Rattle.std.proofs.Common.{rules, refl, sym, ap, ◌∙◌, w64}
use mir.Val.{SFits}
use Rattle.std.proofs.lemmas.Int.{to_z-of_z}
use Rattle.pipe_model.specs.Language.Interaction.{Raise, bind}
use Rattle.stage_code.specs.Instructions.{pushed}
use Rattle.stage_interp.specs.Executions.{state_of, setting_for}
use Rattle.stage_interp.proofs.Accesses.{read_safe, read_ran, here, renamed, with_is, cells_there, safe_as}
use Rattle.stage_interp.specs.declared.pending.Pending.TheVariants as pendings
use Rattle.stage_interp.specs.RemainingBehaviour.{pending_of}
use Rattle.stage_interp.proofs.PureEffects.{safe_over, comes_over}
use Rattle.stage_interp.proofs.execution.Execution.read_take.Goals as goal

pub advance-requires-clause-safe : goal.advance-requires-clause-safe
advance-requires-clause-safe g c = let fits : SFits w64 c.in-Some.v = search rules in let fa : SFits w64 c.in-Ok.next = search rules in
    let fb : SFits w64 c.in-Ok.n = search rules in simp to_z-of_z (safe_over c.args.code.now c.args.input.now c.args.self.now
    (λ p. pending_of p (state_of c.args.self.now) (pendings.Advance c.in-Ok.next c.in-Ok.n)) _ _ _ (sym c.in-Some.ensures.serves)
    (safe_as (setting_for c.args.code.now (g.M.Memory.served c.args.memory.now) c.args.input.now c.args.self.now) _ _ _
    (ap (λ d. bind d (pushed (setting_for c.args.code.now (g.M.Memory.served c.args.memory.now) c.args.input.now c.args.self.now)
    (state_of c.args.self.now) c.args.self.now.stack.items)) (simp to_z-of_z at c.in-Ok.ensures)
    ∙ sym (with_is (setting_for c.args.code.now (g.M.Memory.served c.args.memory.now) c.args.input.now c.args.self.now) 2 _
    (cells_there (setting_for c.args.code.now (g.M.Memory.served c.args.memory.now) c.args.input.now c.args.self.now) 2 _ _
    c.requires.safe)))
    (read_safe (setting_for c.args.code.now (g.M.Memory.served c.args.memory.now) c.args.input.now c.args.self.now) 2 0 _ _ c.in-Some.v
    c.requires.safe)))

pub returns-in-None-clause-ran : goal.returns-in-None-clause-ran
returns-in-None-clause-ran g c = here (setting_for c.args.code.now (g.M.Memory.served c.args.memory.now) c.args.input.now c.args.self.now)
    _ _ _
    _ _ _ _ refl refl c.in-None.ensures.none refl

pub returns-in-Err-clause-ran : goal.returns-in-Err-clause-ran
returns-in-Err-clause-ran g c = let fv : SFits w64 c.in-Some.v = search rules in
    read_ran (setting_for c.args.code.now (g.M.Memory.served c.args.memory.now) c.args.input.now c.args.self.now) 2 0 _ _ c.in-Some.v _ _ _
    _ _
    c.requires.safe c.in-Some.ensures.some (here (setting_for c.args.code.now (g.M.Memory.served c.args.memory.now) c.args.input.now
    c.args.self.now) _ (Raise c.in-Err.trap) _ _ _ _ _ (ap
    (λ d. bind d (pushed (setting_for c.args.code.now (g.M.Memory.served c.args.memory.now) c.args.input.now c.args.self.now)
    (state_of c.args.self.now) c.args.self.now.stack.items)) (simp to_z-of_z at c.in-Err.ensures)) refl refl refl)

pub returns-in-Ok-clause-ran : goal.returns-in-Ok-clause-ran
returns-in-Ok-clause-ran g c = let fv : SFits w64 c.in-Some.v = search rules in let fa : SFits w64 c.in-Ok.next = search rules in
    let fb : SFits w64 c.in-Ok.n = search rules in read_ran
    (setting_for c.args.code.now (g.M.Memory.served c.args.memory.now) c.args.input.now
    c.args.self.now) 2 0 _ _ c.in-Some.v _ _ _ _ _ c.requires.safe c.in-Some.ensures.some
    (renamed (setting_for c.args.code.now (g.M.Memory.served c.args.memory.now) c.args.input.now c.args.self.now) _ _ _ _ _ _ _
    (ap (λ d. bind d (pushed (setting_for c.args.code.now (g.M.Memory.served c.args.memory.now) c.args.input.now c.args.self.now)
    (state_of c.args.self.now) c.args.self.now.stack.items)) (simp to_z-of_z at c.in-Ok.ensures)
    ∙ sym (with_is (setting_for c.args.code.now (g.M.Memory.served c.args.memory.now) c.args.input.now c.args.self.now) 2 _
    (cells_there (setting_for c.args.code.now (g.M.Memory.served c.args.memory.now) c.args.input.now c.args.self.now) 2 _ _
    c.requires.safe)))
    (comes_over c.args.code.now c.args.input.now c.args.self.now _ (λ p. pending_of p (state_of c.args.self.now)
    (pendings.Advance c.in-Ok.next c.in-Ok.n)) _ _ _ _ _ _ c.in-Some.ensures.serves (simp to_z-of_z at c.advance.ensures.ran)))
