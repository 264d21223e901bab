use Rattle.std.proofs.Common.{rules, refl, sym, subst, w64}
use mir.Val.{SFits}
use Rattle.std.proofs.lemmas.Int.{to_z-of_z}
use Rattle.stage_code.specs.Instructions.{pushed}
use Rattle.stage_interp.specs.Executions.{state_of, setting_for, Safe}
use Rattle.stage_interp.proofs.Accesses.{read_safe, read_ran, gave, here}
use Rattle.stage_interp.proofs.PureEffects.{possible_of}
use Rattle.stage_interp.proofs.execution.Execution.read_more.Goals as goal

pub push_number-requires-clause-possible : goal.push_number-requires-clause-possible
push_number-requires-clause-possible g c = let fits : SFits w64 c.in-Some.v = search rules in let fits2 : SFits w64 c.more.result =
    search rules in simp to_z-of_z (possible_of (setting_for c.args.code.now (g.M.Memory.served c.args.memory.now) c.args.input.now
    c.args.self.now) _ _ (subst (λ x. Safe (setting_for c.args.code.now (g.M.Memory.served c.args.memory.now) c.args.input.now
    c.args.self.now)
    (pushed (setting_for c.args.code.now (g.M.Memory.served c.args.memory.now) c.args.input.now c.args.self.now) (state_of c.args.self.now)
    c.args.self.now.stack.items x) c.args.self.now.left) (sym (simp to_z-of_z at c.more.ensures))
    (read_safe (setting_for c.args.code.now (g.M.Memory.served c.args.memory.now) c.args.input.now c.args.self.now) 2 0 _ _ c.in-Some.v
    c.requires.safe)))

pub returns-in-None-clause-ran : goal.returns-in-None-clause-ran
returns-in-None-clause-ran g c = here (setting_for c.args.code.now (g.M.Memory.served c.args.memory.now) c.args.input.now c.args.self.now)
    _ _ _
    _ _ _ _ refl refl c.in-None.ensures.none refl

pub returns-in-Some-clause-ran : goal.returns-in-Some-clause-ran
returns-in-Some-clause-ran g c = let fits : SFits w64 c.in-Some.v = search rules in let fits2 : SFits w64 c.more.result = search rules in
    read_ran (setting_for c.args.code.now (g.M.Memory.served c.args.memory.now) c.args.input.now c.args.self.now) 2 0 _ _ c.in-Some.v _ _ _
    _ _
    c.requires.safe c.in-Some.ensures.some (gave (setting_for c.args.code.now (g.M.Memory.served c.args.memory.now) c.args.input.now
    c.args.self.now) _ _ _ _ _ _ (rw (simp to_z-of_z at c.more.ensures) at (simp to_z-of_z at c.push_number.ensures.gives))
    c.push_number.ensures.keeps.left refl)
