use Rattle.std.proofs.Common.{rules, refl, w64}
use mir.Val.{SFits}
use Rattle.std.proofs.lemmas.Int.{to_z-of_z}
use Rattle.stage_interp.specs.Executions.{setting_for}
use Rattle.stage_interp.proofs.Accesses.{wrote_safe, wrote_ran, gave, here}
use Rattle.stage_interp.proofs.PureEffects.{possible_of}
use Rattle.stage_interp.proofs.execution.Execution.advance.Goals as goal

pub returns-then-not-write-clause-ran : goal.returns-then-not-write-clause-ran
returns-then-not-write-clause-ran g c = let fits : SFits w64 c.args.v = search rules in let fits2 : SFits w64 c.args.next = search rules in
    simp to_z-of_z (here (setting_for c.args.code.now (g.M.Memory.served c.args.memory.now) c.args.input.now c.args.self.now) _ _ _ _ _ _ _
    refl
    refl c.if-not-write.ensures.no refl)

pub push_number-requires-clause-possible : goal.push_number-requires-clause-possible
push_number-requires-clause-possible g c = let fits : SFits w64 c.args.v = search rules in
    simp to_z-of_z (possible_of _ _ _ (wrote_safe (setting_for c.args.code.now (g.M.Memory.served c.args.memory.now) c.args.input.now
    c.args.self.now) 2 0 c.args.next _ _ c.requires.safe))

pub returns-clause-ran : goal.returns-clause-ran
returns-clause-ran g c = let fits : SFits w64 c.args.v = search rules in let fits2 : SFits w64 c.args.next = search rules in
    wrote_ran (setting_for c.args.code.now (g.M.Memory.served c.args.memory.now) c.args.input.now c.args.self.now) 2 0 c.args.next _ _ _ _
    _ _ _
    c.requires.safe (simp to_z-of_z at c.if-not-write.ensures.yes) (gave
    (setting_for c.args.code.now (g.M.Memory.served c.args.memory.now) c.args.input.now c.args.self.now) _ _ _ _ _ _
    (simp to_z-of_z at c.push_number.ensures.gives) c.push_number.ensures.keeps.left refl)
