use Rattle.std.proofs.Common.{rules, refl, w64}
use mir.Val.{SFits}
use Rattle.std.proofs.lemmas.Int.{to_z-of_z}
use Rattle.stage_interp.specs.Executions.{setting_for}
use Rattle.stage_interp.proofs.Accesses.{wrote_ran, here}
use Rattle.stage_interp.proofs.execution.Execution.write_cell.Goals as goal

pub returns-then-not-write-clause-ran : goal.returns-then-not-write-clause-ran
returns-then-not-write-clause-ran g c = let fits : SFits w64 c.args.v = search rules in
    simp to_z-of_z (here (setting_for c.args.code.now (g.M.Memory.served c.args.memory.now) c.args.input.now c.args.self.now) _ _ _ _ _ _ _
    refl
    refl c.if-not-write.ensures.no refl)

pub returns-clause-ran : goal.returns-clause-ran
returns-clause-ran g c = let fits : SFits w64 c.args.v = search rules in
    wrote_ran (setting_for c.args.code.now (g.M.Memory.served c.args.memory.now) c.args.input.now c.args.self.now) _ c.args.cell.0 c.args.v
    _ _ _
    _ _ _ _ c.requires.safe (simp to_z-of_z at c.if-not-write.ensures.yes)
    (here (setting_for c.args.code.now (g.M.Memory.served c.args.memory.now) c.args.input.now c.args.self.now) _ _ _ _ _ _ _ refl refl refl
    refl)
