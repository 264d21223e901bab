use Rattle.std.proofs.Common.{rules, refl, w64}
use mir.Val.{SFits}
use Rattle.std.proofs.lemmas.Int.{to_z-of_z}
use Rattle.stage_interp.specs.Executions.{setting_for}
use Rattle.stage_interp.proofs.Accesses.{read_safe, read_ran, gave, here}
use Rattle.stage_interp.proofs.PureEffects.{possible_of}
use Rattle.stage_interp.proofs.execution.Execution.read_cell.Goals as goal

pub push_number-requires-clause-possible : goal.push_number-requires-clause-possible
push_number-requires-clause-possible g c = let fits : SFits w64 c.in-Some.v = search rules in
    simp to_z-of_z (possible_of _ _ _ (read_safe (setting_for c.args.code.now (g.M.Memory.served c.args.memory.now) c.args.input.now
    c.args.self.now) _ c.args.cell.0 _ _ c.in-Some.v c.requires.safe))

pub returns-in-None-clause-ran : goal.returns-in-None-clause-ran
returns-in-None-clause-ran g c = here (setting_for c.args.code.now (g.M.Memory.served c.args.memory.now) c.args.input.now c.args.self.now)
    _ _ _
    _ _ _ _ refl refl c.in-None.ensures.none refl

pub returns-in-Some-clause-ran : goal.returns-in-Some-clause-ran
returns-in-Some-clause-ran g c = let fits : SFits w64 c.in-Some.v = search rules in
    read_ran (setting_for c.args.code.now (g.M.Memory.served c.args.memory.now) c.args.input.now c.args.self.now) _ c.args.cell.0 _ _
    c.in-Some.v
    _ _ _ _ _ c.requires.safe c.in-Some.ensures.some (gave
    (setting_for c.args.code.now (g.M.Memory.served c.args.memory.now) c.args.input.now c.args.self.now) _ _ _ _ _ _
    (simp to_z-of_z at c.push_number.ensures.gives) c.push_number.ensures.keeps.left refl)
