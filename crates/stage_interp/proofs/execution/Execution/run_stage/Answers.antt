use Rattle.std.proofs.Common.{◌∙◌, rules, w64}
use mir.Val.{SFits}
use Rattle.std.proofs.lemmas.Int.{to_z-of_z}
use Rattle.stage_interp.proofs.Running.{few_steps}
use Rattle.stage_interp.proofs.execution.Execution.run_stage.Goals as goal

pub returns-clause-bounded : goal.returns-clause-bounded
returns-clause-bounded g c = let fits : SFits w64 c.limits.result.steps = search rules in
    few_steps _ _ c.limits.ensures.in_range (c.run_on.ensures.down.budget ∙ (simp to_z-of_z at c.natural-self.ensures))
