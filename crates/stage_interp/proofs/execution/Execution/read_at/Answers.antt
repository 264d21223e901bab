use Rattle.std.proofs.Common.{rules, List, refl, ap, ◌∙◌, w64, ℤ}
use mir.Val.{SFits}
use Rattle.std.proofs.lemmas.Int.{to_z-of_z}
use Rattle.pipe_model.specs.Language.Evaluation.{element_in}
use Rattle.pipe_model.specs.Language.Interaction.{Raise, Get, bind}
use Rattle.stage_code.specs.Instructions.{pushed, read_effect, with_stack}
use Rattle.stage_interp.specs.Executions.{state_of, setting_for}
use Rattle.stage_interp.proofs.Accesses.{here, safe_as, index_room, top_is}
use Rattle.stage_interp.proofs.execution.Execution.read_at.Goals as goal

pub element-requires : goal.element-requires
element-requires g c = let fi : SFits w64 c.pop-i.result = search rules in
    simp to_z-of_z (index_room (setting_for c.args.code.now (g.M.Memory.served c.args.memory.now) c.args.input.now c.args.self.now)
    c.args.first.0 c.args.size c.pop-i.result (λ a. Get a
    (pushed (setting_for c.args.code.now (g.M.Memory.served c.args.memory.now) c.args.input.now c.args.self.now)
    (with_stack (state_of c.args.self.now) c.pop-i.new.self.items) c.pop-i.new.self.items)) _ c.requires.bounded
    (safe_as (setting_for c.args.code.now (g.M.Memory.served c.args.memory.now) c.args.input.now c.args.self.now) _ _ _
    (top_is c.args.self.now.stack.items c.pop-i.result c.pop-i.new.self.items
    (λ (i : ℤ) (rest : List ℤ). bind (element_in c.args.first.0 c.args.size i)
    (read_effect (setting_for c.args.code.now (g.M.Memory.served c.args.memory.now) c.args.input.now c.args.self.now)
    (with_stack (state_of c.args.self.now) rest))) c.pop-i.ensures.items) c.requires.safe))

pub returns-in-Err-clause-ran : goal.returns-in-Err-clause-ran
returns-in-Err-clause-ran g c = let fi : SFits w64 c.pop-i.result = search rules in
    here (setting_for c.args.code.now (g.M.Memory.served c.args.memory.now) c.args.input.now c.args.self.now) _
    (Raise c.in-Err.trap) _ _ _ _ _
    (top_is c.args.self.now.stack.items c.pop-i.result c.pop-i.new.self.items
    (λ (i : ℤ) (rest : List ℤ). bind (element_in c.args.first.0 c.args.size i)
    (read_effect (setting_for c.args.code.now (g.M.Memory.served c.args.memory.now) c.args.input.now c.args.self.now)
    (with_stack (state_of c.args.self.now) rest))) c.pop-i.ensures.items
    ∙ ap (λ d. bind d (read_effect (setting_for c.args.code.now (g.M.Memory.served c.args.memory.now) c.args.input.now c.args.self.now)
    (with_stack (state_of c.args.self.now) c.pop-i.new.self.items))) (simp to_z-of_z at c.in-Err.ensures)) refl refl refl
