use Rattle.std.proofs.Common.{rules, ◌+◌, List, refl, ap, ◌∙◌, w64, ℤ}
use mir.Val.{SFits}
use Rattle.std.proofs.lemmas.Int.{to_z-of_z}
use Rattle.pipe_model.specs.Language.Evaluation.{element_in}
use Rattle.pipe_model.specs.Language.Interaction.{Raise, Set, bind}
use Rattle.stage_code.specs.Instructions.{goes_to, write_effect, with_stack}
use Rattle.stage_interp.specs.Executions.{state_of, setting_for}
use Rattle.stage_interp.proofs.Accesses.{here, safe_as, index_room, two_is}
use Rattle.stage_interp.proofs.execution.Execution.write_at.Goals as goal

pub element-requires : goal.element-requires
element-requires g c = let fi : SFits w64 c.pop-i.result = search rules in
    simp to_z-of_z (index_room (setting_for c.args.code.now (g.M.Memory.served c.args.memory.now) c.args.input.now c.args.self.now)
    c.args.first.0 c.args.size c.pop-i.result (λ a. Set a c.pop-v.result
    (goes_to (state_of c.args.self.now) (c.args.self.now.place + 1) c.pop-i.new.self.items)) _ c.requires.bounded
    (safe_as (setting_for c.args.code.now (g.M.Memory.served c.args.memory.now) c.args.input.now c.args.self.now) _ _ _
    (two_is c.args.self.now.stack.items c.pop-v.new.self.items c.pop-v.result c.pop-i.result c.pop-i.new.self.items
    (λ (i v : ℤ) (rest : List ℤ). bind (element_in c.args.first.0 c.args.size i)
    (write_effect (setting_for c.args.code.now (g.M.Memory.served c.args.memory.now) c.args.input.now c.args.self.now)
    (with_stack (state_of c.args.self.now) rest) v)) c.pop-v.ensures.items c.pop-i.ensures.items) c.requires.safe))

pub returns-in-Err-clause-ran : goal.returns-in-Err-clause-ran
returns-in-Err-clause-ran g c = let fi : SFits w64 c.pop-i.result = search rules in
    here (setting_for c.args.code.now (g.M.Memory.served c.args.memory.now) c.args.input.now c.args.self.now) _
    (Raise c.in-Err.trap) _ _ _ _ _
    (two_is c.args.self.now.stack.items c.pop-v.new.self.items c.pop-v.result c.pop-i.result c.pop-i.new.self.items
    (λ (i v : ℤ) (rest : List ℤ). bind (element_in c.args.first.0 c.args.size i)
    (write_effect (setting_for c.args.code.now (g.M.Memory.served c.args.memory.now) c.args.input.now c.args.self.now)
    (with_stack (state_of c.args.self.now) rest) v)) c.pop-v.ensures.items c.pop-i.ensures.items
    ∙ ap (λ d. bind d (write_effect (setting_for c.args.code.now (g.M.Memory.served c.args.memory.now) c.args.input.now c.args.self.now)
    (with_stack (state_of c.args.self.now) c.pop-i.new.self.items) c.pop-v.result)) (simp to_z-of_z at c.in-Err.ensures)) refl refl refl
