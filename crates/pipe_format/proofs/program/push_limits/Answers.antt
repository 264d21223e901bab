use Rattle.std.proofs.Common.{rules, w64}
use mir.Val.{SFits}
use Rattle.std.proofs.lemmas.Int.{to_z-of_z}
use Rattle.pipe_format.proofs.Parts.{limits_by_parts}
use Rattle.pipe_format.proofs.program.push_limits.Goals as goal

pub returns : goal.returns
returns c =
    let iterations : SFits w64 c.args.limits.now.iterations = search rules in
    let stages : SFits w64 c.args.limits.now.stages = search rules in
    let steps : SFits w64 c.args.limits.now.steps = search rules in
    let emits : SFits w64 c.args.limits.now.emits = search rules in
    limits_by_parts c.args.limits.now c.args.text.now.items c.push_field.new.text.items c.push_field-2.new.text.items
    c.push_field-3.new.text.items
    c.push_field-4.new.text.items _
    (simp to_z-of_z at c.in_ok-push_field.ensures) (simp to_z-of_z at c.in_ok-push_field-2.ensures)
    (simp to_z-of_z at c.in_ok-push_field-3.ensures)
    (simp to_z-of_z at c.in_ok-push_field-4.ensures) c.in_ok-extend_from_slice.ensures.items
