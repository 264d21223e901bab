use Rattle.std.proofs.Common.{◌≡◌, rules, length, vec_len}
use Rattle.pipe_format.proofs.Lines.{on_ok, has_some}
use Rattle.pipe_format.proofs.Parts.{part_by_parts}
use Rattle.pipe_format.proofs.program.push_part.Goals as goal

pub returns : goal.returns
returns c =
    let many : vec_len c.args.block.now.statements ≡ length c.args.block.now.statements.items = search rules in
    on_ok c.push_line.result (λ h. part_by_parts c.args.word.now c.args.block.now.statements.items c.args.text.now.items
    c.extend_from_slice.new.self.items
    c.extend_from_slice-2.new.self.items c.push_block.new.text.items _ (has_some _ _ many c.if-is_empty.ensures)
    c.in_ok-extend_from_slice.ensures.items c.in_ok-extend_from_slice-2.ensures.items c.in_ok-push_block.ensures h)
    c.push_line.ensures
