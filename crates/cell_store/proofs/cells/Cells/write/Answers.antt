use Rattle.std.proofs.Common.{◌∙◌, ◌<◌, ap, arith, pos, subst, sym, w64}
use Rattle.std.proofs.lemmas.Int.{to_z-of_z, to_z_pos}
use mir.Val.{SFits}
use Rattle.cell_store.proofs.DeclaredCells.{slot_within}
use Rattle.cell_store.proofs.WrittenCells.{is_other, is_output, writes_other, writes_found_output}
use Rattle.cell_store.specs.ShardState.{IsOfShard, IsStateAfter, ShardState}
use Rattle.cell_store.specs.contracts.cells.Cells.{the_view}
use Rattle.cell_store.proofs.cells.Cells.write.Goals as goal

pub returns-then-ne-clause-state : goal.returns-then-ne-clause-state
returns-then-ne-clause-state c store before was =
    let fits : SFits w64 c.args.value = c.ranges.value in
    let view = sym c.self.view_is in
    let cell = c.args.cell.0 in
    let own = subst (λ (s : ShardState). IsOfShard s.shard cell) view c.requires.own in
    let there = slot_within cell _ _ _ _ (subst (λ (s : ShardState). cell < s.shard.cells) view c.requires.there) own
    c.self.invariant.complete in
    let after = subst (IsStateAfter store before) view was in
    let other = is_other cell (sym c.ne.ensures ∙ c.if-ne.true) in
    simp to_z-of_z (rw c.slot_of-slot.ensures (writes_other store before (the_view c.self.inside) cell c.args.value other own there after))

pub returns-clause-state : goal.returns-clause-state
returns-clause-state c store before was =
    let fits : SFits w64 c.args.value = c.ranges.value in
    let view = sym c.self.view_is in
    let cell = c.args.cell.0 in
    let own = subst (λ (s : ShardState). IsOfShard s.shard cell) view c.requires.own in
    let there = slot_within cell _ _ _ _ (subst (λ (s : ShardState). cell < s.shard.cells) view c.requires.there) own
    c.self.invariant.complete in
    let after = subst (IsStateAfter store before) view was in
    let output = c.push_within.new.output in
    let pushed = simp to_z-of_z at c.push_within.ensures.output in
    rw c.slot_of-slot.ensures (writes_found_output store before (the_view c.self.inside) output.items c.args.value cell _
    (is_output cell (sym c.ne.ensures ∙ c.if-ne.false))
    (to_z_pos w64 c.len.result (omega (arith, output.small, output.ok.1, c.len.ensures)) ∙ ap pos (c.len.ensures ∙ output.ok.0)) own there
    pushed after)
