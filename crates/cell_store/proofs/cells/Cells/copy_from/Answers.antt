use Rattle.std.proofs.Common.{◌∙◌, ◌<◌, rules, subst, sym, w64}
use Rattle.std.proofs.lemmas.Int.{to_z-of_z}
use mir.Val.{SFits}
use Rattle.cell_store.proofs.CopiedCells.{copies_other, copies_output, equals_other, equals_output}
use Rattle.cell_store.proofs.DeclaredCells.{slot_within}
use Rattle.cell_store.proofs.WrittenCells.{stored_value}
use Rattle.cell_store.specs.ShardState.{IsOfShard, IsStateAfter, ShardState}
use Rattle.cell_store.specs.contracts.cells.Cells.{the_view}
use Rattle.cell_store.proofs.cells.Cells.copy_from.Goals as goal

pub returns-else-eq-clause-state : goal.returns-else-eq-clause-state
returns-else-eq-clause-state c store before here after was other writes =
    let fits : SFits w64 c.index.result.now = search rules in
    let view = sym c.self.view_is in
    let from = sym c.other.view_is in
    let cell = c.args.cell.0 in
    let own = subst (λ (s : ShardState). IsOfShard s.shard cell) view c.requires.own in
    let there = slot_within cell _ _ _ _ (subst (λ (s : ShardState). cell < s.shard.cells) view c.requires.there) own
    c.self.invariant.complete in
    let within = subst (λ n. cell < n) (sym c.requires.program.0) c.requires.there in
    let value = stored_value store here (the_view c.other.inside) cell c.index.result.now (subst (IsStateAfter store here) from other)
    (subst (λ (s : ShardState). cell < s.shard.cells) from within)
    (subst (λ (s : ShardState). IsOfShard s.shard cell) from c.requires.other) c.other.invariant.complete
    (rw c.slot_of.ensures at c.index.ensures) in
    simp to_z-of_z (rw c.slot_of-2.ensures
    (copies_other store before here after (the_view c.self.inside) cell c.index.result.now (subst (IsStateAfter store before) view was)
    writes value own there (equals_other cell (sym c.eq.ensures ∙ c.if-eq.false))))

pub returns-then-eq-clause-state : goal.returns-then-eq-clause-state
returns-then-eq-clause-state c store before here after was other writes =
    let fits : SFits w64 c.index.result.now = search rules in
    let view = sym c.self.view_is in
    let from = sym c.other.view_is in
    let cell = c.args.cell.0 in
    let own = subst (λ (s : ShardState). IsOfShard s.shard cell) view c.requires.own in
    let there = slot_within cell _ _ _ _ (subst (λ (s : ShardState). cell < s.shard.cells) view c.requires.there) own
    c.self.invariant.complete in
    let within = subst (λ n. cell < n) (sym c.requires.program.0) c.requires.there in
    let state = subst (IsStateAfter store here) from other in
    let mine = subst (λ (s : ShardState). IsOfShard s.shard cell) from c.requires.other in
    let value = stored_value store here (the_view c.other.inside) cell c.index.result.now state
    (subst (λ (s : ShardState). cell < s.shard.cells) from within) mine c.other.invariant.complete
    (rw c.slot_of.ensures at c.index.ensures) in
    let one = equals_output cell (sym c.eq.ensures ∙ c.if-eq.true) in
    let output = c.copy_numbers.ensures.output ∙ c.as_slice.ensures.value in
    simp to_z-of_z (rw c.slot_of-2.ensures
    (copies_output store before here after (the_view c.self.inside) cell c.index.result.now (subst (IsStateAfter store before) view was)
    writes value own there c.copy_numbers.new.output.items one
    (output ∙ state.output (subst (IsOfShard (the_view c.other.inside).shard) one mine))))
