use Rattle.std.proofs.Common.{◌∙◌, ◌<◌, refl, rules, subst, sym, w64}
use Rattle.std.proofs.lemmas.Int.{to_z-of_z}
use mir.Val.{SFits}
use Rattle.cell_store.proofs.WrittenCells.{leaves_state, stored_value}
use Rattle.cell_store.specs.ShardState.{IsOfShard, IsStateAfter, ShardState}
use Rattle.cell_store.specs.contracts.cells.Cells.{the_view}
use Rattle.cell_store.proofs.cells.Cells.read.Goals as goal

pub returns-clause-value : goal.returns-clause-value
returns-clause-value c store before was =
    let fits : SFits w64 c.index.result.now = search rules in
    let view = sym c.self.view_is in
    let cell = c.args.cell.0 in
    to_z-of_z w64 c.index.result.now fits
    ∙ stored_value store before (the_view c.self.inside) cell c.index.result.now (subst (IsStateAfter store before) view was)
    (subst (λ (s : ShardState). cell < s.shard.cells) view c.requires.there)
    (subst (λ (s : ShardState). IsOfShard s.shard cell) view c.requires.own) c.self.invariant.complete
    (rw c.slot_of.ensures at c.index.ensures)

pub returns-clause-state : goal.returns-clause-state
returns-clause-state c store before was = leaves_state store before _ c.args.self.now (λ _. refl) was
