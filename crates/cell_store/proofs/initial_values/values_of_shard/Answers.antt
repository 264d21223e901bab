use Rattle.std.proofs.Common.{rules, w64, get_or, pos}
use Rattle.std.proofs.lemmas.Int.{to_z-of_z}
use mir.Val.{SFits}
use Rattle.cell_store.proofs.DeclaredCells.{strides_more, taken_more}
use Rattle.cell_store.proofs.initial_values.values_of_shard.Goals as goal

pub loop-cell-preserved : goal.loop-cell-preserved
loop-cell-preserved c =
    let fits : SFits w64 (get_or c.args.all.now c.loop-cell.cell (pos 0)) = search rules in
    let items = simp to_z-of_z at c.in_ok-push.ensures.items in
    record {
      at = strides_more c.loop-cell.cell c.args.shard c.args.shards c.loop-cell.values.items _ c.push.new.self.items items
          c.loop-cell.invariant.at;
      taken = taken_more c.args.all.now c.loop-cell.values.items c.push.new.self.items c.loop-cell.cell c.args.shard c.args.shards items
          c.loop-cell.invariant.at c.loop-cell.invariant.taken;
    }
