use Rattle.std.proofs.Common.{◌+◌, drop}
use Rattle.stage_code.proofs.CellRanges.{left_from}
use Rattle.record_parser.proofs.DeclaredNames.{names_after, others_after, total_after}
use Rattle.record_parser.proofs.names.declared_field.Goals as goal

pub loop-declaration-preserved : goal.loop-declaration-preserved
loop-declaration-preserved c =
    let cells = c.args.cells.now in
    let i = c.loop-declaration.declaration-index in
    let d = c.declaration-item.result in
    let parts = left_from cells i d c.loop-declaration-test.true c.declaration-item.is in
    let before = c.loop-declaration.before in
    let size = c.size_of-before.result in
    record {
      total = total_after cells (drop i cells) (drop (i + 1) cells) d before size parts c.size_of-before.ensures
          c.loop-declaration.invariant.total;
      following = names_after cells (drop i cells) (drop (i + 1) cells) d before size parts c.size_of-before.ensures
          c.loop-declaration.invariant.following;
      others = others_after cells (drop i cells) (drop (i + 1) cells) d before size c.args.bytes.now parts c.size_of-before.ensures
          c.loop-declaration.invariant.following c.loop-declaration.invariant.others c.in_default.ensures.none;
    }
