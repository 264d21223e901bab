-- The first table obeys the rule.
use Rattle.std.proofs.Common.{ap₂, sym, subst, refl}
use Rattle.atomic_table.specs.Table.{opening}
use Rattle.pipe_model.specs.Language.SyntaxTree.{SyntaxTree}
use Rattle.hall_calls.specs.Closing.{shard_in}
use Rattle.hall_table.specs.HallRule.{IsHall, first_view, width}
use Rattle.hall_calls.specs.NewShards.{IsNewShard}
use Rattle.hall_table.specs.SeatViews.{HallStart, start_of}
use Rattle.hall_calls.proofs.FirstTables.{all_slots, halls_open, zeros, zeros_at}
use Rattle.hall_calls.proofs.hall.hall_after.Goals as goal

pub open_table-requires-clause-width : goal.open_table-requires-clause-width
open_table-requires-clause-width g c =
    let q = c.in-Ok.ensures in
    all_slots g.row.M.Denot c.args.book q.0 c.in-Ok.slots.items q.1 q.2

pub open_table-requires-clause-rule : goal.open_table-requires-clause-rule
open_table-requires-clause-rule g c =
    let q = c.in-Ok.ensures in
    let start = ap₂ start_of (sym c.of.ensures) (sym c.of-2.ensures) in
    subst (λ (s : HallStart). IsHall {M = g.row.M.Denot} s (opening (zeros width) c.in-Ok.slots.items (first_view s))) start
    (halls_open g.row.M.Denot c.args.before.now c.args.book c.args.passes q.0 (zeros width) c.in-Ok.slots.items c.requires.new
    c.requires.lists c.requires.identities refl (λ i. zeros_at width i) q.1 q.2
    (λ k l. subst (λ (t : SyntaxTree). IsNewShard c.args.before.now t c.args.passes k (shard_in q.0 k)) (sym c.requires.program) (q.3 k l)))
