use Rattle.std.proofs.Common.{subst, sym, ap}
use Rattle.order_2d.specs.SeenOrders.{AreOfLists}
use Rattle.hall_shards.specs.ShardValues.{ShardValue}
use Rattle.hall_shards.specs.Accesses.{GrowLists}
use Rattle.hall_shards.proofs.ShardAccesses.{are_of, lists_grow}
use Rattle.hall_shards.proofs.shard.Shard.learn.Goals as goal

pub confirm-requires : goal.confirm-requires
confirm-requires g c =
    let b = c.args.book.now.lists in
    subst (λ (x : ShardValue). AreOfLists x.lists b.down b.right) (sym c.self.view_is)
    (are_of c.args.self.now.lists b.down b.right c.requires.lists.0 c.requires.lists.1)

pub returns-clause-learned : goal.returns-clause-learned
returns-clause-learned g c =
    let m = c.confirm.ensures in
    let grown = lists_grow c.self.inside.passes c.confirm.new.passes (m.lists.down, m.lists.right) m.later.down m.later.right m.logs.0
    m.logs.1 in
    record {
      lists = c.confirm.new.passes;
      is = ap (λ (x : ShardValue). let y : ShardValue = record x { lists = c.confirm.new.passes } in y) c.self.view_is;
      grown = subst (λ (x : ShardValue). GrowLists x.lists c.confirm.new.passes) c.self.view_is grown;
      all = (m.down, m.right);
    }
