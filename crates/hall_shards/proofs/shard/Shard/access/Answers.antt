use Rattle.std.proofs.Common.{◌≡◌, ◌/◌, ◌+◌, List, ◌++◌, ◌∷◌, [], max, ap, sym, subst, ◌∙◌, refl, arith}
use Rattle.hall_shards.specs.ShardValues.{ShardValue, down_list, right_list, history_at}
use Rattle.hall_shards.specs.Accesses.{GrowLists, IsNoted}
use Rattle.access_history.specs.KeptInstances.{KeptAreIn}
use Rattle.pipe_model.specs.declared.access.Access.{Access}
use Rattle.pipe_model.specs.Pipelines.Store.{HasReply, InitialStore}
use Rattle.cell_store.specs.ShardState.{IsStateAfter}
use Rattle.hall_shards.proofs.ShardAccesses.{kept_grow, lists_grow, marks_in_lists}
use Rattle.hall_shards.proofs.shard.Shard.access.Goals as goal

pub note_in-requires-clause-kept : goal.note_in-requires-clause-kept
note_in-requires-clause-kept g c =
    let m = c.meet.ensures in
    let view = c.self.view_is in
    let grown = lists_grow c.self.inside.passes c.meet.new.self (m.lists.down, m.lists.right) m.own.down m.own.right m.logs.0 m.logs.1 in
    kept_grow c.self.inside.passes c.meet.new.self _ grown
    (subst (λ (x : ShardValue). KeptAreIn (down_list x.lists) (right_list x.lists) (history_at x.histories (c.args.cell.0 / 16)))
    (sym view) c.requires.ready.kept)

pub note_in-requires-clause-new : goal.note_in-requires-clause-new
note_in-requires-clause-new g c =
    let m = c.meet.ensures in
    marks_in_lists c.args.passes.now.down_log c.args.passes.now.right_log c.meet.new.self c.args.who.marks m.theirs.down m.theirs.right
    m.logs.0 m.logs.1 c.requires.known

pub returns-clause-made : goal.returns-clause-made
returns-clause-made g c =
    let m = c.meet.ensures in
    let inside = c.self.inside in
    let view = c.self.view_is in
    let a = c.asked-access.result in
    let met = c.meet.new.self in
    let grown = lists_grow c.self.inside.passes c.meet.new.self (m.lists.down, m.lists.right) m.own.down m.own.right m.logs.0 m.logs.1 in
    let last : inside.last ≡ c.args.self.now.last = ap (λ (y : ShardValue). y.last) view in
    let most : c.max-most.result ≡ max inside.last c.args.now = c.max-most.ensures in
    record {
      asked = c.asked-access.ensures.asked;
      cell = c.asked-access.ensures.cell;
      made = record {
        met = met;
        grown = subst (λ (y : ShardValue). GrowLists y.lists met) view grown;
        known = marks_in_lists c.args.passes.now.down_log c.args.passes.now.right_log met c.args.who.marks m.theirs.down m.theirs.right
            m.logs.0 m.logs.1 c.requires.known;
        accessed = record {
          number = ap (λ (y : ShardValue). y.number) view;
          part = c.apply.ensures.shard ∙ ap (λ (y : ShardValue). y.cells.shard) view;
          cells = subst (λ (y : ShardValue). (store : InitialStore) (before : List Access) → IsStateAfter store before y.cells
              → IsStateAfter store (before ++ a ∷ []) c.apply.new.cells) view c.apply.ensures.state;
          reply = subst (λ (y : ShardValue). (store : InitialStore) (before : List Access) → IsStateAfter store before y.cells
              → HasReply store before a) view c.asked-access.ensures.reply;
          log = c.push_reserved.ensures.items ∙ ap (λ z. z ++ record {
            ticket = c.max-most.result + 1;
            node = c.args.who.node;
            access =
                a;
          } ∷ []) (c.make_room.ensures.items ∙ ap (λ (y : ShardValue). y.log) view);
          last = refl;
          noted = subst (λ z. IsNoted c.args.who c.args.joined a.kind (z / 16) met c.note_in.new.passes c.args.self.now.histories
              c.note_in.new.histories.items) (sym c.asked-access.ensures.cell)
              (subst (λ (y : ShardValue). IsNoted c.args.who c.args.joined a.kind (c.args.cell.0 / 16) met c.note_in.new.passes y.histories
              c.note_in.new.histories.items) view c.note_in.ensures.noted);
        };
      };
      there = c.requires.ready.there;
      next = ap (λ n. n + 1) (most ∙ ap (λ n. max n c.args.now) last);
      bound = let small = c.if-most-ge-LAST_TICKET.false in omega (arith, small);
      trace = c.note.ensures;
    }
