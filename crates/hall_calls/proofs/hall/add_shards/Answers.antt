-- The shards are appended one after the other.
use Rattle.std.proofs.Common.{◌++◌, ◌∷◌, [], ◌∙◌, length, arith, ap, sym, append_assoc}
use Rattle.std.proofs.lemmas.List.{length-append}
use Rattle.pipe_model.specs.Language.SyntaxTree.{tree_of}
use Rattle.hall_calls.specs.NewShards.{IsNewShard, shard_slots}
use Rattle.hall_table.specs.declared.slot.Slot.TheVariants as slots
use Rattle.hall_calls.proofs.FirstTables.{new_more, shard_more}
use Rattle.hall_calls.proofs.hall.add_shards.Goals as goal

pub loop-number-preserved : goal.loop-number-preserved
loop-number-preserved g c =
    let i = c.loop-number.invariant in
    let s = i.shards in
    let x = c.in_ok-shard.shard in
    let e = c.in_ok-shard.ensures in
    let p = c.push_reserved.ensures in
    let init = c.args.slots.now.items in
    let lists = e.lists ∙ (c.in_ok-split.ensures.new ∙ i.passes) in
    record {
      passes = c.split.ensures.unchanged ∙ i.passes;
      room = (
          let n = ap length p.items in
          let m = length-append c.loop-number.slots.items (slots.Shard x ∷ []) in
          let r = i.room in
          let cap = p.capacity in
          omega (arith, n, m, r, cap));
      shards = (
        s.0 ++ x ∷ [],
        p.items ∙ (ap (λ l. l ++ slots.Shard x ∷ []) s.1
            ∙ (append_assoc init (shard_slots s.0) (slots.Shard x ∷ []) ∙ ap (λ l. init ++ l) (sym (shard_more g.row.M.Denot s.0 x)))),
        (let n = length-append s.0 (x ∷ []) in let l = s.2 in omega (arith, n, l)),
        new_more (IsNewShard c.args.before.now (tree_of c.args.checked.now) c.args.passes.now) s.0 x c.loop-number.number s.2 s.3
            (record {
              number = e.number;
              part = e.part;
              cells = e.cells;
              histories = e.histories;
              room = e.room;
              log = e.log;
              last =
                  e.last;
              lists = lists;
            }),
      );
    }
