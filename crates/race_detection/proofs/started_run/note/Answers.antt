-- One access more, by questions that change no list.
use Rattle.std.proofs.Common.{◌∙◌, ap, sym, Some}
use Rattle.order_2d.specs.OrderPairs.{OrderPair}
use Rattle.order_2d.proofs.QuestionIdentities.{same_identities, same_name}
use Rattle.pipe_model.specs.Orders.OrderList.{list_of_log}
use Rattle.pipe_model.specs.Races.Columns.{node_columns}
use Rattle.race_detection.proofs.KnownPaths.{known_kept}
use Rattle.race_detection.proofs.MarkedHistories.{marked_as, noted_again}
use Rattle.race_detection.proofs.started_run.note.Goals as goal

pub returns-clause-noted : goal.returns-clause-noted
returns-clause-noted c = λ accesses before.
    let columns = node_columns c.args.run.now.columns.now in
    let starts = c.args.run.now.nodes in
    let down = ap list_of_log c.requires.lists.down in
    let right = ap list_of_log c.requires.lists.right in
    let x = c.args.access.node in
    let started = c.started_node-started.result in
    let joined = ap (λ s. s.joined) c.started_node-started.ensures in
    let marked = marked_as columns starts x started c.requires.inside c.started_node-started.ensures in
    let kept = known_kept columns starts c.requires.run.columns_ok c.requires.run.starts_ok c.requires.run.started x c.requires.inside
    c.args.history.now before.kept in
    noted_again columns starts _ _ down right _ c.args.access.access.kind c.args.history.now c.note_joined.new.self c.note_joined.result
    accesses marked before
    (Some started.joined) (rw joined kept) c.note_joined.ensures.step c.note_joined.ensures.race c.note_joined.ensures.each
    c.note_joined.ensures.report

pub returns-clause-lists : goal.returns-clause-lists
returns-clause-lists c =
    let e = c.orders-1.given.1 (sym (same_name _ _ _ _ _ _ c.note_joined.ensures.unchanged)) in
    let s = same_identities _ _ _ _ _ _ c.note_joined.ensures.unchanged in
    record {
      down = ap (λ (o : OrderPair). o.down.log) e ∙ (s.0 ∙ c.requires.lists.down);
      right = ap (λ (o : OrderPair). o.right.log) e ∙ (s.1 ∙ c.requires.lists.right);
    }
