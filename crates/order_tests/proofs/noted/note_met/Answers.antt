-- After the meeting the passes have seen the elements of the kept instances and of the new one.
use Rattle.order_2d.proofs.SeenLogs.{seen_keeps_order}
use Rattle.access_history.proofs.GrownLists.{in_grown}
use Rattle.order_tests.proofs.GrownHistories.{kept_grown}
use Rattle.order_tests.proofs.noted.note_met.Goals as goal

pub note_with-requires-clause-kept : goal.note_with-requires-clause-kept
note_with-requires-clause-kept g c =
    let e = c.meet.ensures in
    kept_grown _ _ _ _ c.args.history.now (seen_keeps_order _ _ e.logs.0 e.own.down)
    (seen_keeps_order _ _ e.logs.1 e.own.right) c.requires.kept

pub note_with-requires-clause-new : goal.note_with-requires-clause-new
note_with-requires-clause-new g c =
    let e = c.meet.ensures in
    in_grown _ _ _ _ c.args.who.marks (seen_keeps_order _ _ e.logs.0 e.theirs.down)
    (seen_keeps_order _ _ e.logs.1 e.theirs.right) c.requires.new
