-- A read keeps the later reader of each order.
use Rattle.access_history.proofs.Comparisons.{kept_by_read}
use Rattle.access_history.proofs.GrownLists.{agree_on_one}
use Rattle.access_history.specs.KeptInstances.{kept_of}
use Rattle.access_history.proofs.history.History.keep.Goals as goal

pub returns-in-Read-clause-kept : goal.returns-in-Read-clause-kept
returns-in-Read-clause-kept g c = λ down right a known.
    let x = c.args.who in
    let h = c.args.self.now in
    let first = c.later_in_down-rightmost.ensures in
    let grown = agree_on_one _ _ _ _ down right x h.downmost first.down first.right c.requires.new c.requires.kept.downmost a.downmost in
    kept_by_read down right (kept_of h) x.node c.args.kind _ _ c.in-Read.is
    (first.later down right a.rightmost known.rightmost) (c.later_in_right-downmost.ensures.later down right grown known.downmost)
