use Rattle.hall_tests.proofs.OneEnds.{one_used}
use Rattle.hall_tests.proofs.deque_rows.push.Goals as goal

pub returns-clause-all : goal.returns-clause-all
returns-clause-all c =
    one_used c.args.all.now.items c.args.worker c.index_mut.result.now c.push.new.self c.requires.worker c.index_mut.ensures.value
    c.push.ensures.deques c.requires.all
