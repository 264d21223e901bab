use Rattle.hall_tests.proofs.OneEnds.{one_used}
use Rattle.hall_tests.proofs.deque_rows.steal.Goals as goal

pub returns-clause-all : goal.returns-clause-all
returns-clause-all g c =
    one_used c.args.all.now.items c.args.worker c.index_mut.result.now c.steal.new.self c.requires.worker c.index_mut.ensures.value
    c.steal.ensures.deques c.requires.all
