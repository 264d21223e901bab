use Rattle.std.proofs.Common.{◌∙◌, map, arith}
use Rattle.std.proofs.lemmas.List.{length-map}
use Rattle.work_deques.proofs.FrontSteps.{all_ends}
use Rattle.work_deques.proofs.UnusedEnds.{fresh}
use Rattle.work_deques.specs.WorkerEnds.{deque_of}
use Rattle.work_deques.proofs.deques.deques.Goals as goal

pub returns-clause-all : goal.returns-clause-all
returns-clause-all g c = all_ends c.loop-worker.worker c.loop-worker.ends.items (omega arith) c.loop-worker.invariant.so_far

pub returns-clause-fresh : goal.returns-clause-fresh
returns-clause-fresh g c =
    let h = c.loop-worker.invariant in
    let items = c.loop-worker.ends.items in
    let all = all_ends c.loop-worker.worker items (omega arith) h.so_far in
    λ k d l. fresh c.args.capacity (map deque_of items) c.args.workers _ (h.unused k d l) (all k d l) (length-map items deque_of ∙ h.length)
