use Rattle.std.proofs.Common.{◌≡◌, ◌∙◌, ap, length, map, subst, sym, arith}
use Rattle.worker_threads.specs.Lanes.{ends_in}
use Rattle.worker_threads.specs.TokensOut.{NoneIsLost}
use Rattle.worker_threads.proofs.LaneLists.{all_ends_stay, written_back}
use Rattle.worker_threads.proofs.LaneTokens.{none_is_lost}
use Rattle.work_deques.specs.WorkerEnds.{AreAllEnds}
use Rattle.worker_threads.proofs.lanes.work.Goals as goal

pub returns-clause-all : goal.returns-clause-all
returns-clause-all g c =
    let before = c.args.lanes.now in
    let after = c.lend.new.lanes in
    let value = c.as_mut_slice.ensures.value in
    let count : length after ≡ length before.items = c.lend.ensures.length ∙ ap length value in
    let whole = written_back before.len after before.items (omega (arith, count, before.ok.0)) (omega (arith, before.ok.0)) in
    let same = rw value at c.lend.ensures.workers in
    subst (λ l. AreAllEnds (map ends_in l)) (sym whole)
    (all_ends_stay before.items after count (λ k d l. (same k d l).deques) c.requires.all)

pub returns-clause-tokens : goal.returns-clause-tokens
returns-clause-tokens g c =
    let before = c.args.lanes.now in
    let after = c.lend.new.lanes in
    let value = c.as_mut_slice.ensures.value in
    let count : length after ≡ length before.items = c.lend.ensures.length ∙ ap length value in
    let whole = written_back before.len after before.items (omega (arith, count, before.ok.0)) (omega (arith, before.ok.0)) in
    let keeps = rw value at c.lend.ensures.tokens in
    subst (NoneIsLost g.H.Hall.tokens before.items) (sym whole) (none_is_lost g.H.Hall.tokens before.items after count keeps)
