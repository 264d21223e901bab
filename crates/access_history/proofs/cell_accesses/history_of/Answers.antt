-- Each access is noted in the lists that the ones before left.
use Rattle.std.proofs.Common.{◌∙◌, refl}
use Rattle.access_history.proofs.FoldedHistories.{reports_first}
use Rattle.access_history.proofs.NotedAccesses.{noting_begins, noting_ends, noting_goes_on}
use Rattle.access_history.specs.CellAccesses.{noted_accesses}
use Rattle.access_history.proofs.cell_accesses.history_of.Goals as goal

pub loop-access-init : goal.loop-access-init
loop-access-init g c = record { so_far = noting_begins _ _ c.args.accesses.now _ c.new-history.ensures; unchanged = refl }

pub loop-access-preserved : goal.loop-access-preserved
loop-access-preserved g c =
    let e = c.note.ensures in
    record {
      so_far = noting_goes_on _ _ _ _ c.args.accesses.now c.requires.in_lists _ _ c.loop-access.access-index _ _ c.loop-access.history
          c.note.new.self c.loop-access.invariant.so_far c.loop-access-test.true refl e.down e.right e.in_lists e.each e.step;
      unchanged = e.unchanged ∙ c.loop-access.invariant.unchanged;
    }

pub returns-clause-history : goal.returns-clause-history
returns-clause-history g c = noting_ends _ _ _ _ c.args.accesses.now c.loop-access.access-index c.loop-access.history
    c.loop-access.invariant.so_far c.loop-access-test.false

pub returns-clause-first : goal.returns-clause-first
returns-clause-first g c = λ down right agree.
    reports_first down right (noted_accesses c.args.accesses.now) c.loop-access.history (returns-clause-history g c down right agree)
