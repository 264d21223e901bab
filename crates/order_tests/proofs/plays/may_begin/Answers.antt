-- The loop goes on after the iteration that began last.
use Rattle.std.proofs.Common.{◌∙◌, ◌≡◌, ◌-◌, ◌<◌, suc, sym, arith, length}
use mathlib.Core.Path.{subst₂}
use Rattle.std.proofs.lemmas.Bool.{OnTrue_at, OnTrue_from}
use Rattle.order_tests.proofs.PlayedEvents.{begins_next, column_nodes, status_is}
use Rattle.order_tests.proofs.plays.may_begin.Goals as goal
use Rattle.pipe_model.specs.Runs.Allowed.{ContinuesLoop}

pub returns-then-i-lt-MOST_ITERATIONS : goal.returns-then-i-lt-MOST_ITERATIONS
returns-then-i-lt-MOST_ITERATIONS c = OnTrue_from _ _ (λ goes.
    let columns = c.args.play.now.columns.items in
    let same = c.requires.same_length in
    let next : length columns ≡ suc (c.len-i.result - 1) = omega (arith, c.len-i.ensures, c.if-i-eq0.false) in
    let inside : c.len-i.result - 1 < length columns = omega (arith, next) in
    let nodes = column_nodes columns (c.len-i.result - 1) c.index-then-i-lt-MOST_ITERATIONS.result.now inside
    c.index-then-i-lt-MOST_ITERATIONS.ensures in
    let status = status_is c.args.play.now.statuses.items (c.len-i.result - 1) c.index.result.now
    (omega (arith, inside, same)) c.index.ensures in
    begins_next c.requires (c.len-i.result - 1) next (omega (arith, c.len-i.ensures, c.if-i-lt-MOST_ITERATIONS.true))
    (subst₂ ContinuesLoop (sym status) (c.as_slice.ensures ∙ sym nodes) (OnTrue_at goes c.continues.ensures)))
