use Rattle.std.proofs.Common.{◌<◌, ◌-◌, arith, Some, ap, sym, ◌∙◌, cond}
use Rattle.frame_rows.specs.IterationRows.{left_row_counter}
use Rattle.frame_rows.proofs.FrameRows.{row_at_read, left_counter_is}
use Rattle.frame_rows.proofs.folding.fold_left.Goals as goal

pub returns-then-read : goal.returns-then-read
returns-then-read g c =
    let some : 0 < c.args.iteration = c.requires.left c.if-read.true in
    let w = c.requires.within in
    let at = row_at_read c.args.rows.now (c.args.iteration - 1) c.index-rows-place.result (omega (arith, some, w)) c.index-rows-place.is in
    let is = left_counter_is c.args.rows.now c.args.iteration c.index-rows-place.result (λ e. (omega (arith, some, e))) at in
    c.learn.ensures ∙ (ap Some c.counter.ensures ∙ (is
    ∙ ap (λ b. cond b (left_row_counter c.args.rows.now c.args.iteration) c.args.folded.now) (sym c.if-read.true)))

pub overflow_sub-place : goal.overflow_sub-place
overflow_sub-place g c = c.requires.left c.if-read.true

pub bounds-rows-place : goal.bounds-rows-place
bounds-rows-place g c = let some = c.requires.left c.if-read.true in let w = c.requires.within in omega (arith, some, w)
