use Rattle.std.proofs.Common.{◌<◌, ◌-◌, arith, length, refl}
use Rattle.frame_rows.proofs.FrameRows.{row_at_read, last_ended, none_ended}
use Rattle.frame_rows.proofs.rows.last_has_ended_first.Goals as goal

pub returns-then-is_empty : goal.returns-then-is_empty
returns-then-is_empty g c = λ going fs h. (
  (λ x. none_ended going fs c.args.rows.now h
      (let t = c.if-is_empty.true in let e = c.is_empty.ensures in grind (arith))),
  (λ x. refl),
)

pub returns : goal.returns
returns g c = λ going fs h.
    let some : 0 < length c.args.rows.now = (let t = c.if-is_empty.false in let e = c.is_empty.ensures in grind (arith)) in
    let at = row_at_read c.args.rows.now (length c.args.rows.now - 1) c.index-rows-rows.result (omega arith) c.index-rows-rows.is in
    let both = last_ended going fs c.args.rows.now (length c.args.rows.now - 1) c.index-rows-rows.result h (omega arith) at in
    ((λ x. both.0 (c.has_ended_first.ensures.0 x)), (λ x. c.has_ended_first.ensures.1 (both.1 x)))
