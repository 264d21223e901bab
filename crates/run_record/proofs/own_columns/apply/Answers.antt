use Rattle.std.proofs.Common.{sym, rules}
use Rattle.run_record.proofs.Outlines.{advanced_next, begun_next, entered_next, finished_next, no_traces}
use Rattle.run_record.proofs.own_columns.apply.Goals as goal

pub returns-in_ok-push-in-Begin : goal.returns-in_ok-push-in-Begin
returns-in_ok-push-in-Begin c =
    rw (c.in-Begin.is, c.in_ok-push-in-Begin.ensures.items)
    (begun_next c.args.iterations.now.items c.in_ok-begun-in-Begin.field-0 c.in-Begin.field-0 c.in_ok-begun-in-Begin.ensures)

pub returns-in-Advance : goal.returns-in-Advance
returns-in-Advance c =
    rw c.in-Advance.is
    (advanced_next _ _ c.in-Advance.iteration c.in-Advance.kind c.in-Advance.number _ c.set_status.ensures (search rules))

pub returns-in_ok-enter-in-Enter : goal.returns-in_ok-enter-in-Enter
returns-in_ok-enter-in-Enter c = rw c.in-Enter.is (entered_next _ _ c.in-Enter.iteration c.in_ok-enter-in-Enter.ensures)

pub returns-in-Finish : goal.returns-in-Finish
returns-in-Finish c = rw c.in-Finish.is (finished_next _ _ c.in-Finish.iteration c.in-Finish.end c.set_status-in-Finish.ensures)

pub returns-in-Access : goal.returns-in-Access
returns-in-Access c = rw c.in-Access.is (sym (no_traces c.args.iterations.now.items))

pub returns-in-Stop : goal.returns-in-Stop
returns-in-Stop c = rw c.in-Stop.is (sym (no_traces c.args.iterations.now.items))
