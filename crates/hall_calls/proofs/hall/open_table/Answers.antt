use Rattle.std.proofs.Common.{◌∙◌, ap, sym, subst}
use Rattle.pipe_model.specs.Runs.ControlRun.{ControlRun, EmptyControlRun}
use Rattle.pipe_model.specs.Runs.RunLogs.{state_after}
use Rattle.hall_table.specs.SeatViews.{constants_of}
use Rattle.hall_table.specs.Steps.{ViewAndSlots}
use Rattle.hall_calls.proofs.hall.open_table.Goals as goal

pub invariant_of-result : goal.invariant_of-result
invariant_of-result g c = record { sized = (c.in-Ok.ensures.ok.0, c.in-Ok.ensures.ok.1 ∙ c.requires.width) }

pub invariant_of-result-in-Ok : goal.invariant_of-result-in-Ok
invariant_of-result-in-Ok g c =
    let me = c.in-Ok.ensures.ok.4 in
    let book = c.args.about.now.book.value in
    record {
      constants = constants_of book;
      knows = ap (λ (k : ViewAndSlots g.row.M.Denot). k.0.it.constants) me;
      control = subst (λ es. ControlRun book.limit es (state_after es))
          (sym (ap (λ (k : ViewAndSlots g.row.M.Denot). k.0.it.seen) me)) EmptyControlRun;
      run = ap (λ (k : ViewAndSlots g.row.M.Denot). k.0.it.run) me;
      held = ap (λ (k : ViewAndSlots g.row.M.Denot). k.0.it.held) me;
      slots = ap (λ (k : ViewAndSlots g.row.M.Denot). k.1) me;
    }
