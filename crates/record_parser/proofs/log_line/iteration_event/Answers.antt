use Rattle.std.proofs.Common.{sym, subst}
use Rattle.pipe_model.specs.declared.column.ColumnEnd.TheVariants as ends
use Rattle.pipe_model.specs.declared.event.Event.TheVariants as events
use Rattle.record_parser.specs.LogForms.{Begins, Closes, Ends, Enters, HasFields}
use Rattle.record_parser.proofs.log_line.iteration_event.Goals as goal

pub returns-in-Begin-clause-some : goal.returns-in-Begin-clause-some
returns-in-Begin-clause-some c =
    subst (λ w. HasFields c.args.cells.now c.args.fields.now w (events.Begin c.in-Some.iteration)) (sym c.in-Begin.is)
    (Begins c.in-Some.iteration c.in-Some.ensures.within c.in-Some.ensures.some)

pub returns-in-Enter-clause-some : goal.returns-in-Enter-clause-some
returns-in-Enter-clause-some c =
    subst (λ w. HasFields c.args.cells.now c.args.fields.now w (events.Enter c.in-Some.iteration)) (sym c.in-Enter.is)
    (Enters c.in-Some.iteration c.in-Some.ensures.within c.in-Some.ensures.some)

pub returns-in-End-clause-some : goal.returns-in-End-clause-some
returns-in-End-clause-some c =
    subst (λ w. HasFields c.args.cells.now c.args.fields.now w (events.Finish c.in-Some.iteration ends.End)) (sym c.in-End.is)
    (Ends c.in-Some.iteration c.in-Some.ensures.within c.in-Some.ensures.some)

pub returns-in-Closed-clause-some : goal.returns-in-Closed-clause-some
returns-in-Closed-clause-some c =
    subst (λ w. HasFields c.args.cells.now c.args.fields.now w (events.Finish c.in-Some.iteration ends.Closed)) (sym c.in-Closed.is)
    (Closes c.in-Some.iteration c.in-Some.ensures.within c.in-Some.ensures.some)
