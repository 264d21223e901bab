-- The first racing pair is within the accesses.
use Rattle.std.proofs.Common.{◌∙◌, sym, ap, ap₂, arith}
use Rattle.dag_build.specs.RacingAccesses.{noted_all}
use Rattle.dag_build.proofs.RacePlaces.{length-noted_all, noted_at}
use Rattle.dag_build.proofs.dag.Dag.cell_report.Goals as goal
use Rattle.pipe_model.specs.declared.report.Report.{Report}
use Rattle.pipe_model.specs.Races.CellRaces.{access_at}
use Rattle.pipe_model.specs.Races.Reports.{report_of}

pub bounds-accesses-earlier : goal.bounds-accesses-earlier
bounds-accesses-earlier c =
    let race = c.in_ok-earlier.ensures.some.race in
    let within = race.within in
    let earlier = race.earlier in
    let long = length-noted_all c.args.accesses.now in
    omega (arith, within, earlier, long)

pub bounds-accesses-later : goal.bounds-accesses-later
bounds-accesses-later c =
    let within = c.in_ok-earlier.ensures.some.race.within in
    let long = length-noted_all c.args.accesses.now in
    omega (arith, within, long)

pub report-requires-clause-earlier_in : goal.report-requires-clause-earlier_in
report-requires-clause-earlier_in c =
    let race = c.in_ok-earlier.ensures.some.race in
    let within = race.within in
    let earlier = race.earlier in
    let long = length-noted_all c.args.accesses.now in
    c.requires c.in_ok-earlier.earlier _ (omega (arith, within, earlier, long))

pub report-requires-clause-later_in : goal.report-requires-clause-later_in
report-requires-clause-later_in c =
    let within = c.in_ok-earlier.ensures.some.race.within in
    let long = length-noted_all c.args.accesses.now in
    c.requires c.in_ok-earlier.later _ (omega (arith, within, long))

pub returns-clause-some : goal.returns-clause-some
returns-clause-some c =
    let race = c.in_ok-earlier.ensures.some.race in
    let within = race.within in
    let earlier = race.earlier in
    let long = length-noted_all c.args.accesses.now in
    let columns = c.args.self.now in
    let noted = noted_all c.args.accesses.now in
    let names = ap₂ (report_of columns c.args.cell.0)
    (sym (noted_at c.args.accesses.now c.in_ok-earlier.earlier _ (omega (arith, within, earlier, long))))
    (sym (noted_at c.args.accesses.now c.in_ok-earlier.later _ (omega (arith, within, long)))) in
    record {
      earlier = c.in_ok-earlier.earlier;
      later = c.in_ok-earlier.later;
      first = c.in_ok-earlier.ensures.some;
      report_is = c.report.ensures ∙ (names ∙ sym (ap (λ (r : Report). report_of columns r.cell.0
          (access_at noted c.in_ok-earlier.earlier) (access_at noted c.in_ok-earlier.later)) c.report.ensures));
    }

pub returns-clause-cell : goal.returns-clause-cell
returns-clause-cell c = ap (λ (r : Report). r.cell) c.report.ensures
