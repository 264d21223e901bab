use Rattle.std.proofs.Common.{◌∙◌, ◌++◌, [], ℕ, List, ap, get_or, pos, sym, take}
use Rattle.std.proofs.lemmas.List.{flat_map_more, take_all, take_more}
use Rattle.pipe_model.specs.declared.access.AccessKind.TheVariants.{Read}
use Rattle.pipe_model.specs.declared.report.Report.{Report}
use Rattle.pipe_model.specs.Texts.{race_line}
use Rattle.race_report.specs.CellNames.{cell_name, race_lines}
use Rattle.race_report.proofs.race_text.lines_of.Goals as goal

-- what is read past the end of the list
abbrev none : Report
none = record {
  cell = record { 0 = 0 };
  earlier = record { iteration = 0; index = 0 };
  earlier_number = pos 0;
  earlier_kind = Read;
  later = record { iteration = 0; index = 0 };
  later_number = pos 0;
  later_kind = Read;
}

pub loop-report-preserved : goal.loop-report-preserved
loop-report-preserved c =
    let line : Report → List ℕ = race_line (cell_name c.args.cells.now) in
    let reports = c.args.reports.now in
    let i = c.loop-report.report-index in
    c.in_ok-push_race.ensures
    ∙ ap (λ l. l ++ line (get_or reports i none)) c.loop-report.invariant
    ∙ flat_map_more line [] (take i reports) (get_or reports i none)
    ∙ ap (race_lines c.args.cells.now) (sym (take_more reports i none c.loop-report-test.true))

pub returns : goal.returns
returns c =
    c.loop-report.invariant
    ∙ ap (race_lines c.args.cells.now) (take_all c.loop-report.report-index c.args.reports.now c.loop-report-test.false)
