use Rattle.std.proofs.Common.{◌∙◌, ◌++◌, ◌∷◌, [], ap, get_or, map, sym, take}
use Rattle.std.proofs.lemmas.List.{map-append, take_all, take_more}
use Rattle.access_history.specs.declared.history.Found.{Found}
use Rattle.pipe_model.specs.declared.access.AccessKind.TheVariants.{Read}
use Rattle.pipe_model.specs.declared.access.CellId.{CellId}
use Rattle.pipe_model.specs.declared.report.Report.{Report}
use Rattle.pipe_model.specs.Races.Columns.{node_columns}
use Rattle.race_report.specs.RaceReports.{report_found}
use Rattle.race_report.proofs.gather.reports_of.Goals as goal

-- what is read past the end of the list
abbrev none : CellId × Found
none = (
  record { 0 = 0 },
  record {
    earlier = record { iteration = 0; index = 0 };
    earlier_kind = Read;
    later = record { iteration = 0; index = 0 };
    later_kind = Read;
  },
)

pub report_of-requires : goal.report_of-requires
report_of-requires c = c.requires c.loop-cell.cell-index none c.loop-cell-test.true

pub loop-cell-preserved : goal.loop-cell-preserved
loop-cell-preserved c =
    let report : CellId × Found → Report = λ f. report_found (node_columns c.args.columns.now) f.0 f.1 in
    let found = c.args.found.now in
    let i = c.loop-cell.cell-index in
    c.in_ok-push.ensures.items
    ∙ ap (λ l. l ++ c.report_of.result ∷ []) c.loop-cell.invariant
    ∙ ap (λ r. map report (take i found) ++ r ∷ []) c.report_of.ensures
    ∙ sym (map-append report (take i found) (get_or found i none ∷ []))
    ∙ ap (map report) (sym (take_more found i none c.loop-cell-test.true))

pub returns : goal.returns
returns c =
    let report : CellId × Found → Report = λ f. report_found (node_columns c.args.columns.now) f.0 f.1 in
    c.loop-cell.invariant ∙ ap (map report) (take_all c.loop-cell.cell-index c.args.found.now c.loop-cell-test.false)
