-- The reports of a run: what the access histories of its cells find, by its own columns, starts and accesses.
use Rattle.std.specs.Prelude.{List}
use Rattle.pipe_model.specs.declared.event.RunLog.{RunLog}
use Rattle.pipe_model.specs.declared.report.Report.{Report}
use Rattle.pipe_model.specs.Orders.Starts.{starts_of}
use Rattle.pipe_model.specs.Runs.RunLogs.{accesses_after, columns_after}
use Rattle.race_detection.specs.FoundReports.{found_reports}

abbrev pub run_reports : RunLog → List Report
run_reports log = found_reports (columns_after log.events) (starts_of log.events) (accesses_after log.events)
