use Rattle.std.proofs.Common.{rules}
use Rattle.race_report.specs.CellNames.{cell_name}
use Rattle.race_report.proofs.RaceLines.{line_by_parts}
use Rattle.race_report.proofs.race_text.push_race.Goals as goal

pub returns : goal.returns
returns c = line_by_parts (cell_name c.args.cells.now) c.args.report
    c.args.text.now.items c.extend_from_slice.new.self.items c.push_cell.new.text.items c.push_access.new.text.items
    c.push_access-2.new.text.items _
    c.in_ok-extend_from_slice.ensures.items c.in_ok-push_cell.ensures (search rules) (search rules)
    c.in_ok-extend_from_slice-2.ensures.items
