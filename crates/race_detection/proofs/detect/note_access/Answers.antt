use Rattle.std.proofs.Common.{subst, sym}
use Rattle.pipe_model.specs.Races.CellRaces.{accesses_to}
use Rattle.race_detection.specs.NotedRuns.{HasNoted}
use Rattle.race_detection.proofs.NotedCells.{history_here, one_more_noted, set_count}
use Rattle.race_detection.proofs.detect.note_access.Goals as goal
use Rattle.pipe_model.specs.Races.Columns.{node_columns}

pub note-requires-clause-noted : goal.note-requires-clause-noted
note-requires-clause-noted c =
    let cell = c.args.access.access.cell.0 in
    let before = c.requires.noted.0 in
    let here = history_here c.args.histories.now.items cell c.index_mut-history.result.now c.requires.cell
    c.index_mut-history.ensures.value in
    (accesses_to cell before, rw here (c.requires.noted.1.each cell c.requires.cell))

pub returns-clause-noted : goal.returns-clause-noted
returns-clause-noted c = λ before noted.
    let columns = node_columns c.args.run.now.columns.now in
    let starts = c.args.run.now.nodes in
    let cell = c.args.access.access.cell.0 in
    let here = history_here c.args.histories.now.items cell c.index_mut-history.result.now c.requires.cell
    c.index_mut-history.ensures.value in
    let was = subst (HasNoted columns starts (accesses_to cell before)) (sym here) (noted.each cell c.requires.cell) in
    one_more_noted columns starts before c.args.histories.now.items c.args.access c.note.new.history noted c.requires.cell
    (c.note.ensures.noted (accesses_to cell before) was)

pub returns-clause-count : goal.returns-clause-count
returns-clause-count c = set_count c.args.histories.now.items c.args.access.access.cell.0 c.note.new.history
