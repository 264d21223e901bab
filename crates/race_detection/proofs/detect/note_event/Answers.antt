use Rattle.std.proofs.Common.{◌<◌, All, arith, length, subst, sym}
use Rattle.pipe_model.specs.declared.access.NodeAccess.{NodeAccess}
use Rattle.pipe_model.specs.declared.event.Event.{Event}
use Rattle.pipe_model.specs.Races.Columns.{IsNodeOf, node_columns}
use Rattle.race_detection.specs.LogAccesses.{access_by}
use Rattle.race_detection.proofs.detect.note_event.Goals as goal

pub note_access-requires-clause-inside : goal.note_access-requires-clause-inside
note_access-requires-clause-inside c =
    let columns = node_columns c.args.run.now.columns.now in
    let made : NodeAccess = record { node = c.last_instance.result; access = c.in-Access.access } in
    let inside = subst (λ (e : Event). All (λ (a : NodeAccess). IsNodeOf columns a.node) (access_by c.args.counts.now e)) c.in-Access.is
    c.requires.inside in
    subst (IsNodeOf columns) (sym c.last_instance.ensures) (inside 0 made (omega arith))

pub note_access-requires-clause-cell : goal.note_access-requires-clause-cell
note_access-requires-clause-cell c =
    let made : NodeAccess = record { node = c.last_instance.result; access = c.in-Access.access } in
    let cells = subst (λ (e : Event). All (λ (a : NodeAccess). a.access.cell.0 < length c.args.histories.now.items)
    (access_by c.args.counts.now e)) c.in-Access.is c.requires.cells in
    cells 0 made (omega arith)
