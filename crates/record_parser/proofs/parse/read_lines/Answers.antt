use Rattle.record_parser.specs.RecordLines.{HasBadLine, IsOutOfMemory}
use Rattle.record_parser.proofs.ReadLines.{bad_line, events_are_few, one_more}
use Rattle.record_parser.proofs.Tests.{when_false, when_true}
use Rattle.record_parser.proofs.parse.read_lines.Goals as goal

pub returns-in_default-clause-fault : goal.returns-in_default-clause-fault
returns-in_default-clause-fault c = IsOutOfMemory

pub returns-then-not-is_known-clause-fault : goal.returns-then-not-is_known-clause-fault
returns-then-not-is_known-clause-fault c =
    HasBadLine c.loop-rest.number c.requires.short
    (bad_line c.args.cells.now c.args.text.now c.loop-rest.rest.now c.first_line.result.line.now c.first_line.result.following.now
    c.loop-rest.number c.loop-rest.events
    c.loop-rest.invariant c.first_line.ensures.lines (when_false c.in-Ok.is_known c.in-Ok.ensures.no c.if-not-is_known.true))

pub loop-rest-preserved : goal.loop-rest-preserved
loop-rest-preserved c =
    one_more c.args.cells.now c.args.text.now c.loop-rest.rest.now c.first_line.result.line.now c.first_line.result.following.now
    c.loop-rest.number c.loop-rest.events
    c.read_line.new.events c.loop-rest.invariant c.first_line.ensures.lines c.first_line.ensures.shorter
    (when_true c.in-Ok.is_known c.in-Ok.ensures.yes c.if-not-is_known.false)

pub returns-clause-bounded : goal.returns-clause-bounded
returns-clause-bounded c = events_are_few c.args.cells.now c.args.text.now c.loop-rest.rest.now c.loop-rest.number c.loop-rest.events
    c.loop-rest.invariant
