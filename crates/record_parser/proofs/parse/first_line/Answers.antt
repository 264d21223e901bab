use Rattle.std.proofs.Common.{◌∙◌, ap}
use Rattle.record_parser.specs.RecordLines.{lines_of}
use Rattle.record_parser.proofs.TextLines.{line_then, only_line}
use Rattle.record_parser.proofs.parse.first_line.Goals as goal

pub returns-in-Some-clause-lines : goal.returns-in-Some-clause-lines
returns-in-Some-clause-lines c = ap lines_of c.in-Some.ensures.parts ∙ line_then c.in-Some.line.now c.in-Some.following.now
    c.in-Some.ensures.first

pub returns-in-None-clause-lines : goal.returns-in-None-clause-lines
returns-in-None-clause-lines c = only_line c.args.text.now c.requires.nonempty c.in-None.ensures.none
