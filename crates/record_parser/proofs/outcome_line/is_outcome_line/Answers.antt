use Rattle.std.proofs.Common.{rules}
use Rattle.record_parser.specs.RecordLines.{IsOutput}
use Rattle.record_parser.proofs.OutcomeLines.{outcome_of_worded, worded}
use Rattle.record_parser.proofs.Tests.{false_map, true_map}
use Rattle.record_parser.proofs.outcome_line.is_outcome_line.Goals as goal

pub returns-in_default-clause-yes : goal.returns-in_default-clause-yes
returns-in_default-clause-yes c = true_map c.is_worded.result c.is_worded.ensures.yes (outcome_of_worded c.args.cells.now c.args.line.now)

pub returns-in_default-clause-no : goal.returns-in_default-clause-no
returns-in_default-clause-no c = false_map c.is_worded.result c.is_worded.ensures.no (λ no h.
    no (worded c.args.cells.now c.args.line.now c.in_default.ensures.none h))

pub returns-clause-yes : goal.returns-clause-yes
returns-clause-yes c = IsOutput c.in-Some._number (search rules) c.in-Some.ensures.some
