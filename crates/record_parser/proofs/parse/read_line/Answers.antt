use Rattle.std.proofs.Common.{◌≡◌, ◌++◌, ◌∷◌, [], sym, subst, arith, length}
use Rattle.std.proofs.lemmas.List.{nil_from_length}
use Rattle.record_parser.specs.RecordLines.{IsRecord}
use Rattle.record_parser.proofs.ReadLines.{with_event, with_outcome}
use Rattle.record_parser.proofs.Tests.{false_map, true_map}
use Rattle.record_parser.proofs.parse.read_line.Goals as goal

pub returns-in-Some-clause-yes : goal.returns-in-Some-clause-yes
returns-in-Some-clause-yes c = λ lines h.
    subst (IsRecord c.args.cells.now (lines ++ c.args.line.now ∷ [])) (sym c.in_ok-push.ensures.ok)
    (with_event c.args.cells.now lines c.args.events.now c.args.line.now c.in-Some.event c.in-Some.ensures.some h)

pub returns-clause-yes : goal.returns-clause-yes
returns-clause-yes c =
    let none : length c.args.events.now ≡ 0 = grind (arith, c.is_empty.ensures, c.if-not-is_empty.false) in
    let nil : c.args.events.now ≡ [] = nil_from_length c.args.events.now none in
    true_map c.is_outcome_line.result c.is_outcome_line.ensures.yes (λ h lines r.
    subst (IsRecord c.args.cells.now (lines ++ c.args.line.now ∷ [])) (sym nil)
    (with_outcome c.args.cells.now lines c.args.line.now h (subst (IsRecord c.args.cells.now lines) nil r)))

pub returns-clause-no : goal.returns-clause-no
returns-clause-no c =
    false_map c.is_outcome_line.result c.is_outcome_line.ensures.no
    (λ no. record { no_event = λ e h. c.in_default.ensures.none e h; no_outcome = λ e. no })
