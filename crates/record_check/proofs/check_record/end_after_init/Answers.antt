use Rattle.std.proofs.Common.{◌≡◌, ◌<◌, arith, length}
use Rattle.std.proofs.lemmas.List.{nil_from_length}
use Rattle.record_check.proofs.ProgramRecords.{empty_answer, trapped_answer}
use Rattle.record_check.proofs.check_record.end_after_init.Goals as goal

pub returns-then-is_empty : goal.returns-then-is_empty
returns-then-is_empty c = λ w limit trapped.
    let none : length c.args.events.now ≡ 0 = grind (arith, c.is_empty.ensures, c.if-is_empty.true) in
    empty_answer w limit c.args.events.now _ _ _ trapped (nil_from_length c.args.events.now none) c.new-events.ensures
    c.new-columns.ensures c.new.ensures

pub returns : goal.returns
returns c = λ w limit trapped.
    let some : 0 < length c.args.events.now = grind (arith, c.is_empty.ensures, c.if-is_empty.false) in
    trapped_answer w limit c.args.events.now trapped some
