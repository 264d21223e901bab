use Rattle.std.proofs.Common.{rules, ◌≡◌, ◌≢◌, ◌<◌, arith, take}
use Rattle.grammar_laws.specs.ProgramMachine.{Outside, Unexpected, TooLong, judge, program}
use Rattle.pipe_parser.proofs.Parses.{at_place, count_within, cut_within, cut_long_within, cut_unexpected, cut_too_long, cut_too_deep}
use Rattle.pipe_parser.proofs.Parses.{cut_read}
use Rattle.pipe_parser.proofs.parse.fault_up_to.Goals as goal

pub returns-in_default : goal.returns-in_default
returns-in_default c =
    let all = count_within _ _ c.requires in
    at_place (omega (arith, all.0, all.1, c.len.ensures)) (cut_read _ _ _ c.requires (rw c.prefix-cut.ensures at c.in_default.ensures.ok))

pub overflow_add-result-in-Unexpected : goal.overflow_add-result-in-Unexpected
overflow_add-result-in-Unexpected c =
    let verdict : judge 256 (take c.args.count c.args.symbols.now) (Outside program) ≡ Unexpected c.in-Unexpected.left =
    rw (c.in-Unexpected.is, c.prefix-cut.ensures) at c.in-Err.ensures.err in
    let within = cut_within c.args.symbols.now c.args.count c.in-Unexpected.left c.requires verdict in
    let all = count_within _ _ c.requires in
    omega (arith, within, all.1, c.len.ensures, c.len.type_inv)

pub overflow_add-result-in-TooLong : goal.overflow_add-result-in-TooLong
overflow_add-result-in-TooLong c =
    let verdict : judge 256 (take c.args.count c.args.symbols.now) (Outside program) ≡ TooLong c.in-TooLong.left =
    rw (c.in-TooLong.is, c.prefix-cut.ensures) at c.in-Err.ensures.err in
    let within = cut_long_within c.args.symbols.now c.args.count c.in-TooLong.left c.requires verdict in
    let all = count_within _ _ c.requires in
    omega (arith, within, all.1, c.len.ensures, c.len.type_inv)

pub returns-in-Unexpected-eq0 : goal.returns-in-Unexpected-eq0
returns-in-Unexpected-eq0 c =
    let verdict : judge 256 (take c.args.count c.args.symbols.now) (Outside program) ≡ Unexpected c.in-Unexpected-eq0.field-0 =
    rw (c.in-Unexpected-eq0.is, c.prefix-cut.ensures) at c.in-Err.ensures.err in
    let all = count_within _ _ c.requires in
    at_place (omega (arith, all.0, all.1, c.len.ensures))
    (cut_too_deep c.args.symbols.now c.args.count (Unexpected c.in-Unexpected-eq0.field-0) c.requires verdict (search rules))

pub returns-in-Unexpected : goal.returns-in-Unexpected
returns-in-Unexpected c =
    let verdict : judge 256 (take c.args.count c.args.symbols.now) (Outside program) ≡ Unexpected c.in-Unexpected.left =
    rw (c.in-Unexpected.is, c.prefix-cut.ensures) at c.in-Err.ensures.err in
    let some : 0 < c.in-Unexpected.left = grind (arith, c.in-Unexpected.left-test) in
    let within = cut_within c.args.symbols.now c.args.count c.in-Unexpected.left c.requires verdict in
    let all = count_within _ _ c.requires in
    at_place (omega (arith, within, all.0, all.1, c.len.ensures))
    (cut_unexpected c.args.symbols.now c.args.count c.in-Unexpected.left c.requires verdict some)

pub returns-in-TooLong-eq1 : goal.returns-in-TooLong-eq1
returns-in-TooLong-eq1 c =
    let verdict : judge 256 (take c.args.count c.args.symbols.now) (Outside program) ≡ TooLong c.in-TooLong-eq1.field-0 =
    rw (c.in-TooLong-eq1.is, c.prefix-cut.ensures) at c.in-Err.ensures.err in
    let all = count_within _ _ c.requires in
    at_place (omega (arith, all.0, all.1, c.len.ensures))
    (cut_too_deep c.args.symbols.now c.args.count (TooLong c.in-TooLong-eq1.field-0) c.requires verdict (search rules))

pub returns-in-TooLong : goal.returns-in-TooLong
returns-in-TooLong c =
    let verdict : judge 256 (take c.args.count c.args.symbols.now) (Outside program) ≡ TooLong c.in-TooLong.left =
    rw (c.in-TooLong.is, c.prefix-cut.ensures) at c.in-Err.ensures.err in
    let other : c.in-TooLong.left ≢ 1 = grind (arith, c.in-TooLong.left-test) in
    let within = cut_long_within c.args.symbols.now c.args.count c.in-TooLong.left c.requires verdict in
    let all = count_within _ _ c.requires in
    at_place (omega (arith, within, all.0, all.1, c.len.ensures))
    (cut_too_long c.args.symbols.now c.args.count c.in-TooLong.left c.requires verdict other)
