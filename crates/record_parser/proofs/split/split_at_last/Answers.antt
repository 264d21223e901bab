use Rattle.std.proofs.Common.{◌-◌, ◌<◌, arith, length}
use Rattle.record_parser.proofs.SplitBytes.{split_at}
use Rattle.record_parser.proofs.split.split_at_last.Goals as goal

pub returns-then-bytes-end-clause-parts : goal.returns-then-bytes-end-clause-parts
returns-then-bytes-end-clause-parts c =
    let end = c.loop-end.end - 1 in
    let within : end < length c.args.bytes.now = omega (arith, c.loop-end-test.true, c.loop-end.invariant.0) in
    split_at c.args.bytes.now end c.args.byte within c.if-bytes-end.true
