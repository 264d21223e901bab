use Rattle.std.proofs.Common.{◌∙◌, ◌<◌, arith, sym}
use Rattle.std.proofs.lemmas.List.{get_or-take, length-take}
use Rattle.record_parser.proofs.SplitBytes.{split_at}
use Rattle.record_parser.proofs.split.split_at_first.Goals as goal

pub returns-then-bytes-k-clause-parts : goal.returns-then-bytes-k-clause-parts
returns-then-bytes-k-clause-parts c = split_at c.args.bytes.now c.loop-k.k c.args.byte c.loop-k-test.true c.if-bytes-k.true

pub returns-then-bytes-k-clause-first : goal.returns-then-bytes-k-clause-first
returns-then-bytes-k-clause-first c = λ n d within e.
    let bytes = c.args.bytes.now in
    let k = c.loop-k.k in
    let below : n < k = omega (arith, length-take k bytes, within) in
    c.loop-k.invariant n d below (sym (get_or-take k bytes n d below) ∙ e)
