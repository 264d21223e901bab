use Rattle.std.proofs.Common.{◌≡◌, ◌∙◌, ap, sym, ◌-◌, ◌<◌, length, arith, length-drop}
use Rattle.std.proofs.lemmas.List.{length-take-le}
use Rattle.grammar_laws.specs.ExpressionMachine.{IsStuck}
use Rattle.pipe_parser.specs.ExpressionFaults.{whole}
use Rattle.pipe_parser.proofs.FullExpressions.{window_read, window_stuck, stuck_within, stuck_in_window, read_in_window}
use Rattle.pipe_parser.proofs.full_expression.read_in_window.Goals as goal

pub returns-then-len-eq0-clause-err : goal.returns-then-len-eq0-clause-err
returns-then-len-eq0-clause-err c =
    let read = rw c.prefix-window.ensures at c.in-Ok.ensures.ok in
    rw c.len.ensures (window_read _ _ _ c.requires read (sym c.len-in-Ok.ensures ∙ c.if-len-eq0.true))

pub overflow_sub-len : goal.overflow_sub-len
overflow_sub-len c =
    let window : length c.prefix-window.result ≡ 257 = ap length c.prefix-window.ensures ∙ length-take-le 257 c.args.symbols.now
    (omega (arith, c.requires)) in
    omega (arith, c.len-in-Ok-2.ensures, c.in-Ok.ensures.shorter, window)

pub returns-then-left-eq0-clause-err : goal.returns-then-left-eq0-clause-err
returns-then-left-eq0-clause-err c =
    let stuck : IsStuck whole c.prefix-window.result c.in-Err-Unexpected.left = rw c.in-Err-Unexpected.field-0-is at
    c.in-Err-Unexpected.ensures.err in
    rw c.len.ensures (window_stuck _ c.requires (rw (c.prefix-window.ensures, c.if-left-eq0.true) at stuck))

pub overflow_add-result-in-Err-Unexpected : goal.overflow_add-result-in-Err-Unexpected
overflow_add-result-in-Err-Unexpected c =
    let stuck : IsStuck whole c.prefix-window.result c.in-Err-Unexpected.left = rw c.in-Err-Unexpected.field-0-is at
    c.in-Err-Unexpected.ensures.err in
    let window : length c.prefix-window.result ≡ 257 = ap length c.prefix-window.ensures ∙ length-take-le 257 c.args.symbols.now
    (omega (arith, c.requires)) in
    omega (arith, stuck_within _ _ stuck, window, c.len.type_inv, c.len.ensures, c.requires)

pub returns-else-len-eq0-clause-ok : goal.returns-else-len-eq0-clause-ok
returns-else-len-eq0-clause-ok c =
    let read = rw c.prefix-window.ensures at c.in-Ok.ensures.ok in
    let some : 0 < length c.in-Ok.rest = grind (arith, c.if-len-eq0.false, c.len-in-Ok.ensures) in
    rw (c.skip.ensures, c.len-in-Ok-2.ensures) (read_in_window _ _ _ c.requires read some)

pub returns-else-len-eq0-clause-shorter : goal.returns-else-len-eq0-clause-shorter
returns-else-len-eq0-clause-shorter c =
    let window : length c.prefix-window.result ≡ 257 = ap length c.prefix-window.ensures ∙ length-take-le 257 c.args.symbols.now
    (omega (arith, c.requires)) in
    rw (c.skip.ensures, c.len-in-Ok-2.ensures)
    (omega (arith, length-drop (257 - length c.in-Ok.rest) c.args.symbols.now, c.in-Ok.ensures.shorter, window, c.requires))

pub returns-else-left-eq0-clause-err : goal.returns-else-left-eq0-clause-err
returns-else-left-eq0-clause-err c =
    let stuck : IsStuck whole c.prefix-window.result c.in-Err-Unexpected.left = rw c.in-Err-Unexpected.field-0-is at
    c.in-Err-Unexpected.ensures.err in
    let some : 0 < c.in-Err-Unexpected.left = grind (arith, c.if-left-eq0.false) in
    rw c.len.ensures (stuck_in_window _ _ c.requires some (rw c.prefix-window.ensures at stuck))
