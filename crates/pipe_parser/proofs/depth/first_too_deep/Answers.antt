use Rattle.std.proofs.Common.{◌∙◌, ap, arith, length, ◌+◌, cond}
use Rattle.pipe_parser.proofs.Depths.{counted_none, counted_more, counted_too_many, counted_all, counted_within, one_at_most}
use Rattle.pipe_parser.proofs.depth.first_too_deep.Goals as goal

pub loop-first-init : goal.loop-first-init
loop-first-init c =
    rw c.skip-rest.ensures (counted_none c.args.symbols.now)

pub overflow_add-opened : goal.overflow_add-opened
overflow_add-opened c =
    let within = counted_within _ _ _ _ c.loop-first.invariant in
    omega (
      arith,
      within.0,
      c.len-all.ensures,
      c.len-all.type_inv,
      c.one_where-opened.ensures,
      one_at_most c.is_opening_bracket.result,
      ap length
          c.in-Some.ensures.some,
    )

pub overflow_add-closed : goal.overflow_add-closed
overflow_add-closed c =
    let within = counted_within _ _ _ _ c.loop-first.invariant in
    omega (
      arith,
      within.1,
      c.len-all.ensures,
      c.len-all.type_inv,
      c.one_where-closed.ensures,
      one_at_most c.is_closing_bracket.result,
      ap length
          c.in-Some.ensures.some,
    )

pub overflow_sub-result : goal.overflow_sub-result
overflow_sub-result c =
    let within = counted_within _ _ _ _ c.loop-first.invariant in
    omega (arith, within.0, c.len-all.ensures, c.len.ensures, ap length c.in-Some.ensures.some)

pub returns-then-saturating_sub-gt-MOST_OPEN_BRACKETS-clause-some : goal.returns-then-saturating_sub-gt-MOST_OPEN_BRACKETS-clause-some
returns-then-saturating_sub-gt-MOST_OPEN_BRACKETS-clause-some c =
    let opens = c.one_where-opened.ensures ∙ ap (λ b. cond b 1 0) (c.is_opening_bracket.ensures c.in-Some.first.text.now) in
    let closes = c.one_where-closed.ensures ∙ ap (λ b. cond b 1 0) (c.is_closing_bracket.ensures c.in-Some.first.text.now) in
    rw (c.len-all.ensures, c.len.ensures)
    (counted_too_many _ _ _ _ _ _ _ _ c.loop-first.invariant c.in-Some.ensures.some (ap (λ n. c.loop-first.opened + n) opens)
    (ap (λ n. c.loop-first.closed + n) closes) (omega (arith, c.if-saturating_sub-gt-MOST_OPEN_BRACKETS.true, c.saturating_sub.ensures)))

pub loop-first-preserved : goal.loop-first-preserved
loop-first-preserved c =
    let opens = c.one_where-opened.ensures ∙ ap (λ b. cond b 1 0) (c.is_opening_bracket.ensures c.in-Some.first.text.now) in
    let closes = c.one_where-closed.ensures ∙ ap (λ b. cond b 1 0) (c.is_closing_bracket.ensures c.in-Some.first.text.now) in
    counted_more _ _ _ _ _ _ _ _ c.loop-first.invariant c.in-Some.ensures.some (ap (λ n. c.loop-first.opened + n) opens)
    (ap (λ n. c.loop-first.closed + n) closes) (omega (arith, c.if-saturating_sub-gt-MOST_OPEN_BRACKETS.false, c.saturating_sub.ensures))

pub returns-clause-none : goal.returns-clause-none
returns-clause-none c = counted_all _ _ _ _ c.loop-first.invariant c.in_default.ensures.none
