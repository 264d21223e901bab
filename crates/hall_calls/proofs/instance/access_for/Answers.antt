-- The payload has the passes that it had.
use Rattle.std.proofs.Common.{◌∙◌, sym, ap, ap₂}
use Rattle.hall_table.specs.SeatAccesses.{now_after}
use Rattle.hall_calls.proofs.instance.access_for.Goals as goal

pub returns-in-Some-clause-token : goal.returns-in-Some-clause-token
returns-in-Some-clause-token g c =
    let t = c.args.token.now in
    ap (λ p. record t { now = c.in-Some.entry.ticket; payload = p })
    (ap (g.M.Carrier.with_lists t.payload) (c.access_by-done.ensures.passes ∙ c.passes.ensures.value)
    ∙ g.met.M.Carrier.lists_are t.payload)

pub returns-in_default-clause-token : goal.returns-in_default-clause-token
returns-in_default-clause-token g c =
    let t = c.args.token.now in
    ap₂ (λ n p. record t { now = n; payload = p }) (sym (ap (now_after t.now) c.in_default.is))
    (ap (g.M.Carrier.with_lists t.payload) (c.access_by-done.ensures.passes ∙ c.passes.ensures.value)
    ∙ g.met.M.Carrier.lists_are t.payload)
