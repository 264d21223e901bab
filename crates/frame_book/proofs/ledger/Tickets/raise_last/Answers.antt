use Rattle.std.proofs.Common.{◌≡◌, ◌<◌, ◌-◌, suc, sym, ap, ◌∙◌, max, length, arith, subst, refl}
use Rattle.std.proofs.lemmas.Grind.{common_steps}
use Rattle.frame_book.specs.TicketLog.{Ledger}
use Rattle.frame_book.specs.BookStates.{last_ticket}
use Rattle.frame_book.proofs.BookLogs.LogEntries.{raised_is, last_ticket_raised}
use Rattle.frame_book.proofs.ledger.Tickets.raise_last.Goals as goal

pub invariant_of-self : goal.invariant_of-self
invariant_of-self c =
    let some : 0 < length c.self.inside.entries.items = subst (λ (l : Ledger). 0 < length l.log) (sym c.self.view_is) c.requires in
    let place : suc (c.len-index.result - 1) ≡ length c.self.inside.entries.items =
    (let e = c.len-index.ensures in let s = some in grind (arith, common_steps)) in
    let ticket : c.max-ticket.result ≡ max (last_ticket c.self.inside.entries.items) c.args.least = c.max-ticket.ensures
    ∙ ap (λ l. max l c.args.least) c.self.invariant.0 in
    let raised = raised_is c.self.inside.entries.items (c.len-index.result - 1) c.index_mut.result.now c.max-ticket.result c.args.least
    place c.index_mut.ensures.value ticket in
    (ticket ∙ sym (ap last_ticket raised ∙ last_ticket_raised c.self.inside.entries.items c.args.least some), c.self.invariant.1)

pub returns : goal.returns
returns c =
    let some : 0 < length c.self.inside.entries.items = subst (λ (l : Ledger). 0 < length l.log) (sym c.self.view_is) c.requires in
    let place : suc (c.len-index.result - 1) ≡ length c.self.inside.entries.items =
    (let e = c.len-index.ensures in let s = some in grind (arith, common_steps)) in
    let ticket : c.max-ticket.result ≡ max (last_ticket c.self.inside.entries.items) c.args.least = c.max-ticket.ensures
    ∙ ap (λ l. max l c.args.least) c.self.invariant.0 in
    let raised = raised_is c.self.inside.entries.items (c.len-index.result - 1) c.index_mut.result.now c.max-ticket.result c.args.least
    place c.index_mut.ensures.value ticket in
    rw (raised, ← c.self.view_is) refl
