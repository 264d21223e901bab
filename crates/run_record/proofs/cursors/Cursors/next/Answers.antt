-- The entry of the first log is the next of the merge.
use Rattle.std.proofs.Common.{◌≡◌, ℕ, ◌+◌, ◌<◌, List, length, get_or, set, drop, slice_index, slice_get}
use Rattle.std.proofs.Common.{Option, Some, refl, ap, subst, ◌∙◌, arith}
use Rattle.std.proofs.lemmas.List.{get_or_read}
use Rattle.std.proofs.lemmas.Option.{slice_get-get_or, slice_get_past, slice_get_within}
use Rattle.pipe_model.specs.declared.event.Event.TheVariants.{Begin}
use Rattle.pipe_model.specs.Runs.TicketLogs.{IsMerge, OfBook, OfShard}
use Rattle.run_record.specs.declared.cursors.NextLog.{NextLog}
use Rattle.run_record.specs.declared.cursors.NextLog.TheVariants.{Book, Shard}
use Rattle.run_record.specs.LogCursors.{IsFirst, left_in_shards, rest_of_shard}
use Rattle.run_record.specs.MergedLogs.{shard_at}
use Rattle.run_record.proofs.NextEntries.{book_next, none_next, shard_next}
use Rattle.run_record.proofs.RestsOfLogs.{fewer_in_shards}
use Rattle.run_record.proofs.cursors.Cursors.next.Goals as goal

first_of : (o p : Option ℕ) (ts us : List (Option ℕ)) (log : NextLog) → o ≡ p → ts ≡ us → IsFirst o ts (length ts) log
    → IsFirst p us (length us) log
first_of o p ts us log ticket tickets h =
    subst (λ t. IsFirst p t (length t) log) tickets (subst (λ q. IsFirst q ts (length ts) log) ticket h)

-- the entry of the shard that has the next one
entry_is : (c : goal.After-result-in-Shard-1)
    → slice_get (shard_at c.args.shards.now c.in-Shard.number) (slice_index c.args.self.now.shards.items c.in-Shard.number)
    ≡ Some c.take-entry.result
entry_is c =
    let first = first_of _ _ _ _ (Shard c.in-Shard.number) c.ticket_in_book-ticket.ensures c.as_slice.ensures.value c.in-Shard.ensures in
    let tickets = c.requires.cursors.tickets in
    let within = first.within in
    let inside : c.in-Shard.number < length c.args.shards.now = omega (arith, within, tickets) in
    let shard = c.as_slice-in-Shard.ensures ∙ get_or_read c.args.shards.now _ _ inside c.index-shards-number.is _ in
    subst (λ s. slice_get s (slice_index c.args.self.now.shards.items c.in-Shard.number) ≡ Some c.take-entry.result) shard
    c.take-entry.ensures.entry

pub returns-then-index-book-clause-event : goal.returns-then-index-book-clause-event
returns-then-index-book-clause-event c =
    let book = c.args.book.now in
    let i = c.args.self.now.book in
    let at = slice_get-get_or book i (record { ticket = 0; event = Begin 0 }) c.if-index-book.true in
    λ entries merges. (
      OfBook (get_or book i (record { ticket = 0; event = Begin 0 })),
      refl,
      book_next book c.args.shards.now c.args.self.now.shards.items c.args.self.now.tickets.items i _ c.requires.book c.requires.shards
          c.requires.cursors.are
          (first_of _ _ _ _ Book c.ticket_in_book-ticket.ensures c.as_slice.ensures.value c.in-Book.ensures) at entries merges,
    )

pub returns-else-index-book-clause-event : goal.returns-else-index-book-clause-event
returns-else-index-book-clause-event c =
    none_next c.args.book.now c.args.shards.now c.args.self.now.shards.items c.args.self.now.tickets.items c.args.self.now.book
    c.requires.cursors.are
    (first_of _ _ _ _ Book c.ticket_in_book-ticket.ensures c.as_slice.ensures.value c.in-Book.ensures)
    (slice_get_past c.args.book.now c.args.self.now.book c.if-index-book.false)

pub returns-in-Shard-clause-event : goal.returns-in-Shard-clause-event
returns-in-Shard-clause-event c =
    let book = c.args.book.now in
    let shards = c.args.shards.now in
    let old = c.args.self.now in
    let new = c.take-entry.new.self in
    let k = c.in-Shard.number in
    let first = first_of _ _ _ _ (Shard k) c.ticket_in_book-ticket.ensures c.as_slice.ensures.value c.in-Shard.ensures in
    let within = first.within in
    let cursors = c.requires.cursors.cursors in
    let tickets = c.requires.cursors.tickets in
    let inside : k < length old.shards.items = omega (arith, within, cursors, tickets) in
    λ entries merges. (
      OfShard k c.take-entry.result,
      refl,
      shard_next book shards old.shards.items old.tickets.items old.book k c.take-entry.result c.requires.book c.requires.shards
          c.requires.cursors.are inside first (entry_is c) entries
          (subst (λ n. IsMerge (drop n book) (rest_of_shard shards (set old.shards.items k (slice_index old.shards.items k + 1))) entries)
          c.take-entry.ensures.book
          (subst (λ cs. IsMerge (drop new.book book) (rest_of_shard shards cs) entries) c.take-entry.ensures.shards merges)),
    )

pub returns-in-Shard-clause-fewer : goal.returns-in-Shard-clause-fewer
returns-in-Shard-clause-fewer c =
    let old = c.args.self.now in
    let k = c.in-Shard.number in
    let first = first_of _ _ _ _ (Shard k) c.ticket_in_book-ticket.ensures c.as_slice.ensures.value c.in-Shard.ensures in
    let within = first.within in
    let cursors = c.requires.cursors.cursors in
    let tickets = c.requires.cursors.tickets in
    let inside : k < length old.shards.items = omega (arith, within, cursors, tickets) in
    let some = slice_get_within (shard_at c.args.shards.now k) (slice_index old.shards.items k) c.take-entry.result (entry_is c) in
    let less = fewer_in_shards c.args.shards.now old.shards.items k inside some in
    let moved = ap (λ cs. left_in_shards c.args.shards.now cs) c.take-entry.ensures.shards in
    let book = c.take-entry.ensures.book in
    omega (arith, less, moved, book)
