-- Each entry of a merge but `Stop` is of an instance.
use Rattle.std.proofs.Common.{◌≡◌, ◌≢◌, refl, sym, subst, ℕ, suc, false, List, [], ◌∷◌, ◌==◌, Some}
use Rattle.std.proofs.lemmas.Bool.{eq-eqb, false≢true}
use Rattle.pipe_model.specs.declared.event.Event.{Event}
use Rattle.pipe_model.specs.declared.event.Event.TheVariants.{Begin, Access, Advance, Enter, Finish, Stop}
use Rattle.pipe_model.specs.declared.node.NodeId.{NodeId}
use Rattle.pipe_model.specs.declared.ticket.BookEntry.{BookEntry}
use Rattle.pipe_model.specs.Races.Columns.{at}
use Rattle.pipe_model.specs.Races.DeterminacyRaces.{Among, Here, Later}
use Rattle.pipe_model.specs.Runs.ControlRun.{is_access}
use Rattle.pipe_model.specs.Runs.TicketLogs.{OfBook, OfShard, end_ticket, end_tickets, if_ticket, start_ticket, start_tickets, ticket_at}
use Rattle.pipe_model.proofs.Members.{among_left, among_right, none_among}
use Rattle.run_laws.proofs.LogMerge.MergeSplits.{among_events, control_has_no_access, in_book}
use Rattle.hall_laws.specs.HallRuns.{AccessesIt, EndsIt, EntriesAreOfInstances, IsOfInstance, StartsIt}

-- a ticket of the list has an index
index_of : (ts : List ℕ) (t : ℕ) → Among t ts → (n : ℕ) × (ticket_at ts n ≡ Some t)
index_of [] t m = absurd (none_among t m)
index_of (u ∷ ts) t Here = (0, refl)
index_of (u ∷ ts) t (Later z m) = (let h = index_of ts t m in (suc h.0, h.1))

ticket_kept : (j t : ℕ) → Among t (if_ticket (j == j) t)
ticket_kept j t = subst (λ b. Among t (if_ticket b t)) (sym (eq-eqb j j refl)) Here

-- the ticket of an entry of the book is among all tickets
start_among : (i : ℕ) (log : List BookEntry) (b : BookEntry) (t : ℕ) → Among b log → Among t (start_ticket i b.event b.ticket)
    → Among t (start_tickets i log)
start_among i [] b t m s = absurd (none_among b m)
start_among i (d ∷ log) b t Here s = among_left t (start_ticket i d.event d.ticket) (start_tickets i log) s
start_among i (d ∷ log) b t (Later z m) s = among_right t (start_ticket i d.event d.ticket) (start_tickets i log)
    (start_among i log b t m s)

end_among : (i : ℕ) (log : List BookEntry) (b : BookEntry) (t : ℕ) → Among b log → Among t (end_ticket i b.event b.ticket)
    → Among t (end_tickets i log)
end_among i [] b t m s = absurd (none_among b m)
end_among i (d ∷ log) b t Here s = among_left t (end_ticket i d.event d.ticket) (end_tickets i log) s
end_among i (d ∷ log) b t (Later z m) s = among_right t (end_ticket i d.event d.ticket) (end_tickets i log) (end_among i log b t m s)

module _ (log : List BookEntry) (b : BookEntry) (there : Among b log) where
  started : (i : ℕ) → Among b.ticket (start_ticket i b.event b.ticket) → (n : NodeId) × IsOfInstance log n (OfBook b)
  started i s = (let h = index_of (start_tickets i log) b.ticket (start_among i log b b.ticket there s) in (at i h.0, StartsIt b h.1))

  ended : (i : ℕ) → Among b.ticket (end_ticket i b.event b.ticket) → (n : NodeId) × IsOfInstance log n (OfBook b)
  ended i s = (let h = index_of (end_tickets i log) b.ticket (end_among i log b b.ticket there s) in (at i h.0, EndsIt b h.1))

  of_event : (e : Event) → b.event ≡ e → is_access e ≡ false → e ≢ Stop → (n : NodeId) × IsOfInstance log n (OfBook b)
  of_event (Begin i) is silent other = started i (subst (λ x. Among b.ticket (start_ticket i x b.ticket)) (sym is) (ticket_kept i b.ticket))
  of_event (Enter i) is silent other = started i (subst (λ x. Among b.ticket (start_ticket i x b.ticket)) (sym is) (ticket_kept i b.ticket))
  of_event (Access i a) is silent other = absurd (false≢true (sym silent))
  of_event (Advance i k n) is silent other = ended i
      (subst (λ x. Among b.ticket (end_ticket i x b.ticket)) (sym is) (ticket_kept i b.ticket))
  of_event (Finish i e) is silent other = ended i (subst (λ x. Among b.ticket (end_ticket i x b.ticket)) (sym is) (ticket_kept i b.ticket))
  of_event Stop is silent other = absurd (other refl)

pub entries_are_of_instances : EntriesAreOfInstances
entries_are_of_instances v shards merged book merge (OfShard k e) m other = (e.node, AccessesIt k e refl)
entries_are_of_instances v shards merged book merge (OfBook b) m other =
    let there : Among b v.log = subst (λ l. Among b l) merge.book_is (in_book merged b m) in
    of_event v.log b there b.event refl (control_has_no_access book.control b.event (among_events b v.log there)) other
