-- Logs and their tickets.
use Rattle.std.proofs.Common.{◌≡◌, ℕ, zero, suc, get_or, set, ◌+◌, ◌<◌, ◌≤◌, List, [], ◌∷◌, ◌++◌, max, length, refl, ap, sym, ◌∙◌, arith}
use Rattle.std.proofs.Common.{append_assoc, append-nil, inl, inr}
use Rattle.std.proofs.lemmas.Bool.{cases_lt}
use Rattle.std.proofs.lemmas.List.{map-append, length_push}
use Rattle.std.proofs.lemmas.List.Quantifiers.{all_pairs_push}
use Rattle.pipe_model.specs.declared.event.Event.{Event}
use Rattle.pipe_model.specs.declared.ticket.BookEntry.{BookEntry}
use Rattle.pipe_model.specs.Runs.State.{initial_state, next_state}
use Rattle.pipe_model.specs.Orders.Starts.{starts_of, started_by}
use Rattle.pipe_model.specs.Runs.RunLogs.{state_after}
use Rattle.pipe_model.specs.Runs.TicketLogs.{end_actions, end_action}
use Rattle.run_laws.proofs.ListOrders.StartsOfRuns.{starts_from-push}
use Rattle.run_laws.proofs.RunStates.FrontAndBack.{state_from-push}
use Rattle.frame_book.specs.BookStates.{HasRisingTickets, last_ticket, with_events, events_of, with_last_raised}

-- the last ticket of a longer log
pub last_ticket-push : (log : List BookEntry) (b : BookEntry) → last_ticket (log ++ b ∷ []) ≡ b.ticket
last_ticket-push [] b = refl
last_ticket-push (x ∷ []) b = refl
last_ticket-push (x ∷ (y ∷ log)) b = last_ticket-push (y ∷ log) b

-- the entry of one event more
abbrev pub entry_of : List BookEntry → ℕ → Event → BookEntry
entry_of log now e = record { ticket = suc (max (last_ticket log) now); event = e }

-- the events of a log with one more
pub events_of_with : (log : List BookEntry) (now : ℕ) (e : Event) → events_of (with_events log now (e ∷ [])) ≡ events_of log ++ e ∷ []
events_of_with log now e = map-append (λ (b : BookEntry). b.event) log (entry_of log now e ∷ [])

-- its last ticket
pub last_ticket_with : (log : List BookEntry) (now : ℕ) (e : Event) → last_ticket (with_events log now (e ∷ [])) ≡ suc
    (max (last_ticket log) now)
last_ticket_with log now e = last_ticket-push log (entry_of log now e)

-- its length
pub length_with : (log : List BookEntry) (now : ℕ) (e : Event) → length (with_events log now (e ∷ [])) ≡ length log + 1
length_with log now e = length_push log (entry_of log now e)

-- the state after one event more
pub state_after-push : (es : List Event) (e : Event) → state_after (es ++ e ∷ []) ≡ next_state (state_after es) e
state_after-push es e = state_from-push initial_state es e

-- the starts after one event more
pub starts_of-push : (es : List Event) (e : Event) → starts_of (es ++ e ∷ []) ≡ starts_of es ++ started_by (state_after es) e
starts_of-push es e = starts_from-push initial_state es e

-- the ends of a longer log
pub end_actions-push : (i : ℕ) (log : List BookEntry) (b : BookEntry) → end_actions i (log ++ b ∷ []) ≡ end_actions i log ++ end_action i
    b.event b.ticket
end_actions-push i [] b = append-nil (end_action i b.event b.ticket)
end_actions-push i (x ∷ log) b = ap (λ l. end_action i x.event x.ticket ++ l) (end_actions-push i log b)
    ∙ sym (append_assoc (end_action i x.event x.ticket) (end_actions i log) (end_action i b.event b.ticket))

-- the last entry with its ticket raised
pub raised_is : (xs : List BookEntry) (n : ℕ) (e : BookEntry) (t least : ℕ) → suc n ≡ length xs → e ≡ get_or xs n e
    → t ≡ max (last_ticket xs) least → set xs n (record e { ticket = t }) ≡ with_last_raised xs least
raised_is [] n e t least l q m = absurd (omega (arith, l))
raised_is (b ∷ []) (suc n) e t least l q m = absurd (omega (arith, l))
raised_is (b ∷ []) zero e t least l q m = ap (λ (x : BookEntry). record x { ticket = t } ∷ []) q ∙ ap (λ k. record b { ticket = k } ∷ []) m
raised_is (b ∷ (c ∷ bs)) zero e t least l q m = absurd (omega (arith, l))
raised_is (b ∷ (c ∷ bs)) (suc n) e t least l q m = ap (λ ys. b ∷ ys) (raised_is (c ∷ bs) n e t least (omega (arith, l)) q m)

-- its ticket
pub last_ticket_raised : (xs : List BookEntry) (least : ℕ) → 0 < length xs → last_ticket (with_last_raised xs least) ≡ max
    (last_ticket xs) least
last_ticket_raised [] least l = absurd (omega (arith, l))
last_ticket_raised (b ∷ []) least l = refl
last_ticket_raised (b ∷ (c ∷ [])) least l = refl
last_ticket_raised (b ∷ (c ∷ (d ∷ bs))) least l = last_ticket_raised (c ∷ (d ∷ bs)) least (omega arith)

-- the last ticket is the ticket of the last entry
pub last_ticket_is : (log : List BookEntry) (d : BookEntry) (n : ℕ) → length log ≡ suc n → last_ticket log ≡ (get_or log n d).ticket
last_ticket_is [] d n l = absurd (omega (arith, l))
last_ticket_is (b ∷ []) d zero l = refl
last_ticket_is (b ∷ []) d (suc n) l = absurd (omega (arith, l))
last_ticket_is (b ∷ (c ∷ bs)) d zero l = absurd (omega (arith, l))
last_ticket_is (b ∷ (c ∷ bs)) d (suc n) l = last_ticket_is (c ∷ bs) d n (omega (arith, l))

-- no ticket is above the last
pub below_last : (log : List BookEntry) → HasRisingTickets log → (k : ℕ) (d : BookEntry) → k < length log
    → (get_or log k d).ticket ≤ last_ticket log
below_last [] h k d l = absurd (omega (arith, l))
below_last (b ∷ bs) h k d l =
    let e = last_ticket_is (b ∷ bs) d (length bs) refl in
    elim (cases_lt k (length bs)) [
      | inl less ↦ (let q = h k (length bs) d less (omega arith) in omega (arith, e, q))
      | inr ge ↦ (
          let s : k ≡ length bs = omega (arith, ge, l) in
          let q : (get_or (b ∷ bs) k d).ticket ≡ (get_or (b ∷ bs) (length bs) d).ticket = ap (λ n. (get_or (b ∷ bs) n d).ticket) s in
          omega (arith, e, q))
    ]

-- one event more keeps tickets rising
pub rise_with : (log : List BookEntry) (now : ℕ) (e : Event) → HasRisingTickets log → HasRisingTickets (with_events log now (e ∷ []))
rise_with log now e h = all_pairs_push (λ (a : BookEntry) (b : BookEntry). a.ticket < b.ticket) log (entry_of log now e) h
    (λ k d l. (let q = below_last log h k d l in omega (arith, q)))
