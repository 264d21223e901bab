-- The tickets at which the instances of an iteration start and end.
use Rattle.std.proofs.Common.{ℕ, List, ◌≡◌, ◌++◌, refl, [], ap, sym, append_assoc, ◌∙◌, ◌∷◌, length, Some, ◌<◌, arith, zero, suc, ◌⊎◌, inr}
use Rattle.std.proofs.Common.{inl, Bool, true, false, ◌==◌}
use Rattle.pipe_model.specs.Races.DeterminacyRaces.{Among, Here, Later}
use Rattle.pipe_model.specs.Runs.TicketLogs.{start_tickets, start_ticket, end_tickets, end_ticket, ticket_at, if_ticket}
use Rattle.pipe_model.specs.declared.ticket.BookEntry.{BookEntry}
use Rattle.pipe_model.specs.declared.event.Event.{Event}
use Rattle.pipe_model.specs.declared.event.Event.TheVariants.{Begin, Enter, Access, Advance, Finish, Stop}
use Rattle.pipe_model.proofs.Members.{only_one, none_among, among_either}

-- the starts in two parts of a book
pub start_tickets-append : (i : ℕ) (xs ys : List BookEntry)
    → start_tickets i (xs ++ ys) ≡ start_tickets i xs ++ start_tickets i ys
start_tickets-append i [] ys = refl
start_tickets-append i (b ∷ xs) ys =
    ap (λ l. start_ticket i b.event b.ticket ++ l) (start_tickets-append i xs ys)
    ∙ sym (append_assoc (start_ticket i b.event b.ticket) (start_tickets i xs) (start_tickets i ys))

-- the ends in two parts of a book
pub end_tickets-append : (i : ℕ) (xs ys : List BookEntry)
    → end_tickets i (xs ++ ys) ≡ end_tickets i xs ++ end_tickets i ys
end_tickets-append i [] ys = refl
end_tickets-append i (b ∷ xs) ys =
    ap (λ l. end_ticket i b.event b.ticket ++ l) (end_tickets-append i xs ys)
    ∙ sym (append_assoc (end_ticket i b.event b.ticket) (end_tickets i xs) (end_tickets i ys))

-- an index below the length of the first part is the index of one of its tickets
pub ticket_left : (xs ys : List ℕ) (n : ℕ) → n < length xs → (t : ℕ) × (ticket_at (xs ++ ys) n ≡ Some t) × Among t xs
ticket_left [] ys n l = absurd (omega (arith, l))
ticket_left (x ∷ xs) ys zero l = (x, refl, Here)
ticket_left (x ∷ xs) ys (suc n) l = let h = ticket_left xs ys n (omega (arith, l)) in (h.0, h.1, Later x h.2)

-- a ticket of both parts has such an index, or is of the second part
pub ticket_right : (xs ys : List ℕ) (n t : ℕ) → ticket_at (xs ++ ys) n ≡ Some t → (n < length xs) ⊎ Among t ys
ticket_right [] [] n t e = absurd (cc)
ticket_right [] (y ∷ ys) zero t e = let same : t ≡ y = cc in inr (rw same Here)
ticket_right [] (y ∷ ys) (suc n) t e = elim (ticket_right [] ys n t e) [
  | inl l ↦ absurd (omega (arith, l))
  | inr m ↦ inr (Later y m)
]
ticket_right (x ∷ xs) ys zero t e = inl (omega arith)
ticket_right (x ∷ xs) ys (suc n) t e = elim (ticket_right xs ys n t e) [
  | inl l ↦ inl (omega (arith, l))
  | inr m ↦ inr m
]

-- the ticket is one of the book
pub record HasTicket (bs : List BookEntry) (t : ℕ) : Type 0 where
  pub entry : BookEntry
  pub made : Among entry bs
  pub is : entry.ticket ≡ t

-- an event has at most one ticket
one_ticket : (b : Bool) (t u : ℕ) → Among u (if_ticket b t) → u ≡ t
one_ticket true t u m = only_one u t m
one_ticket false t u m = absurd (none_among u m)

-- the ticket of a start is the ticket of its event
start_ticket_is : (i : ℕ) (e : Event) (t u : ℕ) → Among u (start_ticket i e t) → u ≡ t
start_ticket_is i (Begin j) t u m = one_ticket (j == i) t u m
start_ticket_is i (Enter j) t u m = one_ticket (j == i) t u m
start_ticket_is i (Access j a) t u m = absurd (none_among u m)
start_ticket_is i (Advance j k n) t u m = absurd (none_among u m)
start_ticket_is i (Finish j e) t u m = absurd (none_among u m)
start_ticket_is i Stop t u m = absurd (none_among u m)

-- the ticket of an end is the ticket of its event
end_ticket_is : (i : ℕ) (e : Event) (t u : ℕ) → Among u (end_ticket i e t) → u ≡ t
end_ticket_is i (Begin j) t u m = absurd (none_among u m)
end_ticket_is i (Enter j) t u m = absurd (none_among u m)
end_ticket_is i (Access j a) t u m = absurd (none_among u m)
end_ticket_is i (Advance j k n) t u m = one_ticket (j == i) t u m
end_ticket_is i (Finish j e) t u m = one_ticket (j == i) t u m
end_ticket_is i Stop t u m = absurd (none_among u m)

-- the ticket of a start is one of the book
pub start_has : (i : ℕ) (bs : List BookEntry) (t : ℕ) → Among t (start_tickets i bs) → HasTicket bs t
start_has i [] t m = absurd (none_among t m)
start_has i (b ∷ bs) t m = elim (among_either t (start_ticket i b.event b.ticket) (start_tickets i bs) m) [
  | inl here ↦ record { entry = b; made = Here; is = sym (start_ticket_is i b.event b.ticket t here) }
  | inr there ↦ (let h = start_has i bs t there in record { entry = h.entry; made = Later b h.made; is = h.is })
]

-- the ticket of an end is one of the book
pub end_has : (i : ℕ) (bs : List BookEntry) (t : ℕ) → Among t (end_tickets i bs) → HasTicket bs t
end_has i [] t m = absurd (none_among t m)
end_has i (b ∷ bs) t m = elim (among_either t (end_ticket i b.event b.ticket) (end_tickets i bs) m) [
  | inl here ↦ record { entry = b; made = Here; is = sym (end_ticket_is i b.event b.ticket t here) }
  | inr there ↦ (let h = end_has i bs t there in record { entry = h.entry; made = Later b h.made; is = h.is })
]

-- the number of tickets does not depend on the tickets
pub any_ticket : (b : Bool) (t u : ℕ) → length (if_ticket b t) ≡ length (if_ticket b u)
any_ticket true t u = refl
any_ticket false t u = refl

-- the number of starts of an event does not depend on its ticket
pub any_start : (i : ℕ) (e : Event) (t : ℕ) → length (start_ticket i e t) ≡ length (start_ticket i e 0)
any_start i (Begin j) t = any_ticket (j == i) t 0
any_start i (Enter j) t = any_ticket (j == i) t 0
any_start i (Access j a) t = refl
any_start i (Advance j k n) t = refl
any_start i (Finish j e) t = refl
any_start i Stop t = refl

-- the number of ends of an event does not depend on its ticket
pub any_end : (i : ℕ) (e : Event) (t : ℕ) → length (end_ticket i e t) ≡ length (end_ticket i e 0)
any_end i (Begin j) t = refl
any_end i (Enter j) t = refl
any_end i (Access j a) t = refl
any_end i (Advance j k n) t = any_ticket (j == i) t 0
any_end i (Finish j e) t = any_ticket (j == i) t 0
any_end i Stop t = refl

-- the index of a ticket is below the length
pub ticket_within : (ts : List ℕ) (n t : ℕ) → ticket_at ts n ≡ Some t → n < length ts
ticket_within [] n t e = absurd (cc)
ticket_within (x ∷ ts) zero t e = omega arith
ticket_within (x ∷ ts) (suc n) t e = let h = ticket_within ts n t e in omega (arith, h)
