-- The traces of the instances of an iteration, one after the other: their tickets rise.
use Rattle.std.proofs.Common.{Bool, ℕ, List, map, ◌≡◌, ◌++◌, true, ap, ◌∷◌, false, refl, [], ◌==◌, ◌<◌, inl, inr, Some, ◌+◌, arith, suc}
use Rattle.std.proofs.Common.{subst, length, ◌≤◌, zero, ◌⊎◌}
use Rattle.pipe_model.specs.Pipelines.Behaviour.{Action, Staged, Ended}
use Rattle.pipe_model.specs.Races.DeterminacyRaces.{Among, Here, Later}
use Rattle.pipe_model.specs.Runs.TicketLogs.{TimedAction, if_end, if_ticket, end_actions, end_tickets, end_action, end_ticket}
use Rattle.pipe_model.specs.declared.ticket.BookEntry.{BookEntry}
use Rattle.pipe_model.specs.Runs.TicketLogs.{TicketsRise, laid_traces, ticket_at, start_tickets, InTicketOrder}
use Rattle.pipe_model.specs.declared.event.Event.{Event}
use Rattle.pipe_model.specs.declared.event.Event.TheVariants.{Begin, Enter, Access, Advance, Finish, Stop}
use Rattle.pipe_model.proofs.Members.{among_either, only_one, among_left, among_right, none_among}

-- an end and its ticket
if_end-ticket : (b : Bool) (t : ℕ) (x : Action) (es : List TimedAction) (ts : List ℕ) → map (λ e. e.ticket) es ≡ ts
    → map (λ e. e.ticket) (if_end b t x ++ es) ≡ if_ticket b t ++ ts
if_end-ticket true t x es ts h = ap (λ l. t ∷ l) h
if_end-ticket false t x es ts h = h

-- the tickets of the ends are the end tickets
pub end_actions-tickets : (i : ℕ) (bs : List BookEntry) → map (λ e. e.ticket) (end_actions i bs) ≡ end_tickets i bs
end_actions-tickets i [] = refl
end_actions-tickets i (b ∷ bs) = by_event (end_actions-tickets i bs) b.event
  where
    by_event : map (λ (e : TimedAction). e.ticket) (end_actions i bs) ≡ end_tickets i bs → (y : Event)
        → map (λ (e : TimedAction). e.ticket) (end_action i y b.ticket ++ end_actions i bs) ≡ end_ticket i y b.ticket
        ++ end_tickets i bs
    by_event rest (Begin j) = rest
    by_event rest (Enter j) = rest
    by_event rest (Access j a) = rest
    by_event rest (Advance j k n) =
        if_end-ticket (j == i) b.ticket (Staged k n) (end_actions i bs) (end_tickets i bs) rest
    by_event rest (Finish j e) = if_end-ticket (j == i) b.ticket (Ended e) (end_actions i bs) (end_tickets i bs) rest
    by_event rest Stop = rest

-- two rising lists; all of the first is before the second
rises_join : (xs ys : List TimedAction) → TicketsRise xs → TicketsRise ys
    → ((x y : TimedAction) → Among x xs → Among y ys → x.ticket < y.ticket) → TicketsRise (xs ++ ys)
rises_join [] ys r q h = q
rises_join (x ∷ xs) ys r q h = (
  λ y m. elim (among_either y xs ys m) [ inl a ↦ r.0 y a | inr a ↦ h x y Here a ],
  rises_join xs ys r.1 q (λ u v m n. h u v (Later x m) n),
)

-- the traces of instance k and of later ones rise, and are after its start
record IsLaidInOrder (book : List BookEntry) (made : ℕ → ℕ → List TimedAction) (i k : ℕ)
    (es : List TimedAction) : Type 0 where
  rises : TicketsRise (laid_traces (made i) k es)
  late : (x : TimedAction) → Among x (laid_traces (made i) k es)
      → (s : ℕ) × (ticket_at (start_tickets i book) k ≡ Some s) × (s < x.ticket)

-- they do if the tickets are in order
laid_rises : (book : List BookEntry) (made : ℕ → ℕ → List TimedAction) → InTicketOrder book made
    → (i k : ℕ) (es : List TimedAction)
    → ((j : ℕ) (t : ℕ) → ticket_at (map (λ e. e.ticket) es) j ≡ Some t
    → ticket_at (end_tickets i book) (k + j) ≡ Some t)
    → IsLaidInOrder book made i k es
laid_rises book made order i k [] h = record { rises = order.rise i k; late = order.after_start i k }
laid_rises book made order i k (e ∷ es) h =
    let z : k + 0 ≡ k = omega arith in
    let end : ticket_at (end_tickets i book) k ≡ Some e.ticket = rw z at (h 0 e.ticket refl) in
    let begun = order.start_end i k e.ticket end in
    let next = laid_rises book made order i (k + 1) es (λ j t q. (
    let w : k + suc j ≡ k + 1 + j = omega arith in
    rw w at (h (suc j) t q))) in
    let next_state : (x : TimedAction) → Among x (laid_traces (made i) (k + 1) es) → e.ticket < x.ticket = λ x m.
    let l = next.late x m in
    let up = order.down i k e.ticket l.0 end l.1 in
    let more = l.2 in
    omega (arith, up, more) in
    record {
      rises = rises_join (made i k) (e ∷ laid_traces (made i) (k + 1) es) (order.rise i k) (next_state, next.rises)
          (λ x y m n.
          let first = order.before_end i k x e.ticket m end in
          elim (among_either y (e ∷ []) (laid_traces (made i) (k + 1) es) n) [
            | inl a ↦ (let same = ap (λ (w : TimedAction). w.ticket) (only_one y e a) in omega (arith, first, same))
            | inr a ↦ (let up = next_state y a in omega (arith, first, up))
          ]);
      late = λ x m. elim (among_either x (made i k) (e ∷ laid_traces (made i) (k + 1) es) m) [
        | inl a ↦ order.after_start i k x a
        | inr a ↦ elim (among_either x (e ∷ []) (laid_traces (made i) (k + 1) es) a) [
          | inl b ↦ (
              let same = ap (λ (w : TimedAction). w.ticket) (only_one x e b) in
              let up = begun.2 in
              (begun.0, begun.1, omega (arith, same, up)))
          | inr b ↦ (let up = next_state x b in let first = begun.2 in (begun.0, begun.1, omega (arith, up, first)))
        ]
      ];
    }

-- the tickets of a whole iteration rise
pub iteration_rises : (book : List BookEntry) (made : ℕ → ℕ → List TimedAction) → InTicketOrder book made → (i : ℕ)
    → TicketsRise (laid_traces (made i) 0 (end_actions i book))
iteration_rises book made order i = (laid_rises book made order i 0 (end_actions i book) (λ j t q. (
    let z : 0 + j ≡ j = omega arith in
    rw z (subst (λ l. ticket_at l j ≡ Some t) (end_actions-tickets i book) q)))).rises

-- every access of an instance up to the last that was started is in the laid traces
pub laid_has : (made : ℕ → List TimedAction) (k : ℕ) (es : List TimedAction) (j : ℕ) (x : TimedAction) → j ≤ length es
    → Among x (made (k + j)) → Among x (laid_traces made k es)
laid_has made k [] j x l m = let z : k + j ≡ k = omega (arith, l) in rw z at m
laid_has made k (e ∷ es) zero x l m =
    let z : k + 0 ≡ k = omega arith in
    among_left x (made k) (e ∷ laid_traces made (k + 1) es) (rw z at m)
laid_has made k (e ∷ es) (suc j) x l m =
    let z : k + suc j ≡ k + 1 + j = omega arith in
    among_right x (made k) (e ∷ laid_traces made (k + 1) es)
    (Later e (laid_has made (k + 1) es j x (omega (arith, l)) (rw z at m)))

-- every end of an instance is in the laid traces
pub laid_end : (made : ℕ → List TimedAction) (k : ℕ) (es : List TimedAction) (x : TimedAction) → Among x es
    → Among x (laid_traces made k es)
laid_end made k [] x m = absurd (none_among x m)
laid_end made k (e ∷ es) x m =
    among_right x (made k) (e ∷ laid_traces made (k + 1) es) (elim (among_either x (e ∷ []) es m) [
      | inl a ↦ rw (only_one x e a) Here
      | inr a ↦ Later e (laid_end made (k + 1) es x a)
    ])

-- an action of the laid traces is an access of an instance or an end
pub laid_only : (made : ℕ → List TimedAction) (k : ℕ) (es : List TimedAction) (x : TimedAction)
    → Among x (laid_traces made k es) → ((j : ℕ) × Among x (made j)) ⊎ Among x es
laid_only made k [] x m = inl (k, m)
laid_only made k (e ∷ es) x m = elim (among_either x (made k) (e ∷ laid_traces made (k + 1) es) m) [
  | inl a ↦ inl (k, a)
  | inr a ↦ elim (among_either x (e ∷ []) (laid_traces made (k + 1) es) a) [
    | inl b ↦ inr (rw (only_one x e b) Here)
    | inr b ↦ elim (laid_only made (k + 1) es x b) [ inl c ↦ inl c | inr c ↦ inr (Later e c) ]
  ]
]
