-- A last ticket that was raised keeps the tables.
use Rattle.std.proofs.Common.{◌≡◌, ℕ, ℤ, zero, suc, ◌+◌, ◌^◌, ◌<◌, ◌≤◌, List, [], ◌∷◌, ◌++◌, length, map, max, get_or, refl, ap, ap₂, sym}
use Rattle.std.proofs.Common.{◌∙◌, arith, subst, Bool, true, false, append-nil}
use Rattle.std.proofs.lemmas.List.{map-append, length-map}
use Rattle.pipe_model.specs.declared.event.Event.{Event}
use Rattle.pipe_model.specs.declared.event.Event.TheVariants.{Begin, Advance, Enter, Finish, Stop, Access}
use Rattle.pipe_model.specs.declared.ticket.BookEntry.{BookEntry}
use Rattle.pipe_model.specs.declared.ticket.Entry.{Entry}
use Rattle.pipe_model.specs.Pipelines.Behaviour.{Action, Performs}
use Rattle.pipe_model.specs.Language.Programs.{pipeline_of}
use Rattle.pipe_model.specs.Runs.RunLogs.{state_after}
use Rattle.pipe_model.specs.Orders.Starts.{starts_of}
use Rattle.pipe_model.specs.Language.SyntaxTree.{SyntaxTree, tree_of}
use Rattle.pipe_model.specs.Runs.TicketLogs.{TimedAction, laid_traces, end_actions, end_action, if_end}
use Rattle.pipe_frame.specs.Ties.{Tie}
use Rattle.frame_book.specs.BookStates.{HasRisingTickets, events_of, with_last_raised, made}
use Rattle.frame_book.specs.Invariant.{IsBook, MatchesFrame, actions_in}
use Rattle.frame_book.specs.Tables.{Tables}
use Rattle.frame_book.proofs.BookLogs.AtEvents.{at_events}
use Rattle.frame_book.proofs.BookLogs.LogEntries.{last_ticket_raised}

-- the events stay
pub events_raised : (log : List BookEntry) (least : ℕ) → events_of (with_last_raised log least) ≡ events_of log
events_raised [] least = refl
events_raised (b ∷ []) least = refl
events_raised (b ∷ (c ∷ bs)) least = ap (λ l. b.event ∷ l) (events_raised (c ∷ bs) least)

pub length_raised : (log : List BookEntry) (least : ℕ) → length (with_last_raised log least) ≡ length log
length_raised [] least = refl
length_raised (b ∷ []) least = refl
length_raised (b ∷ (c ∷ bs)) least = ap suc (length_raised (c ∷ bs) least)

if_end_same : (t : Bool) (n m : ℕ) (x : Action) → map (λ (a : TimedAction). a.action) (if_end t n x) ≡ map (λ (a : TimedAction). a.action)
    (if_end t m x)
if_end_same true n m x = refl
if_end_same false n m x = refl

end_action_same : (i : ℕ) (e : Event) (n m : ℕ) → map (λ (a : TimedAction). a.action) (end_action i e n) ≡ map
    (λ (a : TimedAction). a.action) (end_action i e m)
end_action_same i (Begin j) n m = refl
end_action_same i (Enter j) n m = refl
end_action_same i (Access j a) n m = refl
end_action_same i (Advance j k x) n m = if_end_same _ n m _
end_action_same i (Finish j e) n m = if_end_same _ n m _
end_action_same i Stop n m = refl

-- the ends stay, but for a ticket
ends_raised : (i : ℕ) (log : List BookEntry) (least : ℕ) → map (λ (a : TimedAction). a.action)
    (end_actions i (with_last_raised log least)) ≡ map (λ (a : TimedAction). a.action) (end_actions i log)
ends_raised i [] least = refl
ends_raised i (b ∷ []) least =
    ap (map (λ (a : TimedAction). a.action)) (append-nil (end_action i b.event (max b.ticket least)))
    ∙ (end_action_same i b.event (max b.ticket least) b.ticket ∙ ap (map (λ (a : TimedAction). a.action))
    (sym (append-nil (end_action i b.event b.ticket))))
ends_raised i (b ∷ (c ∷ bs)) least =
    map-append (λ (a : TimedAction). a.action) (end_action i b.event b.ticket) (end_actions i (with_last_raised (c ∷ bs) least))
    ∙ (ap (λ l. map (λ (a : TimedAction). a.action) (end_action i b.event b.ticket) ++ l) (ends_raised i (c ∷ bs) least)
    ∙ sym (map-append (λ (a : TimedAction). a.action) (end_action i b.event b.ticket) (end_actions i (c ∷ bs))))

-- traces laid with equal ends
laid_by_actions : (made' : ℕ → List TimedAction) (k : ℕ) (xs ys : List TimedAction) → map (λ (a : TimedAction). a.action) xs ≡ map
    (λ (a : TimedAction). a.action) ys
    → map (λ (a : TimedAction). a.action) (laid_traces made' k xs) ≡ map (λ (a : TimedAction). a.action) (laid_traces made' k ys)
laid_by_actions made' k [] [] e = refl
laid_by_actions made' k [] (y ∷ ys) e = absurd (let q = ap length e in omega (arith, q))
laid_by_actions made' k (x ∷ xs) [] e = absurd (let q = ap length e in omega (arith, q))
laid_by_actions made' k (x ∷ xs) (y ∷ ys) e =
    let a : x.action ≡ y.action = cc in
    let r : map (λ (a : TimedAction). a.action) xs ≡ map (λ (a : TimedAction). a.action) ys = cc in
    map-append (λ (a : TimedAction). a.action) (made' k) (x ∷ laid_traces made' (k + 1) xs)
    ∙ (ap₂ (λ p l. map (λ (a : TimedAction). a.action) (made' k) ++ p ∷ l) a (laid_by_actions made' (k + 1) xs ys r)
    ∙ sym (map-append (λ (a : TimedAction). a.action) (made' k) (y ∷ laid_traces made' (k + 1) ys)))

-- what the iterations have done stays
pub actions_raised : (log : List BookEntry) (least : ℕ) (traces : List (List (List Entry))) (i : ℕ)
    → actions_in (with_last_raised log least) traces i ≡ actions_in log traces i
actions_raised log least traces i = laid_by_actions (made traces i) 0 (end_actions i (with_last_raised log least)) (end_actions i log)
    (ends_raised i log least)

pub ends_length : (i : ℕ) (log : List BookEntry) (least : ℕ) → length (end_actions i (with_last_raised log least)) ≡ length
    (end_actions i log)
ends_length i log least =
    let e = ap length (ends_raised i log least) in
    let a = length-map (end_actions i (with_last_raised log least)) (λ (a : TimedAction). a.action) in
    let b = length-map (end_actions i log) (λ (a : TimedAction). a.action) in
    omega (arith, e, a, b)

-- entries before the last stay, and no ticket falls
raised_before : (log : List BookEntry) (least k : ℕ) (d : BookEntry) → suc k < length log → get_or
    (with_last_raised log least) k d ≡ get_or log k d
raised_before [] least k d l = absurd (omega (arith, l))
raised_before (b ∷ []) least k d l = absurd (omega (arith, l))
raised_before (b ∷ (c ∷ bs)) least zero d l = refl
raised_before (b ∷ (c ∷ bs)) least (suc k) d l = raised_before (c ∷ bs) least k d (omega (arith, l))

raised_at_least : (log : List BookEntry) (least k : ℕ) (d : BookEntry) → k < length log → (get_or log k d).ticket
    ≤ (get_or (with_last_raised log least) k d).ticket
raised_at_least [] least k d l = absurd (omega (arith, l))
raised_at_least (b ∷ []) least zero d l = omega arith
raised_at_least (b ∷ []) least (suc k) d l = absurd (omega (arith, l))
raised_at_least (b ∷ (c ∷ bs)) least zero d l = omega arith
raised_at_least (b ∷ (c ∷ bs)) least (suc k) d l = raised_at_least (c ∷ bs) least k d (omega (arith, l))

-- tickets still rise
pub rise_raised : (log : List BookEntry) (least : ℕ) → HasRisingTickets log → HasRisingTickets (with_last_raised log least)
rise_raised log least h = λ i j d l w.
    let n = length_raised log least in
    let w' : j < length log = omega (arith, w, n) in
    let a = ap (λ (x : BookEntry). x.ticket) (raised_before log least i d (omega (arith, l, w'))) in
    let b = raised_at_least log least j d w' in
    let q = h i j d l w' in
    omega (arith, a, b, q)

module _ {M : Type 0} (Whole : SyntaxTree → M → Type 0) (ReadyAt : SyntaxTree → List ℤ → M → ℕ → List (List ℤ) → Type 0) (tie : M → Tie)
    (b : Tables M) (h : IsBook Whole ReadyAt tie b) (least : ℕ) (bound : least ≤ 2 ^ 62 + length b.ledger.log)
    (some : 0 < length b.ledger.log) where
  abbrev pub with_raise : Tables M
  with_raise = record b { ledger = record { log = with_last_raised b.ledger.log least; room = b.ledger.room } }

  pub raise_keeps : IsBook Whole ReadyAt tie with_raise
  raise_keeps =
      let n = length_raised b.ledger.log least in
      at_events Whole ReadyAt tie with_raise (events_of b.ledger.log) (starts_of (events_of b.ledger.log))
      (state_after (events_of b.ledger.log)) (events_raised b.ledger.log least) refl refl record {
        sized = h.sized;
        logged = h.logged;
        rows = h.rows;
        actions = record {
          performs = λ i. subst (Performs ((pipeline_of (tree_of b.program) b.input).behaviour i))
              (sym (actions_raised b.ledger.log least (map (λ r. r.traces) b.rows) i)) (h.actions.performs i);
          matches = λ i f e. subst (MatchesFrame f) (sym (actions_raised b.ledger.log least (map (λ r. r.traces) b.rows) i))
              (h.actions.matches i f e);
        };
        counted = λ i u. ends_length i b.ledger.log least ∙ h.counted i u;
        tokens = record {
          tokens = h.tokens.tokens;
          nows = λ i t e. (let a = h.tokens.nows i t e in omega (arith, a, n));
          at_home =
              h.tokens.at_home;
        };
        down = h.down;
        right = h.right;
        stopped = h.stopped;
        closed = h.closed;
        alive = h.alive;
        size = h.size;
        some = h.some;
        last = (let e = last_ticket_raised b.ledger.log least some in let l = h.last in omega (arith, e, l, n, bound));
        reads = (let r = h.reads in omega (arith, r, n));
        reserve = h.reserve;
        rise = rise_raised b.ledger.log least h.rise;
      }

-- a stopped book has an entry
pub stopped_some : (log : List BookEntry) → (state_after (events_of log)).stopped ≡ true → 0 < length log
stopped_some [] e = absurd (let q : false ≡ true = e in cc)
stopped_some (b ∷ log) e = omega arith
