-- A merge split at one of its accesses.
use Rattle.std.proofs.Common.{ap₂, ℕ, List, false, ◌≡◌, inl, inr, [], ◌∷◌, refl, map, ap, ◌∙◌, ◌++◌, subst, sym, Bool, true, ◌==◌, ◌%◌}
use Rattle.std.proofs.lemmas.Bool.{false≢true, eq-eqb, cases_eq, ne_eqb}
use Rattle.pipe_model.specs.Runs.ControlRun.{ControlRun, is_access, EmptyControlRun, ControlRunThen}
use Rattle.run_laws.proofs.LogMerge.EventParts.{control_events}
use Rattle.pipe_model.specs.Pipelines.Pipeline.{Pipeline}
use Rattle.pipe_model.specs.Races.DeterminacyRaces.{Among, Here, Later}
use Rattle.pipe_model.specs.Runs.State.{State}
use Rattle.pipe_model.specs.Runs.TicketLogs.{LogEntry, book_in, event_of, OfBook, OfShard, if_shard, shard_in, InOrder}
use Rattle.pipe_model.specs.declared.ticket.BookEntry.{BookEntry}
use Rattle.pipe_model.specs.declared.ticket.ShardEntry.{ShardEntry}
use Rattle.pipe_model.specs.Runs.TicketLogs.{ComesBefore, IsMerge}
use Rattle.pipe_model.specs.declared.access.Access.{Access as Cell_access}
use Rattle.pipe_model.specs.declared.event.Event.{Event}
use Rattle.pipe_model.specs.declared.event.Event.TheVariants.{Begin, Access, Advance, Enter, Finish, Stop}
use Rattle.run_laws.proofs.LogMerge.FittingLogs.{FitTogether}
use Rattle.pipe_model.proofs.Members.{none_among, among_either, only_one, among_right}

-- the events of the book make no access
pub control_has_no_access : {limit : ℕ} {es : List Event} {c : State} → ControlRun limit es c → (e : Event)
    → Among e es → is_access e ≡ false
control_has_no_access EmptyControlRun e m = absurd (none_among e m)
control_has_no_access (ControlRunThen {events = es} r x n g h) e m = elim (among_either e es (x ∷ []) m) [
  | inl old ↦ control_has_no_access r e old
  | inr new ↦ rw (only_one e x new) n
]

-- a list of events with one more control event at its front
control_events-cons : (e : Event) (es : List Event) → is_access e ≡ false
    → control_events (e ∷ es) ≡ e ∷ control_events es
control_events-cons (Begin i) es n = refl
control_events-cons (Access i a) es n = absurd (cc)
control_events-cons (Advance i k m) es n = refl
control_events-cons (Enter i) es n = refl
control_events-cons (Finish i e) es n = refl
control_events-cons Stop es n = refl

-- the control events of a merge are the events of its book
pub control_events_of_merge : (xs : List LogEntry)
    → ((b : BookEntry) → Among b (book_in xs) → is_access b.event ≡ false)
    → control_events (map event_of xs) ≡ map (λ b. b.event) (book_in xs)
control_events_of_merge [] h = refl
control_events_of_merge (OfBook b ∷ xs) h =
    control_events-cons b.event (map event_of xs) (h b Here)
    ∙ ap (λ l. b.event ∷ l) (control_events_of_merge xs (λ d m. h d (Later b m)))
control_events_of_merge (OfShard k e ∷ xs) h = control_events_of_merge xs h

-- an entry of the book has its event among the events
pub among_events : (b : BookEntry) (bs : List BookEntry) → Among b bs → Among b.event (map (λ d. d.event) bs)
among_events b [] m = elim m [ ]
among_events b (d ∷ bs) Here = Here
among_events b (d ∷ bs) (Later y m) = Later d.event (among_events b bs m)

-- the split of a merge at an access
pub record IsSplit (xs : List LogEntry) (front : List Event) (i : ℕ) (a : Cell_access) : Type 0 where
  pub left : List LogEntry
  pub shard : ℕ
  pub entry : ShardEntry
  pub right : List LogEntry
  pub is : xs ≡ left ++ OfShard shard entry ∷ right
  pub events : front ≡ map event_of left
  pub iteration : i ≡ entry.node.iteration
  pub access : a ≡ entry.access

-- the split at an access, with one more entry before it
split_later : (y : LogEntry) (xs : List LogEntry) (front : List Event) (x : Event) (i : ℕ) (a : Cell_access)
    → x ≡ event_of y → IsSplit xs front i a → IsSplit (y ∷ xs) (x ∷ front) i a
split_later y xs front x i a same s = record {
  left = y ∷ s.left;
  shard = s.shard;
  entry = s.entry;
  right = s.right;
  is = ap (λ l. y ∷ l) s.is;
  events = ap₂ (λ z l. z ∷ l) same s.events;
  iteration = s.iteration;
  access = s.access;
}

-- each access among the events of a merge has its entry
pub split_at : (xs : List LogEntry) → ((b : BookEntry) → Among b (book_in xs) → is_access b.event ≡ false)
    → (front rest : List Event) (i : ℕ) (a : Cell_access) → map event_of xs ≡ front ++ Access i a ∷ rest
    → IsSplit xs front i a
split_at [] h [] rest i a e = absurd (cc)
split_at [] h (x ∷ front) rest i a e = absurd (cc)
split_at (OfBook b ∷ xs) h [] rest i a e = absurd (
    let n = h b Here in
    let q : b.event ≡ Access i a = cc in
    let w : is_access (Access i a) ≡ false = subst (λ y. is_access y ≡ false) q n in
    false≢true (sym w))
split_at (OfShard k s ∷ xs) h [] rest i a e = record {
  left = [];
  shard = k;
  entry = s;
  right = xs;
  is = refl;
  events = refl;
  iteration = cc;
  access = cc;
}
split_at (OfBook b ∷ xs) h (x ∷ front) rest i a e =
    let tail : map event_of xs ≡ front ++ Access i a ∷ rest = cc in
    let head : x ≡ b.event = cc in
    split_later (OfBook b) xs front x i a head (split_at xs (λ d m. h d (Later b m)) front rest i a tail)
split_at (OfShard k w ∷ xs) h (x ∷ front) rest i a e =
    let tail : map event_of xs ≡ front ++ Access i a ∷ rest = cc in
    let head : x ≡ Access w.node.iteration w.access = cc in
    split_later (OfShard k w) xs front x i a head (split_at xs h front rest i a tail)

-- the book in two parts of a merge
pub book_in-append : (xs ys : List LogEntry) → book_in (xs ++ ys) ≡ book_in xs ++ book_in ys
book_in-append [] ys = refl
book_in-append (OfBook b ∷ xs) ys = ap (λ l. b ∷ l) (book_in-append xs ys)
book_in-append (OfShard k e ∷ xs) ys = book_in-append xs ys

-- two lists with an optional entry at the front of the first
if_shard-append : (t : Bool) (e : ShardEntry) (xs ys : List ShardEntry)
    → if_shard t e (xs ++ ys) ≡ if_shard t e xs ++ ys
if_shard-append true e xs ys = refl
if_shard-append false e xs ys = refl

-- a shard in two parts of a merge
pub shard_in-append : (k : ℕ) (xs ys : List LogEntry) → shard_in k (xs ++ ys) ≡ shard_in k xs ++ shard_in k ys
shard_in-append k [] ys = refl
shard_in-append k (OfBook b ∷ xs) ys = shard_in-append k xs ys
shard_in-append k (OfShard j e ∷ xs) ys =
    ap (if_shard (j == k) e) (shard_in-append k xs ys) ∙ if_shard-append (j == k) e (shard_in k xs) (shard_in k ys)

-- an entry of the book is an entry of the merge
pub among_book : (xs : List LogEntry) (b : BookEntry) → Among b (book_in xs) → Among (OfBook b) xs
among_book [] b m = absurd (none_among b m)
among_book (OfBook d ∷ xs) b m = elim (among_either b (d ∷ []) (book_in xs) m) [
  | inl here ↦ rw (only_one b d here) Here
  | inr there ↦ Later (OfBook d) (among_book xs b there)
]
among_book (OfShard k e ∷ xs) b m = Later (OfShard k e) (among_book xs b m)

-- an entry of a merge that is of the book is one of the book
pub in_book : (xs : List LogEntry) (b : BookEntry) → Among (OfBook b) xs → Among b (book_in xs)
in_book [] b m = absurd (none_among (OfBook b) m)
in_book (x ∷ xs) b m = elim (among_either (OfBook b) (x ∷ []) xs m) [
  | inl here ↦ subst (λ y. Among b (book_in (y ∷ xs))) (only_one (OfBook b) x here) Here
  | inr there ↦ keep x (in_book xs b there)
]
  where
    keep : (y : LogEntry) → Among b (book_in xs) → Among b (book_in (y ∷ xs))
    keep (OfBook d) n = Later d n
    keep (OfShard j d) n = n

-- an entry of a merge that is of a shard is one of the shard
pub among_shard : (xs : List LogEntry) (k : ℕ) (e : ShardEntry) → Among (OfShard k e) xs → Among e (shard_in k xs)
among_shard [] k e m = absurd (none_among (OfShard k e) m)
among_shard (x ∷ xs) k e m = elim (among_either (OfShard k e) (x ∷ []) xs m) [
  | inl here ↦ subst (λ y. Among e (shard_in k (y ∷ xs))) (only_one (OfShard k e) x here)
      (subst (λ b. Among e (if_shard b e (shard_in k xs))) (sym (eq-eqb k k refl)) Here)
  | inr there ↦ keep x (among_shard xs k e there)
]
  where
    keep_if : (b : Bool) (d : ShardEntry) (es : List ShardEntry) → Among e es → Among e (if_shard b d es)
    keep_if true d es n = Later d n
    keep_if false d es n = n

    keep : (y : LogEntry) → Among e (shard_in k xs) → Among e (shard_in k (y ∷ xs))
    keep (OfBook b) n = n
    keep (OfShard j d) n = keep_if (j == k) d (shard_in k xs) n

-- an entry of a shard is an entry of the merge
pub of_shard : (k : ℕ) (xs : List LogEntry) (e : ShardEntry) → Among e (shard_in k xs) → Among (OfShard k e) xs
of_shard k [] e m = absurd (none_among e m)
of_shard k (OfBook b ∷ xs) e m = Later (OfBook b) (of_shard k xs e m)
of_shard k (OfShard j d ∷ xs) e m = elim (cases_eq j k) [
  | inl same ↦ elim (among_either e (d ∷ []) (shard_in k xs)
      (subst (λ b. Among e (if_shard b d (shard_in k xs))) (eq-eqb j k same) m)) [
        | inl here ↦ subst (λ y. Among (OfShard k e) (y ∷ xs)) (ap (λ n. OfShard n e) (sym same)
            ∙ ap (λ f. OfShard j f) (only_one e d here)) Here
        | inr there ↦ Later (OfShard j d) (of_shard k xs e there)
      ]
  | inr other ↦ Later (OfShard j d) (of_shard k xs e
      (subst (λ b. Among e (if_shard b d (shard_in k xs))) (ne_eqb j k other) m))
]

-- each entry before an entry of the merge is less than it in the order
pub order_before : (xs : List LogEntry) (y : LogEntry) (ys : List LogEntry) → InOrder (xs ++ y ∷ ys) → (x : LogEntry)
    → Among x xs → ComesBefore x y
order_before [] y ys h x m = absurd (none_among x m)
order_before (z ∷ xs) y ys h x Here = h.0 y (among_right y xs (y ∷ ys) Here)
order_before (z ∷ xs) y ys h x (Later w m) = order_before xs y ys h.1 x m

-- each entry after an entry of the merge is greater than it in the order
pub order_after : (xs : List LogEntry) (y : LogEntry) (ys : List LogEntry) → InOrder (xs ++ y ∷ ys) → (x : LogEntry)
    → Among x ys → ComesBefore y x
order_after [] y ys h x m = h.0 x m
order_after (z ∷ xs) y ys h x m = order_after xs y ys h.1 x m

-- an event of the book has an entry
pub event_entry : (bs : List BookEntry) (e : Event) → Among e (map (λ b. b.event) bs)
    → (b : BookEntry) × Among b bs × (b.event ≡ e)
event_entry [] e m = absurd (none_among e m)
event_entry (b ∷ bs) e m = elim (among_either e (b.event ∷ []) (map (λ d. d.event) bs) m) [
  | inl here ↦ (b, Here, sym (only_one e b.event here))
  | inr there ↦ (let h = event_entry bs e there in (h.0, Later b h.1, h.2))
]

-- an entry of a shard in the merge is of a cell of this shard
pub cells_of : (p : Pipeline) (limit width : ℕ) (book : List BookEntry)
    (shards : ℕ → List ShardEntry) (c : State) (merged : List LogEntry)
    → FitTogether p limit width book shards c → IsMerge book shards merged → (y : LogEntry) → Among y merged
    → (k : ℕ) (e : ShardEntry) → y ≡ OfShard k e → e.access.cell.0 % width ≡ k
cells_of p limit width book shards c merged fit merge y m k e same =
    fit.cells k e (subst (λ l. Among e l) (merge.shard_is k)
    (among_shard merged k e (subst (λ z. Among z merged) same m)))
