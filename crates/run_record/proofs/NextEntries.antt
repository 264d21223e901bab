-- The next entry of a merge, by the cursors of its logs: with it at its front, a merge of what is left after it is one of what was left.
use Rattle.std.proofs.Common.{◌≡◌, ◌≢◌, ◌∙◌, refl, sym, ap, subst, ℕ, ◌+◌, ◌<◌, ◌≤◌, List, [], ◌∷◌, ◌++◌, length, set, drop, map}
use Rattle.std.proofs.Common.{true, false, Option, Some, None, All, slice_get, slice_index, option_map, arith, inl, inr, append_assoc}
use Rattle.std.proofs.lemmas.Bool.{cases_lt}
use Rattle.std.proofs.lemmas.List.{get_or-set_other, get_or-set_same, get_or_past}
use Rattle.pipe_model.specs.declared.event.Event.{Event}
use Rattle.pipe_model.specs.declared.ticket.BookEntry.{BookEntry}
use Rattle.pipe_model.specs.declared.ticket.ShardEntry.{ShardEntry}
use Rattle.pipe_model.specs.Races.DeterminacyRaces.{Among}
use Rattle.pipe_model.specs.Runs.TicketLogs.{IsMerge, LogEntry, OfBook, OfShard, event_of}
use Rattle.run_record.specs.LogCursors.{IsFirstShard, book_ticket, is_before, rest_of_shard, shard_ticket, ticket_at}
use Rattle.run_record.specs.MergedLogs.{AreMerged, BookRises, ShardRises, shard_at}
use Rattle.run_record.proofs.MergeSteps.{book_step, shard_step}
use Rattle.run_record.proofs.RisingLists.{after_next, before_rest, drop_next, drop_none, not_after_rest}

-- the tickets are those of the entries at the cursors
abbrev pub AreTickets : List (List ShardEntry) → List ℕ → List (Option ℕ) → Type 0
AreTickets shards cursors tickets = (k : ℕ) → ticket_at tickets k ≡ shard_ticket (shard_at shards k) (slice_index cursors k)

-- each shard rises, also one that there is not
each_rises : (shards : List (List ShardEntry)) → All ShardRises shards → (k : ℕ) → ShardRises (shard_at shards k)
each_rises shards h k = elim (cases_lt k (length shards)) [
  | inl less ↦ h k [] less
  | inr past ↦ subst ShardRises (sym (get_or_past shards k [] past)) (λ i j d less within. absurd (omega (arith, within)))
]

-- no ticket comes before, also none of a shard that there is not
none_before : (tickets : List (Option ℕ)) (o : Option ℕ) → ((j : ℕ) → j < length tickets → is_before (ticket_at tickets j) o ≡ false)
    → (j : ℕ) → is_before (ticket_at tickets j) o ≡ false
none_before tickets o h j = elim (cases_lt j (length tickets)) [
  | inl less ↦ h j less
  | inr past ↦ subst (λ t. is_before t o ≡ false) (sym (get_or_past tickets j None past)) refl
]

-- ---- the book is next

pub book_next : (book : List BookEntry) (shards : List (List ShardEntry)) (cursors : List ℕ) (tickets : List (Option ℕ)) (i : ℕ)
    (b : BookEntry)
    → BookRises book → All ShardRises shards → AreTickets shards cursors tickets
    → ((j : ℕ) → j < length tickets → is_before (ticket_at tickets j) (book_ticket book i) ≡ false) → slice_get book i ≡ Some b
    → (ys : List LogEntry) → IsMerge (drop (i + 1) book) (rest_of_shard shards cursors) ys
    → IsMerge (drop i book) (rest_of_shard shards cursors) (OfBook b ∷ ys)
book_next book shards cursors tickets i b up each are first at ys m =
    subst (λ l. IsMerge l (rest_of_shard shards cursors) (OfBook b ∷ ys)) (sym (drop_next book i b at))
    (book_step (drop (i + 1) book) (rest_of_shard shards cursors) b ys m
    (λ d n. after_next (λ (x : BookEntry). x.ticket) book i b d up at n)
    (λ k e n. not_after_rest (λ (x : ShardEntry). x.ticket) (shard_at shards k) (slice_index cursors k) b.ticket e
    (each_rises shards each k) (not_first k) n))
  where
    not_first : (k : ℕ) → is_before (shard_ticket (shard_at shards k) (slice_index cursors k)) (Some b.ticket) ≡ false
    not_first k =
        subst (λ t. is_before t (Some b.ticket) ≡ false) (are k)
        (subst (λ o. is_before (ticket_at tickets k) (option_map (λ (x : BookEntry). x.ticket) o) ≡ false) at
        (none_before tickets (book_ticket book i) first k))

-- ---- a shard is next

pub shard_next : (book : List BookEntry) (shards : List (List ShardEntry)) (cursors : List ℕ) (tickets : List (Option ℕ)) (i k : ℕ)
    (e : ShardEntry)
    → BookRises book → All ShardRises shards → AreTickets shards cursors tickets → k < length cursors
    → IsFirstShard (book_ticket book i) tickets (length tickets) k → slice_get (shard_at shards k) (slice_index cursors k) ≡ Some e
    → (ys : List LogEntry) → IsMerge (drop i book) (rest_of_shard shards (set cursors k (slice_index cursors k + 1))) ys
    → IsMerge (drop i book) (rest_of_shard shards cursors) (OfShard k e ∷ ys)
shard_next book shards cursors tickets i k e up each are within first at ys m =
    shard_step (drop i book) (rest_of_shard shards cursors) (rest_of_shard shards next) k e ys m
    (drop_next (shard_at shards k) (slice_index cursors k) e at ∙ ap (λ n. e ∷ drop n (shard_at shards k)) (sym moved))
    (λ j other. ap (λ n. drop n (shard_at shards j)) (sym (kept j other)))
    (λ d n. before_rest (λ (x : BookEntry). x.ticket) book i e.ticket d up of_book n)
    low high
  where
    next : List ℕ
    next = set cursors k (slice_index cursors k + 1)

    moved : slice_index next k ≡ slice_index cursors k + 1
    moved = get_or-set_same cursors k (slice_index cursors k + 1) 0 within

    kept : (j : ℕ) → j ≢ k → slice_index next j ≡ slice_index cursors j
    kept j other = get_or-set_other cursors k j (slice_index cursors k + 1) 0 other

    own : ticket_at tickets k ≡ Some e.ticket
    own = are k ∙ ap (λ o. option_map (λ (x : ShardEntry). x.ticket) o) at

    of_book : is_before (Some e.ticket) (book_ticket book i) ≡ true
    of_book = subst (λ t. is_before t (book_ticket book i) ≡ true) own first.of_book

    low : (j : ℕ) (f : ShardEntry) → j ≤ k → Among f (rest_of_shard shards next j) → e.ticket < f.ticket
    low j f most n = elim (cases_lt j k) [
      | inl less ↦ before_rest (λ (x : ShardEntry). x.ticket) (shard_at shards j) (slice_index cursors j) e.ticket f
          (each_rises shards each j)
          (subst (λ t. is_before t (shard_ticket (shard_at shards j) (slice_index cursors j)) ≡ true) own
          (subst (λ t. is_before (ticket_at tickets k) t ≡ true) (are j) (first.of_lower j less)))
          (subst (λ c. Among f (drop c (shard_at shards j))) (kept j (λ same. omega (arith, less, same))) n)
      | inr past ↦ (
          let same : j ≡ k = omega arith in
          after_next (λ (x : ShardEntry). x.ticket) (shard_at shards k) (slice_index cursors k) e f (each_rises shards each k) at
          (subst (λ c. Among f (drop c (shard_at shards k))) moved (subst (λ h. Among f (rest_of_shard shards next h)) same n)))
    ]

    high : (j : ℕ) (f : ShardEntry) → k < j → Among f (rest_of_shard shards next j) → e.ticket ≤ f.ticket
    high j f less n =
        not_after_rest (λ (x : ShardEntry). x.ticket) (shard_at shards j) (slice_index cursors j) e.ticket f (each_rises shards each j)
        (subst (λ t. is_before t (Some e.ticket) ≡ false) (are j)
        (subst (λ t. is_before (ticket_at tickets j) t ≡ false) own
        (none_before tickets (ticket_at tickets k) first.of_each j)))
        (subst (λ c. Among f (drop c (shard_at shards j))) (kept j (λ same. omega (arith, less, same))) n)

-- ---- no entry is next

no_ticket : (o : Option ShardEntry) → is_before (option_map (λ (x : ShardEntry). x.ticket) o) None ≡ false → o ≡ None
no_ticket None none = refl
no_ticket (Some e) none = absurd (cc)

pub none_next : (book : List BookEntry) (shards : List (List ShardEntry)) (cursors : List ℕ) (tickets : List (Option ℕ)) (i : ℕ)
    → AreTickets shards cursors tickets
    → ((j : ℕ) → j < length tickets → is_before (ticket_at tickets j) (book_ticket book i) ≡ false) → slice_get book i ≡ None
    → IsMerge (drop i book) (rest_of_shard shards cursors) []
none_next book shards cursors tickets i are first at = record {
  order = tt;
  book_is = sym (drop_none book i at);
  shard_is = λ k. sym (drop_none (shard_at shards k) (slice_index cursors k)
      (no_ticket (slice_get (shard_at shards k) (slice_index cursors k))
      (subst (λ t. is_before t None ≡ false) (are k)
      (subst (λ o. is_before (ticket_at tickets k) (option_map (λ (x : BookEntry). x.ticket) o) ≡ false) at
      (none_before tickets (book_ticket book i) first k)))));
}

-- ---- events

-- one more event
pub completed_next : (book : List BookEntry) (shards : List (List ShardEntry)) (before after : List Event) (x : LogEntry) (event : Event)
    (ys : List LogEntry) → event ≡ event_of x → after ≡ before ++ event ∷ []
    → AreMerged book shards (before ++ map event_of (x ∷ ys)) → AreMerged book shards (after ++ map event_of ys)
completed_next book shards before after x event ys is more merged =
    let one : after ++ map event_of ys ≡ before ++ event ∷ map event_of ys =
    ap (λ l. l ++ map event_of ys) more ∙ append_assoc before (event ∷ []) (map event_of ys) in
    subst (AreMerged book shards) (sym (one ∙ ap (λ e. before ++ e ∷ map event_of ys) is)) merged
