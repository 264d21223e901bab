-- A merge with one more entry at its front: its log has the entry at its front, and it comes before all others.
use Rattle.std.proofs.Common.{◌≡◌, ◌≢◌, ◌∙◌, refl, sym, ap, subst, ℕ, suc, ◌<◌, ◌≤◌, List, [], ◌∷◌, Bool, true, false, eqb, eq-eqb, arith}
use Rattle.std.proofs.Common.{inl, inr, ◌⊎◌}
use Rattle.std.proofs.lemmas.Bool.{cases_lt, eqb-true, false≢true}
use Rattle.pipe_model.specs.declared.ticket.BookEntry.{BookEntry}
use Rattle.pipe_model.specs.declared.ticket.ShardEntry.{ShardEntry}
use Rattle.pipe_model.specs.Races.DeterminacyRaces.{Among, Here, Later}
use Rattle.pipe_model.specs.Runs.TicketLogs.{ComesBefore, IsMerge, LogEntry, OfBook, OfShard, book_in, if_shard, shard_in}
use Rattle.pipe_model.proofs.Members.{among_either, none_among, only_one}

-- ---- entries of a merge

pub book_member : (b : BookEntry) (xs : List LogEntry) → Among (OfBook b) xs → Among b (book_in xs)
book_member b [] m = absurd (none_among (OfBook b) m)
book_member b (OfBook d ∷ xs) m = elim (among_either (OfBook b) (OfBook d ∷ []) xs m) [
  | inl here ↦ (
      let e = only_one (OfBook b) (OfBook d) here in
      let same : b ≡ d = cc in
      subst (λ y. Among b (y ∷ book_in xs)) same Here)
  | inr there ↦ Later d (book_member b xs there)
]
book_member b (OfShard k e ∷ xs) m = elim (among_either (OfBook b) (OfShard k e ∷ []) xs m) [
  | inl here ↦ (let other = only_one (OfBook b) (OfShard k e) here in absurd (cc))
  | inr there ↦ book_member b xs there
]

pub shard_member : (k : ℕ) (e : ShardEntry) (xs : List LogEntry) → Among (OfShard k e) xs → Among e (shard_in k xs)
shard_member k e [] m = absurd (none_among (OfShard k e) m)
shard_member k e (OfBook d ∷ xs) m = elim (among_either (OfShard k e) (OfBook d ∷ []) xs m) [
  | inl here ↦ (let other = only_one (OfShard k e) (OfBook d) here in absurd (cc))
  | inr there ↦ shard_member k e xs there
]
shard_member k e (OfShard j f ∷ xs) m = elim (among_either (OfShard k e) (OfShard j f ∷ []) xs m) [
  | inl here ↦ (
      let q = only_one (OfShard k e) (OfShard j f) here in
      let number : j ≡ k = cc in
      let same : e ≡ f = cc in
      subst (λ b. Among e (if_shard b f (shard_in k xs))) (sym (eq-eqb j k number))
      (subst (λ y. Among e (y ∷ shard_in k xs)) same Here))
  | inr there ↦ kept (eqb j k) (shard_member k e xs there)
]
  where
    kept : (b : Bool) → Among e (shard_in k xs) → Among e (if_shard b f (shard_in k xs))
    kept true n = Later f n
    kept false n = n

-- ---- one more entry

by_rank : (a b r s : ℕ) → a ≤ b → r < s → (a < b) ⊎ ((a ≡ b) × (r < s))
by_rank a b r s most rank = elim (cases_lt a b) [ inl less ↦ inl less | inr past ↦ inr (omega arith, rank) ]

pub book_step : (book : List BookEntry) (rest : ℕ → List ShardEntry) (b : BookEntry) (ys : List LogEntry) → IsMerge book rest ys
    → ((d : BookEntry) → Among d book → b.ticket < d.ticket) → ((k : ℕ) (e : ShardEntry) → Among e (rest k) → b.ticket ≤ e.ticket)
    → IsMerge (b ∷ book) rest (OfBook b ∷ ys)
book_step book rest b ys m books shards = record {
  order = (before, m.order);
  book_is = ap (λ l. b ∷ l) m.book_is;
  shard_is = m.shard_is;
}
  where
    before : (y : LogEntry) → Among y ys → ComesBefore (OfBook b) y
    before (OfBook d) n = inl (books d (subst (λ l. Among d l) m.book_is (book_member d ys n)))
    before (OfShard k e) n =
        by_rank b.ticket e.ticket 0 (suc k) (shards k e (subst (λ l. Among e l) (m.shard_is k) (shard_member k e ys n))) (omega arith)

pub shard_step : (book : List BookEntry) (old new : ℕ → List ShardEntry) (k : ℕ) (e : ShardEntry) (ys : List LogEntry)
    → IsMerge book new ys → old k ≡ e ∷ new k → ((j : ℕ) → j ≢ k → old j ≡ new j)
    → ((d : BookEntry) → Among d book → e.ticket < d.ticket)
    → ((j : ℕ) (f : ShardEntry) → j ≤ k → Among f (new j) → e.ticket < f.ticket)
    → ((j : ℕ) (f : ShardEntry) → k < j → Among f (new j) → e.ticket ≤ f.ticket)
    → IsMerge book old (OfShard k e ∷ ys)
shard_step book old new k e ys m first others books low high = record {
  order = (before, m.order);
  book_is = m.book_is;
  shard_is = λ j. by_number j (eqb k j) refl;
}
  where
    before : (y : LogEntry) → Among y ys → ComesBefore (OfShard k e) y
    before (OfBook d) n = inl (books d (subst (λ l. Among d l) m.book_is (book_member d ys n)))
    before (OfShard j f) n =
        let there = subst (λ l. Among f l) (m.shard_is j) (shard_member j f ys n) in
        elim (cases_lt k j) [
          | inl after ↦ by_rank e.ticket f.ticket (suc k) (suc j) (high j f after there) (omega (arith, after))
          | inr up_to ↦ inl (low j f up_to there)
        ]

    by_number : (j : ℕ) (b : Bool) → eqb k j ≡ b → if_shard b e (shard_in j ys) ≡ old j
    by_number j true q =
        let same : k ≡ j = eqb-true k j q in
        ap (λ l. e ∷ l) (m.shard_is j) ∙ subst (λ i. e ∷ new i ≡ old i) same (sym first)
    by_number j false q = m.shard_is j ∙ sym (others j (λ same. false≢true (sym q ∙ eq-eqb k j (sym same))))
