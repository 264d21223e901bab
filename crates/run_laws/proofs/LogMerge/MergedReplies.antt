-- Each read of a merge has its reply.
use Rattle.std.proofs.Common.{ℕ, List, false, ◌≡◌, ◌%◌, map, refl, [], ◌∷◌, ◌∙◌, sym, inl, true, ◌==◌, ap, ◌++◌, inr, subst}
use Rattle.std.proofs.lemmas.Bool.{false≢true, cases_eq, eq-eqb, ne_eqb}
use Rattle.pipe_model.specs.Runs.ControlRun.{is_access}
use Rattle.run_laws.proofs.LogMerge.EventParts.{accesses_among}
use Rattle.pipe_model.specs.Pipelines.Pipeline.{Pipeline}
use Rattle.pipe_model.specs.Races.DeterminacyRaces.{Among, Here, Later}
use Rattle.pipe_model.specs.Runs.State.{State}
use Rattle.pipe_model.specs.Pipelines.Store.{written, wrote, HasReply, value_from}
use Rattle.pipe_model.specs.Runs.TicketLogs.{LogEntry, OfShard, book_in, event_of, shard_in, OfBook, if_shard, IsMerge}
use Rattle.pipe_model.specs.declared.ticket.ShardEntry.{ShardEntry}
use Rattle.pipe_model.specs.declared.ticket.BookEntry.{BookEntry}
use Rattle.pipe_model.specs.declared.access.Access.{Access as Cell_access}
use Rattle.pipe_model.specs.declared.event.Event.{Event}
use Rattle.pipe_model.specs.declared.event.Event.TheVariants.{Begin, Access, Advance, Enter, Finish, Stop}
use Rattle.run_laws.proofs.Iterations.CellWrites.{other_cell_writes_none, written-append}
use Rattle.run_laws.proofs.LogMerge.FittingLogs.{FitTogether}
use Rattle.run_laws.proofs.LogMerge.MergeSplits.{IsSplit, shard_in-append, among_shard, control_has_no_access, among_events, book_in-append}
use Rattle.pipe_model.proofs.Members.{among_left, among_right}

-- what is written to a cell is in the log of its shard
shard_written : (c width : ℕ) (xs : List LogEntry)
    → ((k : ℕ) (e : ShardEntry) → Among (OfShard k e) xs → e.access.cell.0 % width ≡ k)
    → ((b : BookEntry) → Among b (book_in xs) → is_access b.event ≡ false)
    → written c (accesses_among (map event_of xs)) ≡ written c (map (λ e. e.access) (shard_in (c % width) xs))
shard_written c width [] cells h = refl
shard_written c width (OfBook b ∷ xs) cells h =
    silent_access b.event (map event_of xs) c (h b Here)
    ∙ shard_written c width xs (λ k e m. cells k e (Later (OfBook b) m)) (λ d m. h d (Later b m))
  where
    silent_access : (y : Event) (es : List Event) (c : ℕ) → is_access y ≡ false
        → written c (accesses_among (y ∷ es)) ≡ written c (accesses_among es)
    silent_access (Begin i) es c n = refl
    silent_access (Access i a) es c n = absurd (false≢true (sym n))
    silent_access (Advance i k m) es c n = refl
    silent_access (Enter i) es c n = refl
    silent_access (Finish i e) es c n = refl
    silent_access Stop es c n = refl
shard_written c width (OfShard k e ∷ xs) cells h =
    let rest = shard_written c width xs (λ j f m. cells j f (Later (OfShard k e) m)) h in
    let own : e.access.cell.0 % width ≡ k = cells k e Here in
    elim (cases_eq k (c % width)) [
      | inl same ↦ (
          let t : (k == c % width) ≡ true = eq-eqb k (c % width) same in
          ap (λ l. wrote c e.access ++ l) rest ∙ ap
          (λ b. written c (map (λ (x : ShardEntry). x.access) (if_shard b e (shard_in (c % width) xs)))) (sym t))
      | inr other ↦ (
          let t : (k == c % width) ≡ false = ne_eqb k (c % width) other in
          let none : wrote c e.access ≡ [] =
          other_cell_writes_none c e.access (λ q. other (sym own ∙ ap (λ m. m % width) q)) in
          ap (λ l. l ++ written c (accesses_among (map event_of xs))) none ∙ rest
          ∙ ap (λ b. written c (map (λ (x : ShardEntry). x.access) (if_shard b e (shard_in (c % width) xs))))
          (sym t))
    ]

-- a read in the merge has the value of its cell at the time of the read
pub merged_replies : (p : Pipeline) (limit width : ℕ) (book : List BookEntry)
    (shards : ℕ → List ShardEntry) (c : State) (merged : List LogEntry)
    → FitTogether p limit width book shards c → IsMerge book shards merged
    → (front : List Event) (i : ℕ) (a : Cell_access) → IsSplit merged front i a
    → HasReply p.store (p.preamble ++ accesses_among front) a
merged_replies p limit width book shards c merged fit merge front i a s =
    let k = s.shard in
    let e = s.entry in
    let all : shards k ≡ shard_in k s.left ++ e ∷ shard_in k s.right =
    sym (merge.shard_is k) ∙ ap (shard_in k) s.is ∙ shard_in-append k s.left (OfShard k e ∷ s.right)
    ∙ ap (λ b. shard_in k s.left ++ if_shard b e (shard_in k s.right)) (eq-eqb k k refl) in
    let reply = fit.replies k (shard_in k s.left) (shard_in k s.right) e all in
    let cell = e.access.cell.0 in
    let of_shard : (j : ℕ) (d : ShardEntry) → Among (OfShard j d) s.left → d.access.cell.0 % width ≡ j = λ j d m.
    fit.cells j d (subst (λ l. Among d l) (merge.shard_is j)
    (among_shard merged j d (subst (λ l. Among (OfShard j d) l) (sym s.is)
    (among_left (OfShard j d) s.left (OfShard k e ∷ s.right) m)))) in
    let silent : (b : BookEntry) → Among b (book_in s.left) → is_access b.event ≡ false = λ b m.
    control_has_no_access fit.control b.event
    (among_events b book (subst (λ l. Among b l)
    (sym (sym merge.book_is ∙ ap book_in s.is ∙ book_in-append s.left (OfShard k e ∷ s.right)))
    (among_left b (book_in s.left) (book_in s.right) m))) in
    let there : Among e (shards k) =
    subst (λ l. Among e l) (sym all) (among_right e (shard_in k s.left) (e ∷ shard_in k s.right) Here) in
    let own : cell % width ≡ k = fit.cells k e there in
    let same : written cell (accesses_among front)
    ≡ written cell (map (λ (x : ShardEntry). x.access) (shard_in k s.left)) =
    ap (λ l. written cell (accesses_among l)) s.events ∙ shard_written cell width s.left of_shard silent
    ∙ ap (λ j. written cell (map (λ (x : ShardEntry). x.access) (shard_in j s.left))) own in
    let here : HasReply p.store (p.preamble ++ accesses_among front) e.access =
    λ read. reply read ∙ ap (value_from p.store cell) (
    written-append cell p.preamble (map (λ (x : ShardEntry). x.access) (shard_in k s.left))
    ∙ ap (λ l. written cell p.preamble ++ l) (sym same)
    ∙ sym (written-append cell p.preamble (accesses_among front))) in
    subst (λ (x : Cell_access). HasReply p.store (p.preamble ++ accesses_among front) x) (sym s.access) here
