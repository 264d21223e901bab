-- In a merge an iteration has the actions of its logs.
use Rattle.std.proofs.Common.{Bool, ℕ, List, true, [], ◌∷◌, false, ◌==◌, ◌++◌, map, ◌≡◌, refl, sym, ap, ◌∙◌, inl, inr, subst}
use Rattle.std.proofs.lemmas.Bool.{false≢true, eqb-true, eq-eqb}
use Rattle.pipe_model.specs.Pipelines.Behaviour.{Action, Staged, Ended, Accessed}
use Rattle.pipe_model.specs.Runs.ControlRun.{is_access}
use Rattle.run_laws.proofs.LogMerge.EventParts.{if_same, actions_at}
use Rattle.pipe_model.specs.Races.DeterminacyRaces.{Among, Here, Later}
use Rattle.pipe_model.specs.Runs.TicketLogs.{if_end, end_action, TimedAction, LogEntry, OfBook, OfShard, book_in, event_of, IsMerge}
use Rattle.pipe_model.specs.declared.ticket.BookEntry.{BookEntry}
use Rattle.pipe_model.specs.declared.ticket.ShardEntry.{ShardEntry}
use Rattle.pipe_model.specs.declared.event.Event.{Event}
use Rattle.pipe_model.specs.declared.event.Event.TheVariants.{Begin, Access, Advance, Enter, Finish, Stop}
use Rattle.run_laws.proofs.LogMerge.FittingLogs.{IsActionOf, StagedIn, EndedIn, AccessedIn}
use Rattle.run_laws.proofs.LogMerge.MergeSplits.{in_book, among_shard, among_book, of_shard}
use Rattle.pipe_model.proofs.Members.{none_among, among_either, among_left, only_one, among_right}
use Rattle.run_laws.proofs.LogMerge.Entries.{timed, book_entry, shard_entry}

-- the action of an entry, with its ticket
abbrev pub timed_in_entry : ℕ → LogEntry → List TimedAction
timed_in_entry i (OfBook b) = end_action i b.event b.ticket
timed_in_entry i (OfShard k e) = if_end (e.node.iteration == i) e.ticket (Accessed e.access)

-- the actions of an iteration in a merge, with their tickets
abbrev pub timed_in_merge : ℕ → List LogEntry → List TimedAction
timed_in_merge i [] = []
timed_in_merge i (x ∷ xs) = timed_in_entry i x ++ timed_in_merge i xs

-- an action without its ticket
if_same-timed : (b : Bool) (t : ℕ) (x : Action) (xs : List TimedAction)
    → if_same b x (map (λ y. y.action) xs) ≡ map (λ y. y.action) (if_end b t x ++ xs)
if_same-timed true t x xs = refl
if_same-timed false t x xs = refl

-- without tickets they are the actions among the events
pub timed_are_actions : (i : ℕ) (xs : List LogEntry)
    → ((b : BookEntry) → Among b (book_in xs) → is_access b.event ≡ false)
    → actions_at i (map event_of xs) ≡ map (λ y. y.action) (timed_in_merge i xs)
timed_are_actions i [] h = refl
timed_are_actions i (OfBook b ∷ xs) h = by_event b.event (h b Here) (timed_are_actions i xs (λ d m. h d (Later b m)))
  where
    by_event : (e : Event) → is_access e ≡ false
        → actions_at i (map event_of xs) ≡ map (λ (y : TimedAction). y.action) (timed_in_merge i xs)
        → actions_at i (e ∷ map event_of xs) ≡ map (λ (y : TimedAction). y.action)
        (end_action i e b.ticket ++ timed_in_merge i xs)
    by_event (Begin j) n rest = rest
    by_event (Access j a) n rest = absurd (false≢true (sym n))
    by_event (Advance j k m) n rest =
        ap (if_same (j == i) (Staged k m)) rest ∙ if_same-timed (j == i) b.ticket (Staged k m) (timed_in_merge i xs)
    by_event (Enter j) n rest = rest
    by_event (Finish j e) n rest =
        ap (if_same (j == i) (Ended e)) rest ∙ if_same-timed (j == i) b.ticket (Ended e) (timed_in_merge i xs)
    by_event Stop n rest = rest
timed_are_actions i (OfShard k e ∷ xs) h =
    ap (if_same (e.node.iteration == i) (Accessed e.access)) (timed_are_actions i xs h)
    ∙ if_same-timed (e.node.iteration == i) e.ticket (Accessed e.access) (timed_in_merge i xs)

-- the entry of an action
pub record ComesFrom (i : ℕ) (xs : List LogEntry) (x : TimedAction) : Type 0 where
  pub stamp : LogEntry
  pub made : Among stamp xs
  pub one : Among x (timed_in_entry i stamp)

-- each action of the merge has an entry of the merge
pub comes_from : (i : ℕ) (xs : List LogEntry) (x : TimedAction) → Among x (timed_in_merge i xs) → ComesFrom i xs x
comes_from i [] x m = absurd (none_among x m)
comes_from i (y ∷ xs) x m = elim (among_either x (timed_in_entry i y) (timed_in_merge i xs) m) [
  | inl here ↦ record { stamp = y; made = Here; one = here }
  | inr there ↦ (let h = comes_from i xs x there in record { stamp = h.stamp; made = Later y h.made; one = h.one })
]

-- the action of an entry is an action of the merge
timed_in : (i : ℕ) (xs : List LogEntry) (y : LogEntry) (x : TimedAction) → Among y xs → Among x (timed_in_entry i y)
    → Among x (timed_in_merge i xs)
timed_in i [] y x m o = absurd (none_among y m)
timed_in i (z ∷ xs) y x m o = elim (among_either y (z ∷ []) xs m) [
  | inl here ↦ among_left x (timed_in_entry i z) (timed_in_merge i xs)
      (subst (λ w. Among x (timed_in_entry i w)) (only_one y z here) o)
  | inr there ↦ among_right x (timed_in_entry i z) (timed_in_merge i xs) (timed_in i xs y x there o)
]

-- the action and its ticket
pub record IsTimed (b : Bool) (t : ℕ) (x : Action) (y : TimedAction) : Type 0 where
  pub holds : b ≡ true
  pub is : y ≡ (timed t x)

-- there is one if the test is true
pub timed_if : (b : Bool) (t : ℕ) (x : Action) (y : TimedAction) → Among y (if_end b t x) → IsTimed b t x y
timed_if true t x y m = record { holds = refl; is = only_one y _ m }
timed_if false t x y m = absurd (none_among y m)

-- the action of an event is one of the logs
pub action_of_event : (book : List BookEntry) (shards : ℕ → List ShardEntry) (i : ℕ) (e : Event) (t : ℕ)
    (x : TimedAction)
    → Among (book_entry t e) book → Among x (end_action i e t)
    → IsActionOf book shards i x
action_of_event book shards i (Begin j) t x m o = absurd (none_among x o)
action_of_event book shards i (Access j a) t x m o = absurd (none_among x o)
action_of_event book shards i (Advance j k n) t x m o =
    let h = timed_if (j == i) t (Staged k n) x o in
    subst (λ y. IsActionOf book shards i y) (sym h.is)
    (StagedIn (subst (λ q. Among (book_entry t (Advance q k n)) book) (eqb-true j i h.holds) m))
action_of_event book shards i (Enter j) t x m o = absurd (none_among x o)
action_of_event book shards i (Finish j e) t x m o =
    let h = timed_if (j == i) t (Ended e) x o in
    subst (λ y. IsActionOf book shards i y) (sym h.is)
    (EndedIn (subst (λ q. Among (book_entry t (Finish q e)) book) (eqb-true j i h.holds) m))
action_of_event book shards i Stop t x m o = absurd (none_among x o)

-- the action of an entry is one of the logs
pub action_of_entry : (book : List BookEntry) (shards : ℕ → List ShardEntry) (merged : List LogEntry)
    → IsMerge book shards merged → (i : ℕ) (y : LogEntry) (x : TimedAction) → Among y merged
    → Among x (timed_in_entry i y) → IsActionOf book shards i x
action_of_entry book shards merged merge i (OfBook b) x m o =
    action_of_event book shards i b.event b.ticket x (subst (λ l. Among b l) merge.book_is (in_book merged b m)) o
action_of_entry book shards merged merge i (OfShard k e) x m o =
    let h = timed_if (e.node.iteration == i) e.ticket (Accessed e.access) x o in
    let there : Among e (shards k) = subst (λ l. Among e l) (merge.shard_is k) (among_shard merged k e m) in
    let same = eqb-true e.node.iteration i h.holds in
    subst (λ y. IsActionOf book shards i y) (sym h.is)
    (AccessedIn k (subst (λ q. Among (shard_entry e.ticket q e.node.index e.access) (shards k)) same there))

-- an entry of the iteration has its action
pub timed_here : (i t : ℕ) (x : Action)
    → Among (timed t x) (if_end (i == i) t x)
timed_here i t x = go (i == i) (eq-eqb i i refl)
  where
    go : (b : Bool) → b ≡ true → Among (timed t x) (if_end b t x)
    go true e = Here
    go false e = absurd (false≢true e)

-- an action of the logs is one of the merge
pub action_merged : (book : List BookEntry) (shards : ℕ → List ShardEntry) (merged : List LogEntry)
    → IsMerge book shards merged → (i : ℕ) (x : TimedAction) → IsActionOf book shards i x
    → Among x (timed_in_merge i merged)
action_merged book shards merged merge i x (StagedIn {t} {k} {n} m) =
    let b = book_entry t (Advance i k n) in
    timed_in i merged (OfBook b) _ (among_book merged b (subst (λ l. Among b l) (sym merge.book_is) m))
    (timed_here i t (Staged k n))
action_merged book shards merged merge i x (EndedIn {t} {e} m) =
    let b = book_entry t (Finish i e) in
    timed_in i merged (OfBook b) _ (among_book merged b (subst (λ l. Among b l) (sym merge.book_is) m))
    (timed_here i t (Ended e))
action_merged book shards merged merge i x (AccessedIn {t} {index} {a} k m) =
    let e = shard_entry t i index a in
    timed_in i merged (OfShard k e) _ (of_shard k merged e (subst (λ l. Among e l) (sym (merge.shard_is k)) m))
    (timed_here i t (Accessed a))
