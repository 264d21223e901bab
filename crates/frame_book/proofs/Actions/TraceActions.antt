-- What an iteration has done, with one instance more.
use Rattle.std.proofs.Common.{◌≡◌, ◌≢◌, ℕ, suc, ◌+◌, ◌<◌, List, [], ◌∷◌, ◌++◌, length, map, get_or, set, refl, ap, ap₂, sym, ◌∙◌, arith}
use Rattle.std.proofs.Common.{append-nil, append_assoc}
use Rattle.std.proofs.lemmas.List.{map-append, get_or-set_same, get_or-set_other, get_or_append_left, get_or_push, get_or_past, length_push}
use Rattle.pipe_model.specs.declared.event.Event.{Event}
use Rattle.pipe_model.specs.declared.ticket.BookEntry.{BookEntry}
use Rattle.pipe_model.specs.declared.ticket.Entry.{Entry}
use Rattle.pipe_model.specs.Pipelines.Behaviour.{Action, Accessed}
use Rattle.pipe_model.specs.Runs.TicketLogs.{TimedAction, laid_traces, end_actions, end_action}
use Rattle.frame_book.specs.BookStates.{with_events, made, timed_access}
use Rattle.frame_book.specs.Invariant.{actions_in}
use Rattle.pipe_frame.specs.Replies.{accessed}
use Rattle.frame_book.proofs.BookLogs.LogEntries.{entry_of, end_actions-push}

-- the traces of ended instances with one more
pub laid_more : (made made' : ℕ → List TimedAction) (k : ℕ) (ends : List TimedAction) (x : TimedAction) (n : ℕ) → k + length ends ≡ n
    → ((q : ℕ) → q < n → made' q ≡ made q) → made n ≡ [] → made' (suc n) ≡ []
    → laid_traces made' k (ends ++ x ∷ []) ≡ laid_traces made k ends ++ (made' n ++ x ∷ [])
laid_more made made' k [] x n e same none past =
    let s : k ≡ n = omega (arith, e) in
    let t : k + 1 ≡ suc n = omega (arith, e) in
    ap₂ (λ a b. made' a ++ x ∷ made' b) s t ∙ (ap (λ l. made' n ++ x ∷ l) past
    ∙ sym (ap (λ l. l ++ (made' n ++ x ∷ [])) (ap made s ∙ none)))
laid_more made made' k (y ∷ ends) x n e same none past =
    let l : k < n = omega (arith, e) in
    let q : k + 1 + length ends ≡ n = omega (arith, e) in
    ap₂ (λ a b. a ++ y ∷ b) (same k l) (laid_more made made' (k + 1) ends x n q same none past)
    ∙ sym (append_assoc (made k) (y ∷ laid_traces made (k + 1) ends) (made' n ++ x ∷ []))

-- equal traces are laid in the same way
pub laid_same : (made made' : ℕ → List TimedAction) (k : ℕ) (ends : List TimedAction) → ((q : ℕ) → made' q ≡ made q)
    → laid_traces made' k ends ≡ laid_traces made k ends
laid_same made made' k [] same = same k
laid_same made made' k (y ∷ ends) same = ap₂ (λ a b. a ++ y ∷ b) (same k) (laid_same made made' (k + 1) ends same)

-- the accesses of a trace, without tickets
pub untimed : (tr : List Entry) → map (λ (a : TimedAction). a.action) (map timed_access tr) ≡ accessed tr
untimed [] = refl
untimed (t ∷ tr) = ap (λ l. Accessed t.access ∷ l) (untimed tr)

module _ (log : List BookEntry) (now : ℕ) (e : Event) (traces : List (List (List Entry))) (i : ℕ) (tr : List Entry) (x : Action)
    (l : i < length traces) (counted : length (end_actions i log) ≡ length (get_or traces i []))
    (ends : end_action i e (entry_of log now e).ticket ≡ record { ticket = (entry_of log now e).ticket; action = x } ∷ []) where
  -- the traces with one more
  abbrev pub longer : List (List (List Entry))
  longer = set traces i (get_or traces i [] ++ tr ∷ [])

  longer_at : get_or longer i [] ≡ get_or traces i [] ++ tr ∷ []
  longer_at = get_or-set_same traces i (get_or traces i [] ++ tr ∷ []) [] l

  -- what the iteration has done then
  pub actions_more : actions_in (with_events log now (e ∷ [])) longer i ≡ actions_in log traces i ++ (accessed tr ++ x ∷ [])
  actions_more =
      let n : ℕ = length (get_or traces i []) in
      let t : TimedAction = record { ticket = (entry_of log now e).ticket; action = x } in
      let at : (q : ℕ) → made longer i q ≡ map timed_access (get_or (get_or traces i [] ++ tr ∷ []) q []) =
      λ q. ap (λ ts. map timed_access (get_or ts q [])) longer_at in
      let here : made longer i n ≡ map timed_access tr = at n ∙ ap (map timed_access) (get_or_push (get_or traces i []) tr [] n refl) in
      let laid = laid_more (made traces i) (made longer i) 0 (end_actions i log) t n (omega (arith, counted))
      (λ q w. at q ∙ ap (map timed_access) (get_or_append_left (get_or traces i []) (tr ∷ []) [] q w))
      (ap (map timed_access) (get_or_past (get_or traces i []) n [] (omega arith)))
      (at (suc n) ∙ ap (map timed_access) (get_or_past (get_or traces i [] ++ tr ∷ []) (suc n) []
      (let w = length_push (get_or traces i []) tr in omega (arith, w)))) in
      ap (λ es. map (λ (a : TimedAction). a.action) (laid_traces (made longer i) 0 es))
      (end_actions-push i log (entry_of log now e) ∙ ap (λ es. end_actions i log ++ es) ends)
      ∙ (ap (map (λ (a : TimedAction). a.action)) laid
      ∙ (map-append (λ (a : TimedAction). a.action) (laid_traces (made traces i) 0 (end_actions i log)) (made longer i n ++ t ∷ [])
      ∙ ap (λ ys. actions_in log traces i ++ ys) (map-append (λ (a : TimedAction). a.action) (made longer i n) (t ∷ [])
      ∙ ap (λ ys. ys ++ x ∷ []) (ap (map (λ (a : TimedAction). a.action)) here ∙ untimed tr))))

  -- one end more beside one trace more
  pub counted_more : length (end_actions i (with_events log now (e ∷ []))) ≡ length (get_or longer i [])
  counted_more =
      ap length (end_actions-push i log (entry_of log now e) ∙ ap (λ es. end_actions i log ++ es) ends)
      ∙ (length_push (end_actions i log) (record { ticket = (entry_of log now e).ticket; action = x })
      ∙ (ap (λ n. n + 1) counted ∙ (sym (length_push (get_or traces i []) tr) ∙ ap length (sym longer_at))))

  -- another iteration has done what it had
  pub actions_other : (j : ℕ) → j ≢ i → end_action j e (entry_of log now e).ticket ≡ [] → actions_in
      (with_events log now (e ∷ [])) longer j ≡ actions_in log traces j
  actions_other j n none =
      ap (λ es. map (λ (a : TimedAction). a.action) (laid_traces (made longer j) 0 es))
      (end_actions-push j log (entry_of log now e) ∙ (ap (λ es. end_actions j log ++ es) none ∙ append-nil (end_actions j log)))
      ∙ ap (map (λ (a : TimedAction). a.action)) (laid_same (made traces j) (made longer j) 0 (end_actions j log)
      (λ q. ap (λ ts. map timed_access (get_or ts q [])) (get_or-set_other traces i j (get_or traces i [] ++ tr ∷ []) [] n)))
