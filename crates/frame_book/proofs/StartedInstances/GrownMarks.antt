-- What a start changes of the orders and of the tokens that are kept.
use Rattle.std.proofs.Common.{◌≡◌, ℕ, ℤ, zero, suc, ◌+◌, ◌*◌, ◌<◌, ◌≤◌, List, [], ◌∷◌, ◌++◌, length, map, get_or, refl, ap, ap₂, sym, ◌∙◌}
use Rattle.std.proofs.Common.{arith, subst, Option, Some, None}
use Rattle.order_2d.specs.OrderPairs.{marks_after, OrderPair}
use Rattle.pipe_model.specs.declared.node.NodeId.{NodeId}
use Rattle.pipe_model.specs.declared.ticket.Entry.{Entry}
use Rattle.pipe_model.specs.Runs.Allowed.{LeftHasPassed}
use Rattle.pipe_model.specs.Races.Columns.{nodes_at}
use Rattle.pipe_model.specs.Orders.OrderMarks.{instance_marks, start_marks}
use Rattle.pipe_model.specs.Runs.State.{Frame, State, frame_at, own_columns}
use Rattle.pipe_model.specs.Orders.TwoOrders.{down_first_log, right_first_log, down_first_taken, right_first_taken}
use Rattle.pipe_model.specs.Orders.TwoOrders.{first_placeholder}
use Rattle.pipe_model.specs.Orders.Starts.{start_number}
use Rattle.pipe_frame.specs.RunningTokens.{left_joined}
use Rattle.pipe_frame.specs.Ties.{Tie, AreSeenLists, AreSeen, ListIdentities, SeenLists}
use Rattle.pipe_frame.specs.declared.token.FrameToken.{FrameToken}
use Rattle.run_laws.proofs.ListOrders.LogGrowth.{down_log_grows, right_log_grows}
use Rattle.run_laws.proofs.ListOrders.StartsOfRuns.{IsStartSound, Grew, are_columns}
use Rattle.run_laws.proofs.RunStates.Frames.{nodes_at_frame}
use Rattle.run_laws.proofs.RunStates.LaterEdges.{columns_of_frames}
use Rattle.pipe_frame.specs.Replies.{replies_of}
use Rattle.order_2d.proofs.ListsSoFar.{length-log_entries}
use Rattle.frame_book.specs.KeptTokens.{IsKeptToken}
use Rattle.frame_book.specs.CallEffects.{seen_whole}
use Rattle.frame_book.proofs.StartedInstances.StartMarks.{marks_stay, marks_new, marks_by_number}

-- lists that were seen keep their names
pub names_seen : (l : Option SeenLists) (o : OrderPair) (names : ListIdentities) → AreSeenLists l names.down names.right
    → AreSeenLists (seen_whole l o) names.down names.right
names_seen l o names h = by l names.down names.right h
  where
    by : (l : Option SeenLists) (d r : List ℕ) → AreSeenLists l d r → AreSeenLists (seen_whole l o) d r
    by l [] r h = tt
    by l (d ∷ ds) [] h = tt
    by None (d ∷ ds) (r ∷ rs) h = absurd h
    by (Some l) (d ∷ ds) (r ∷ rs) h = h

-- who has seen the lists to their end knows the marks of the last start
pub knows_new : (l : Option SeenLists) (o : OrderPair) (n d r : ℕ) → length o.down.log ≡ 2 + n → length o.right.log ≡ 2 + n → d ≤ n → r ≤ n
    → AreSeen (seen_whole l o) (marks_after n d r)
knows_new None o n d r a b p q = tt
knows_new (Some l) o n d r a b p q = record {
  down_first = omega (arith, a, p);
  right_first = omega (arith, b, q);
  down = (omega (arith, a), omega (arith, b));
  right = (omega (arith, a), omega (arith, b));
}

module _ (fs fs' : List Frame) (starts : List NodeId) (x : NodeId) (h : IsStartSound fs starts) (g : Grew fs fs' starts x) where
  -- the down-first list with one start more
  pub down_grows : (log : List ℕ) (taken : ℕ) → log ≡ down_first_log starts → taken ≡ down_first_taken
      (start_number starts) x.iteration x.index → log ++ taken ∷ (1 + length log) ∷ [] ≡ down_first_log (starts ++ x ∷ [])
  down_grows log taken e t =
      let n : 1 + length log ≡ first_placeholder (length starts) =
      (let a = ap length e in let b = length-log_entries (down_first_taken (start_number starts)) 0 starts in omega (arith, a, b)) in
      ap₂ (λ l a. l ++ a ∷ (1 + length log) ∷ []) e t
      ∙ (ap (λ k. down_first_log starts ++ down_first_taken (start_number starts) x.iteration x.index ∷ k ∷ []) n
      ∙ sym (down_log_grows (columns_of_frames fs) (columns_of_frames fs') starts x (are_columns fs' (starts ++ x ∷ []) g.sound) h.ordered
      g.by g.lefts))

  -- the right-first list with one start more
  pub right_grows : (log : List ℕ) (taken : ℕ) → log ≡ right_first_log (columns_of_frames fs) starts
      → taken ≡ right_first_taken (columns_of_frames fs') (start_number starts) x.iteration x.index
      → log ++ taken ∷ (1 + length log) ∷ [] ≡ right_first_log (columns_of_frames fs') (starts ++ x ∷ [])
  right_grows log taken e t =
      let n : 1 + length log ≡ first_placeholder (length starts) =
      (let a = ap length e in let b = length-log_entries (right_first_taken (columns_of_frames fs) (start_number starts)) 0 starts in
      omega (arith, a, b)) in
      ap₂ (λ l a. l ++ a ∷ (1 + length log) ∷ []) e t
      ∙ (ap (λ k. right_first_log (columns_of_frames fs) starts ++ right_first_taken (columns_of_frames fs')
      (start_number starts) x.iteration x.index ∷ k ∷ []) n
      ∙ sym (right_log_grows (columns_of_frames fs) (columns_of_frames fs') starts x (are_columns fs' (starts ++ x ∷ []) g.sound) h.ordered
      g.by g.lefts))

  -- the marks of the new start
  pub marks_grow : (n down right : ℕ) → n ≡ 2 * length starts → down ≡ down_first_taken (start_number starts) x.iteration x.index
      → right ≡ right_first_taken (columns_of_frames fs') (start_number starts) x.iteration x.index
      → marks_after n down right ≡ instance_marks (columns_of_frames fs') (starts ++ x ∷ []) x.iteration x.index
  marks_grow n down right e d r =
      marks_by_number n (length starts) down right e
      ∙ (ap₂ (λ p q. start_marks (length starts) p q) d r
      ∙ sym (marks_new (columns_of_frames fs) (columns_of_frames fs') starts x (are_columns fs' (starts ++ x ∷ []) g.sound) h.ordered g.by
      g.lefts))

  -- the marks of the others
  pub marks_same : (i k : ℕ) → k < length (nodes_at (columns_of_frames fs) i) → instance_marks (columns_of_frames fs')
      (starts ++ x ∷ []) i k ≡ instance_marks (columns_of_frames fs) starts i k
  marks_same i k l = marks_stay (columns_of_frames fs) (columns_of_frames fs') starts x (are_columns fs' (starts ++ x ∷ []) g.sound)
      h.ordered g.by g.lefts i k (h.all i k l)

  -- how far the others are joined
  pub left_joined_same : (i k : ℕ) → k < length (nodes_at (columns_of_frames fs) i) → left_joined (columns_of_frames fs') i k ≡ left_joined
      (columns_of_frames fs) i k
  left_joined_same zero k l = refl
  left_joined_same (suc i) k l = g.joins i k l

  -- another token that is kept
  pub kept_grows : {M : Type 0} (ReadyAt : M → ℕ → List (List ℤ) → Type 0) (tie : M → Tie) (lists : ListIdentities)
      (traces traces' : List (List (List Entry))) (c c' : State) (i : ℕ) (f : Frame) (t : FrameToken M)
      → c.frames ≡ fs → c'.frames ≡ fs' → frame_at fs i ≡ Some f → get_or traces' i [] ≡ get_or traces i []
      → ((m : ℤ) → LeftHasPassed fs i m → LeftHasPassed fs' i m)
      → IsKeptToken ReadyAt tie lists traces starts c i f t → IsKeptToken ReadyAt tie lists traces' (starts ++ x ∷ []) c' i f t
  kept_grows ReadyAt tie lists traces traces' c c' i f t a a' is same passes q =
      let cols : own_columns c ≡ columns_of_frames fs = ap columns_of_frames a in
      let cols' : own_columns c' ≡ columns_of_frames fs' = ap columns_of_frames a' in
      let l : t.index < length (nodes_at (columns_of_frames fs) i) =
      (let w = q.index in let z = ap length (nodes_at_frame fs i f is) in omega (arith, w, z)) in
      record {
        iteration = q.iteration;
        index = q.index;
        joined = q.joined ∙ (ap (λ z. left_joined z i t.index) cols
            ∙ (sym (left_joined_same i t.index l) ∙ sym (ap (λ z. left_joined z i t.index) cols')));
        folded = λ m p. subst (λ z. LeftHasPassed z i m) (sym a') (passes m (subst (λ z. LeftHasPassed z i m) a (q.folded m p)));
        marks = λ e. q.marks e ∙ (ap (λ z. instance_marks z starts i t.index) cols
            ∙ (sym (marks_same i t.index l) ∙ sym (ap (λ z. instance_marks z (starts ++ x ∷ []) i t.index) cols')));
        knows = q.knows;
        belongs = q.belongs;
        ready = subst (λ ts. ReadyAt t.payload i (map replies_of ts)) (sym same) q.ready;
      }
