-- A start adds two entries to each log and changes nothing before them.
use Rattle.std.proofs.Common.{ℕ, List, length, ◌≡◌, ◌+◌, [], ◌∷◌, ◌++◌, arith, ap, suc, ◌∙◌, ◌<◌, refl, ap₂, inl, inr, zero}
use Rattle.std.specs.declared.option.Option.{Option}
use Rattle.std.specs.declared.option.Option.TheVariants.{Some, None}
use Rattle.std.proofs.lemmas.List.{length_push}
use Rattle.pipe_model.specs.Races.Columns.{AreColumns, nodes_at, at}
use Rattle.pipe_model.specs.Orders.LeftParent.{left_parent}
use Rattle.pipe_model.specs.Orders.Starts.{AreStarts, start_number, start_at}
use Rattle.pipe_model.specs.Orders.TwoOrders.{log_entries, first_placeholder, down_first_taken, second_placeholder, up_taken}
use Rattle.pipe_model.specs.Orders.TwoOrders.{right_taken_from}
use Rattle.pipe_model.specs.Orders.TwoOrders.{right_first_taken, down_first_log, right_first_log}
use Rattle.pipe_model.specs.declared.node.Node.{Node}
use Rattle.pipe_model.specs.declared.node.NodeId.{NodeId}
use Rattle.run_laws.proofs.ListOrders.LeftParents.{left_is}
use Rattle.run_laws.proofs.ListOrders.ListsOfStarts.{taken_at}
use Rattle.run_laws.proofs.ListOrders.OneMoreStart.{GrowsBy, starts_grown, start_either, start_old, start_new}
use Rattle.run_laws.proofs.ListOrders.StartNumbers.{up_ordered, head_ordered, left_ordered}

-- the entries of one more start
pub log_entries-push : (taken : ℕ → ℕ → ℕ) (m : ℕ) (xs : List NodeId) (x : NodeId)
    → log_entries taken m (xs ++ x ∷ []) ≡ log_entries taken m xs ++ taken x.iteration x.index
    ∷ first_placeholder (m + length xs) ∷ []
log_entries-push taken m [] x =
    let e : m ≡ m + 0 = omega arith in
    ap (λ k. taken x.iteration x.index ∷ first_placeholder k ∷ []) e
log_entries-push taken m (y ∷ xs) x =
    ap (λ es. taken y.iteration y.index ∷ first_placeholder m ∷ es) (log_entries-push taken (m + 1) xs x ∙ (
    let e : m + 1 + length xs ≡ m + suc (length xs) = omega arith in
    ap (λ k. log_entries taken (m + 1) xs ++ taken x.iteration x.index ∷ first_placeholder k ∷ []) e))

-- equal elements give equal entries
log_entries_same : (taken taken' : ℕ → ℕ → ℕ) (m : ℕ) (xs : List NodeId)
    → ((t : ℕ) → t < length xs → taken_at taken xs t ≡ taken_at taken' xs t)
    → log_entries taken m xs ≡ log_entries taken' m xs
log_entries_same taken taken' m [] h = refl
log_entries_same taken taken' m (x ∷ xs) h =
    ap₂ (λ a es. a ∷ first_placeholder m ∷ es) (h 0 (omega arith))
    (log_entries_same taken taken' (m + 1) xs (λ t l. h (suc t) (omega arith)))

module _ (columns columns' : List (List Node)) (starts : List NodeId) (x : NodeId) (ok : AreColumns columns')
    (h : AreStarts columns starts) (g : GrowsBy columns columns' starts x)
    (lefts : (c k : ℕ) → k < length (nodes_at columns c) → left_parent columns' c k ≡ left_parent columns c k) where
  -- the starts with one more
  starts_after : AreStarts columns' (starts ++ x ∷ [])
  starts_after = starts_grown columns columns' starts x h g

  -- a parent of a started instance has the number that it had before
  parent_same : (i j k l : ℕ) → start_number (starts ++ x ∷ []) i j < start_number (starts ++ x ∷ []) k l
      → start_number (starts ++ x ∷ []) k l < length (starts ++ x ∷ [])
      → start_number (starts ++ x ∷ []) i j ≡ start_number starts i j
  parent_same i j k l less w = elim (start_either starts x i j (omega (arith, less, w))) [
    | inl old ↦ start_old starts x i j old
    | inr same ↦ (
        let n = start_new starts x g.new in
        let e : start_number (starts ++ x ∷ []) x.iteration x.index ≡ start_number (starts ++ x ∷ []) i j =
        ap (λ (v : NodeId). start_number (starts ++ x ∷ []) v.iteration v.index) same in
        elim (start_either starts x k l w) [
          | inl old ↦ (let o = start_old starts x k l old in absurd (omega (arith, n, e, o, old, less)))
          | inr same' ↦ (
              let e' : start_number (starts ++ x ∷ []) x.iteration x.index ≡ start_number (starts ++ x ∷ []) k l =
              ap (λ (v : NodeId). start_number (starts ++ x ∷ []) v.iteration v.index) same' in
              absurd (omega (arith, e, e', less)))
        ])
  ]

  -- the element that an instance takes in down-first stays the same
  pub down_same : (i j : ℕ) → start_number (starts ++ x ∷ []) i j < length (starts ++ x ∷ [])
      → down_first_taken (start_number (starts ++ x ∷ [])) i j ≡ down_first_taken (start_number starts) i j
  down_same i (suc j) w =
      ap first_placeholder (parent_same i j i (suc j) (up_ordered columns' (starts ++ x ∷ []) ok starts_after i j w)
      w)
  down_same (suc i) zero w =
      ap second_placeholder (parent_same i 0 (suc i) 0 (head_ordered columns' (starts ++ x ∷ []) ok starts_after i w)
      w)
  down_same zero zero w = refl

  -- the element that an instance takes without a left parent stays the same
  up_same : (i j : ℕ) → start_number (starts ++ x ∷ []) i j < length (starts ++ x ∷ [])
      → up_taken (start_number (starts ++ x ∷ [])) i j ≡ up_taken (start_number starts) i j
  up_same i zero w = refl
  up_same i (suc j) w =
      ap second_placeholder (parent_same i j i (suc j) (up_ordered columns' (starts ++ x ∷ []) ok starts_after i j w)
      w)

  -- the element that an instance takes in right-first stays the same, by the left parent
  from_same : (i j : ℕ) (found : Option ℕ) → left_parent columns' i j ≡ found
      → start_number (starts ++ x ∷ []) i j < length (starts ++ x ∷ [])
      → right_taken_from (start_number (starts ++ x ∷ [])) i j found
      ≡ right_taken_from (start_number starts) i j found
  from_same zero j found e w = up_same zero j w
  from_same (suc i) j (Some b) e w =
      ap first_placeholder (parent_same i b (suc i) j
      (left_ordered columns' (starts ++ x ∷ []) ok starts_after i j b (left_is columns' i j b e) w) w)
  from_same (suc i) j None e w = up_same (suc i) j w

  -- the element that an instance takes in right-first stays the same
  pub right_same : (i j : ℕ) → start_number (starts ++ x ∷ []) i j < length (starts ++ x ∷ [])
      → right_first_taken columns' (start_number (starts ++ x ∷ [])) i j
      ≡ right_first_taken columns' (start_number starts) i j
  right_same i j w = from_same i j (left_parent columns' i j) refl w

  -- an instance that has started has started in the longer list
  started_longer : (i j : ℕ) → start_number starts i j < length starts
      → start_number (starts ++ x ∷ []) i j < length (starts ++ x ∷ [])
  started_longer i j w =
      let e = start_old starts x i j w in
      let n = length_push starts x in
      omega (arith, e, n, w)

  -- each start has started
  started_at : (t : ℕ) → t < length starts
      → start_number starts (start_at starts t).iteration (start_at starts t).index < length starts
  started_at t l = let o = h.once t l in omega (arith, o, l)

  -- the element of each started instance stays the same, in down-first
  pub down_stays : (i j : ℕ) → start_number starts i j < length starts
      → down_first_taken (start_number (starts ++ x ∷ [])) i j ≡ down_first_taken (start_number starts) i j
  down_stays i j w = down_same i j (started_longer i j w)

  -- the element of each started instance stays the same, in right-first
  pub right_stays : (i j : ℕ) → start_number starts i j < length starts
      → right_first_taken columns' (start_number (starts ++ x ∷ [])) i j
      ≡ right_first_taken columns (start_number starts) i j
  right_stays i j w =
      right_same i j (started_longer i j w) ∙ ap (right_taken_from (start_number starts) i j)
      (lefts i j (h.inside (at i j) w).1)

  -- the new start has started
  pub new_started : start_number (starts ++ x ∷ []) x.iteration x.index < length (starts ++ x ∷ [])
  new_started = let n = start_new starts x g.new in let e = length_push starts x in omega (arith, n, e)

  -- the down-first log grows by two entries
  pub down_log_grows : down_first_log (starts ++ x ∷ []) ≡ down_first_log starts
      ++ down_first_taken (start_number starts) x.iteration x.index ∷ first_placeholder (length starts) ∷ []
  down_log_grows = log_entries-push (down_first_taken (start_number (starts ++ x ∷ []))) 0 starts x
      ∙ (ap₂ (λ es a. es ++ a ∷ first_placeholder (0 + length starts) ∷ [])
      (log_entries_same (down_first_taken (start_number (starts ++ x ∷ [])))
      (down_first_taken (start_number starts)) 0 starts
      (λ t l. down_stays (start_at starts t).iteration (start_at starts t).index (started_at t l)))
      (down_same x.iteration x.index new_started)
      ∙ (
      let e : 0 + length starts ≡ length starts = omega arith in
      ap (λ k. down_first_log starts ++ down_first_taken (start_number starts) x.iteration x.index
      ∷ first_placeholder k ∷ []) e))

  -- the right-first log grows by two entries
  pub right_log_grows : right_first_log columns' (starts ++ x ∷ []) ≡ right_first_log columns starts
      ++ right_first_taken columns' (start_number starts) x.iteration x.index ∷ first_placeholder (length starts)
      ∷ []
  right_log_grows = log_entries-push (right_first_taken columns' (start_number (starts ++ x ∷ []))) 0 starts x
      ∙ (ap₂ (λ es a. es ++ a ∷ first_placeholder (0 + length starts) ∷ [])
      (log_entries_same (right_first_taken columns' (start_number (starts ++ x ∷ [])))
      (right_first_taken columns (start_number starts)) 0 starts
      (λ t l. right_stays (start_at starts t).iteration (start_at starts t).index (started_at t l)))
      (right_same x.iteration x.index new_started)
      ∙ (
      let e : 0 + length starts ≡ length starts = omega arith in
      ap (λ k. right_first_log columns starts ++ right_first_taken columns' (start_number starts) x.iteration x.index
      ∷ first_placeholder k ∷ []) e))
