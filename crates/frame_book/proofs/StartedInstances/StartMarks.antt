-- The marks of a start: what an instance takes from its parents' marks, and that the marks of the others stay.
use Rattle.std.proofs.Common.{◌≡◌, ℕ, zero, suc, ◌*◌, ◌<◌, List, [], ◌∷◌, ◌++◌, length, refl, ap, ap₂, ◌∙◌}
use Rattle.std.specs.declared.option.Option.{Option}
use Rattle.std.specs.declared.option.Option.TheVariants.{Some, None}
use Rattle.order_2d.specs.OrderPairs.{marks_after, right_taken}
use Rattle.pipe_model.specs.declared.marks.Marks.{Marks}
use Rattle.pipe_model.specs.declared.node.Node.{Node}
use Rattle.pipe_model.specs.declared.node.NodeId.{NodeId}
use Rattle.pipe_model.specs.Races.Columns.{AreColumns, nodes_at}
use Rattle.pipe_model.specs.Orders.LeftParent.{left_parent}
use Rattle.pipe_model.specs.Orders.OrderMarks.{instance_marks, start_marks}
use Rattle.pipe_model.specs.Orders.Starts.{AreStarts, start_number}
use Rattle.pipe_model.specs.Orders.TwoOrders.{down_first_taken, right_first_taken, right_taken_from}
use Rattle.run_laws.proofs.ListOrders.LogGrowth.{down_same, right_same, down_stays, right_stays, new_started}
use Rattle.run_laws.proofs.ListOrders.OneMoreStart.{GrowsBy, start_old, start_new}

-- the marks of the left parent
abbrev pub parent_marks : List (List Node) → List NodeId → ℕ → Option ℕ → Option Marks
parent_marks columns starts i None = None
parent_marks columns starts zero (Some j) = None
parent_marks columns starts (suc i) (Some j) = Some (instance_marks columns starts i j)

-- and in right-first, by its left parent
pub takes_right_below : (columns : List (List Node)) (starts : List NodeId) (i k : ℕ) (found : Option ℕ) → (i ≡ 0 → found ≡ None)
    → right_taken (Some (instance_marks columns starts i k)) (parent_marks columns starts i found) ≡ right_taken_from
    (start_number starts) i (suc k) found
takes_right_below columns starts zero k None z = refl
takes_right_below columns starts zero k (Some j) z = absurd (let q : Some j ≡ None = z refl in cc)
takes_right_below columns starts (suc i) k None z = refl
takes_right_below columns starts (suc i) k (Some j) z = refl

-- the marks of a start by its number
pub marks_by_number : (n m down right : ℕ) → n ≡ 2 * m → marks_after n down right ≡ start_marks m down right
marks_by_number n m down right e = ap (λ k. marks_after k down right) e

module _ (columns columns' : List (List Node)) (starts : List NodeId) (x : NodeId) (ok : AreColumns columns')
    (h : AreStarts columns starts) (g : GrowsBy columns columns' starts x)
    (lefts : (c k : ℕ) → k < length (nodes_at columns c) → left_parent columns' c k ≡ left_parent columns c k) where
  -- the marks of what had started stay
  pub marks_stay : (i k : ℕ) → start_number starts i k < length starts → instance_marks columns'
      (starts ++ x ∷ []) i k ≡ instance_marks columns starts i k
  marks_stay i k w =
      let a = start_old starts x i k w in
      let d = down_stays columns columns' starts x ok h g lefts i k w in
      let r = right_stays columns columns' starts x ok h g lefts i k w in
      ap (λ m. start_marks m (down_first_taken (start_number (starts ++ x ∷ [])) i k)
      (right_first_taken columns' (start_number (starts ++ x ∷ [])) i k)) a
      ∙ ap₂ (λ p q. start_marks (start_number starts i k) p q) d r

  -- the marks of the new start
  pub marks_new : instance_marks columns' (starts ++ x ∷ []) x.iteration x.index ≡ start_marks (length starts)
      (down_first_taken (start_number starts) x.iteration x.index) (right_first_taken columns' (start_number starts) x.iteration x.index)
  marks_new =
      let w = new_started columns columns' starts x ok h g lefts in
      ap (λ m. start_marks m (down_first_taken (start_number (starts ++ x ∷ [])) x.iteration x.index)
      (right_first_taken columns' (start_number (starts ++ x ∷ [])) x.iteration x.index)) (start_new starts x g.new)
      ∙ ap₂ (λ p q. start_marks (length starts) p q) (down_same columns columns' starts x ok h g lefts x.iteration x.index w)
      (right_same columns columns' starts x ok h g lefts x.iteration x.index w)
