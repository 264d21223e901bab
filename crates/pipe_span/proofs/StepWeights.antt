-- From weights to steps.
use Rattle.std.proofs.Common.{◌≡◌, ◌∙◌, ℕ, ◌≤◌, ℤ, pos, negsuc, ◌≤ℤ◌, List, [], get_or, sym, ap, subst, arith}
use Rattle.std.proofs.lemmas.Int.{ints}
use Rattle.std.proofs.Math.ListN.{get_or-map}
use Rattle.std.specs.List.{sum}
use Rattle.pipe_model.specs.declared.node.Node.{Node}
use Rattle.pipe_model.specs.declared.node.NodeId.{NodeId}
use Rattle.pipe_span.specs.Entries.{AreWeights, most_weight}
use Rattle.pipe_span.specs.WorkAndSpan.{AreSteps, Heaviest, IsHeaviest, IsSpanOf, IsWorkAndSpan, NoColumns, weight_of_steps, weights_of}

step_weight : (z : ℤ) → z ≤ℤ pos most_weight → weight_of_steps z ≤ most_weight
step_weight (pos n) l = omega (arith, ints, l)
step_weight (negsuc n) l = omega arith

pub steps_weigh : (steps : List ℤ) → AreSteps steps → AreWeights (weights_of steps)
steps_weigh steps h = record {
  each = λ k. subst (λ w. w ≤ most_weight) (sym (get_or-map weight_of_steps steps k (pos 0)))
      (step_weight (get_or steps k (pos 0)) (h.most k));
}

pub weights_are : (steps : List ℤ) (some : List ℤ) (weights all : List ℕ) → AreSteps steps → some ≡ steps → weights ≡ weights_of some
    → all ≡ weights → AreWeights all
weights_are steps some weights all h e f g = subst AreWeights (ap weights_of (sym e) ∙ sym f ∙ sym g) (steps_weigh steps h)

pub no_columns : (columns : List (List Node)) (steps : List ℤ) (weights : List ℕ) (total : ℕ) (work : ℤ) (path : List NodeId)
    → work ≡ pos total → total ≡ sum weights → weights ≡ weights_of steps → columns ≡ [] → path ≡ []
    → IsWorkAndSpan columns steps (record { work = work; span = pos 0; path = path })
no_columns columns steps weights total work path e f g none empty = record {
  work = e ∙ ap pos (f ∙ ap sum g);
  span = subst (IsSpanOf columns (weights_of steps) (pos 0)) (sym empty) (NoColumns none);
}

pub some_columns : (columns : List (List Node)) (steps : List ℤ) (weights : List ℕ) (total weight : ℕ) (work span : ℤ) (path : List NodeId)
    → work ≡ pos total → total ≡ sum weights → weights ≡ weights_of steps → span ≡ pos weight → IsHeaviest columns weights path weight
    → IsWorkAndSpan columns steps (record { work = work; span = span; path = path })
some_columns columns steps weights total weight work span path e f g s h = record {
  work = e ∙ ap pos (f ∙ ap sum g);
  span = subst (λ z. IsSpanOf columns (weights_of steps) z path) (sym s)
      (Heaviest path weight (subst (λ w. IsHeaviest columns w path weight) g h));
}
