-- Histories in lists that have grown.
use Rattle.std.proofs.Common.{ℕ, List, Option}
use Rattle.std.specs.Prelude.{IfSome}
use Rattle.access_history.specs.KeptInstances.{KeptAreIn}
use Rattle.access_history.specs.declared.history.History.{History}
use Rattle.access_history.specs.declared.history.MarkedNode.{MarkedNode}
use Rattle.access_history.proofs.GrownLists.{both_of_some, in_grown}
use Rattle.pipe_model.specs.Orders.GrowingLists.{AreIn, KeepsOrder}

one_grown : (d r d' r' : List ℕ) (o : Option MarkedNode) → KeepsOrder d d' → KeepsOrder r r' → IfSome o (λ w. AreIn d r w.marks)
    → IfSome o (λ w. AreIn d' r' w.marks)
one_grown d r d' r' o grown grown' h =
    both_of_some (λ w. AreIn d r w.marks) (λ w. AreIn d r w.marks) (λ w. AreIn d' r' w.marks) o
    (λ w a _. in_grown d r d' r' w.marks grown grown' a) h h

pub kept_grown : (d r d' r' : List ℕ) (h : History) → KeepsOrder d d' → KeepsOrder r r' → KeptAreIn d r h → KeptAreIn d' r' h
kept_grown d r d' r' h grown grown' k = record {
  writer = one_grown d r d' r' h.writer grown grown' k.writer;
  rightmost = one_grown d r d' r' h.rightmost grown grown' k.rightmost;
  downmost = one_grown d r d' r' h.downmost grown grown' k.downmost;
}
