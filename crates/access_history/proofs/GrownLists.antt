-- Orders that agree with two lists agree with longer ones.
use Rattle.std.proofs.Common.{ℕ, List, Option, Some, None}
use Rattle.std.specs.Prelude.{IfSome}
use Rattle.access_history.specs.KeptInstances.{AgreeOn, AgreeOnKept, KeptAreIn}
use Rattle.access_history.specs.declared.history.History.{History}
use Rattle.access_history.specs.declared.history.MarkedNode.{MarkedNode}
use Rattle.pipe_model.specs.declared.marks.Marks.{Marks}
use Rattle.pipe_model.specs.declared.node.NodeId.{NodeId}
use Rattle.pipe_model.specs.Orders.GrowingLists.{AreIn, KeepsOrder}

-- what holds of an instance, if there is one, follows from two other facts of it
pub both_of_some : (P Q R : MarkedNode → Type 0) (o : Option MarkedNode) → ((w : MarkedNode) → P w → Q w → R w) → IfSome o P → IfSome o Q
    → IfSome o R
both_of_some P Q R None f p q = tt
both_of_some P Q R (Some w) f p q = f w p q

pub in_grown : (d r d' r' : List ℕ) (m : Marks) → KeepsOrder d d' → KeepsOrder r r' → AreIn d r m → AreIn d' r' m
in_grown d r d' r' m grown grown' h = record {
  down = grown.elements m.down_first h.down;
  right = grown'.elements m.right_first h.right;
}

pub agree_grown : (d r d' r' : List ℕ) (down right : NodeId → ℕ) (x y : MarkedNode)
    → KeepsOrder d d' → KeepsOrder r r' → AreIn d r x.marks → AreIn d r y.marks
    → AgreeOn d r down right x y → AgreeOn d' r' down right x y
agree_grown d r d' r' down right x y grown grown' in_x in_y a =
    let o = grown.order y.marks.down_first x.marks.down_first in_y.down in_x.down in
    let p = grown'.order y.marks.right_first x.marks.right_first in_y.right in_x.right in
    record {
      in_down = ((λ b. a.in_down.0 (o.0 b)), (λ b. o.1 (a.in_down.1 b)));
      in_right = ((λ b. a.in_right.0 (p.0 b)), (λ b. p.1 (a.in_right.1 b)));
    }

-- the same for a kept instance
pub agree_on_one : (d r d' r' : List ℕ) (down right : NodeId → ℕ) (x : MarkedNode) (o : Option MarkedNode)
    → KeepsOrder d d' → KeepsOrder r r' → AreIn d r x.marks → IfSome o (λ y. AreIn d r y.marks)
    → IfSome o (AgreeOn d r down right x) → IfSome o (AgreeOn d' r' down right x)
agree_on_one d r d' r' down right x o grown grown' in_x in_o a =
    both_of_some (λ y. AreIn d r y.marks) (AgreeOn d r down right x) (AgreeOn d' r' down right x) o
    (λ y in_y b. agree_grown d r d' r' down right x y grown grown' in_x in_y b) in_o a

pub agree_on_kept : (d r d' r' : List ℕ) (down right : NodeId → ℕ) (x : MarkedNode) (h : History)
    → KeepsOrder d d' → KeepsOrder r r' → AreIn d r x.marks → KeptAreIn d r h
    → AgreeOnKept d r down right x h → AgreeOnKept d' r' down right x h
agree_on_kept d r d' r' down right x h grown grown' in_x kept a = record {
  writer = agree_on_one d r d' r' down right x h.writer grown grown' in_x kept.writer a.writer;
  rightmost = agree_on_one d r d' r' down right x h.rightmost grown grown' in_x kept.rightmost a.rightmost;
  downmost = agree_on_one d r d' r' down right x h.downmost grown grown' in_x kept.downmost a.downmost;
}
