-- If no joined index is given, nothing is known of any kept instance, so any orders agree with what is known.
use Rattle.std.proofs.Common.{ℕ, Option, Some, None, IfSome}
use Rattle.std.proofs.lemmas.Bool.{false≢true}
use Rattle.access_history.specs.declared.history.History.{History}
use Rattle.access_history.specs.declared.history.MarkedNode.{MarkedNode}
use Rattle.access_history.specs.KnownOrder.{AgreeOnKnown, AgreeOnKnownKept}
use Rattle.pipe_model.specs.declared.node.NodeId.{NodeId}

nothing_known_of : (down right : NodeId → ℕ) (x : NodeId) (kept : Option MarkedNode)
    → IfSome kept (λ y. AgreeOnKnown None down right x y.node)
nothing_known_of down right x None = tt
nothing_known_of down right x (Some y) = λ e. absurd (false≢true e)

pub nothing_known : (down right : NodeId → ℕ) (x : NodeId) (h : History) → AgreeOnKnownKept None down right x h
nothing_known down right x h = record {
  writer = nothing_known_of down right x h.writer;
  rightmost = nothing_known_of down right x h.rightmost;
  downmost = nothing_known_of down right x h.downmost;
}
