-- The numbers so far.
use Rattle.std.proofs.Common.{◌≡◌, map, take}
use Rattle.pipe_model.specs.declared.node.Node.{Node}
use Rattle.order_2d.proofs.numbers.stage_numbers.Given as goal

abbrev pub invariant-loop-node : goal.invariant-loop-node
invariant-loop-node l = l.numbers ≡ map (λ (n : Node). n.number) (take l.node-index l.nodes)
