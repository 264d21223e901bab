-- The elements of the two order lists that belong to the instances of a list of starts.
use Rattle.std.specs.Prelude.{ℕ, List}
use Rattle.pipe_model.specs.declared.marks.Marks.{Marks}
use Rattle.pipe_model.specs.declared.node.Node.{Node}
use Rattle.pipe_model.specs.declared.node.NodeId.{NodeId}
use Rattle.pipe_model.specs.Races.Columns.{at}
use Rattle.pipe_model.specs.Orders.Starts.{start_number}
use Rattle.pipe_model.specs.Orders.TwoOrders.{down_element, right_element, first_placeholder, second_placeholder}

-- the marks of start m, whose elements are `down` and `right`
abbrev pub start_marks : ℕ → ℕ → ℕ → Marks
start_marks m down right = record {
  down_first = down;
  right_first = right;
  down = record { down_first = first_placeholder m; right_first = second_placeholder m };
  right = record { down_first = second_placeholder m; right_first = first_placeholder m };
}

-- the marks of instance k of iteration i
abbrev pub instance_marks : List (List Node) → List NodeId → ℕ → ℕ → Marks
instance_marks columns starts i k = start_marks (start_number starts i k) (down_element starts (at i k))
    (right_element columns starts (at i k))
