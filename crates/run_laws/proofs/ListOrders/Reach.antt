-- How far the columns to the left precede an instance.
use Rattle.std.proofs.Common.{ℕ, zero, suc, List, if◌then◌else◌, nat_le}
use Rattle.pipe_model.specs.declared.node.Node.{Node}
use Rattle.pipe_model.specs.Orders.LeftParent.{joined_at}

-- the last index of column a that precedes instance k of column i, if a is left of i; k itself if a is i
abbrev pub reach : List (List Node) → ℕ → ℕ → ℕ → ℕ
reach columns zero k a = k
reach columns (suc i) k a = if nat_le a i then reach columns i (joined_at columns i k) a else k
