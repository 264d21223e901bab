-- The slot of a name, found by going over the locals in order.
use Rattle.std.proofs.Common.{ℕ, ◌+◌}
use Rattle.std.proofs.Common.{Option, Some, None}

-- the slot, if n more locals come before
abbrev pub later_by : ℕ → Option ℕ → Option ℕ
later_by n None = None
later_by n (Some slot) = Some (n + slot)
