-- What a value on the heap lends.
use Rattle.std.specs.Borrow.{Lends, MutBor, Fml}
use denote.RattleType.{RattleType}
use Rattle.heap_value.specs.contracts.kept.Kept as kept

-- the value itself
abbrev pub LendsKept : (T : RattleType) → MutBor T.Denot → MutBor T.Denot → Fml
LendsKept T s r = Lends (kept.the_row T) T s r (λ w. w)
