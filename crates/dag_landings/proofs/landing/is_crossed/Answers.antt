use Rattle.std.proofs.Common.{arith}
use Rattle.std.proofs.lemmas.Int.{ints}
use Rattle.dag_landings.proofs.Crossings.{crossed_by_head, crossed_by_wait, none_by_number}
use Rattle.dag_landings.proofs.landing.is_crossed.Goals as goal

pub returns-then-from-eq0-clause-yes : goal.returns-then-from-eq0-clause-yes
returns-then-from-eq0-clause-yes c =
    crossed_by_head _ _ _ _ c.requires.from_in c.requires.k_in c.if-k-eq0.true c.if-from-eq0.true

pub returns-then-right-k-clause-no : goal.returns-then-right-k-clause-no
returns-then-right-k-clause-no c =
    none_by_number _ _ _ _ c.requires.rising (λ e f. grind (arith, e, f, c.else-k-eq0.either)) (grind (arith, ints))

pub returns-else-right-k-clause-yes : goal.returns-else-right-k-clause-yes
returns-else-right-k-clause-yes c =
    crossed_by_wait _ _ _ _ c.requires.rising c.requires.from_in c.requires.k_in c.in-Wait.is (grind (arith, ints))
