use Rattle.std.proofs.Common.{◌≡◌}
use Rattle.hall_calls.proofs.Closing.{LearnedFirst}
use Rattle.hall_calls.proofs.close.learn_all.Given as goal

abbrev pub invariant-loop-k : goal.invariant-loop-k
invariant-loop-k g l = record {
  learned : LearnedFirst l.initial.book l.initial.shards.items l.shards.items l.k;
  book : l.book ≡ l.initial.book;
}
