use Rattle.run_record.proofs.SortedEntries.{merges_are_those}
use Rattle.run_record.proofs.law.merges_are_sorted.Goals as goal

pub returns : goal.returns
returns c = merges_are_those
