use Rattle.std.proofs.Common.{◌≡◌, ◌-◌, ◌+◌, length, IfSome}
use Rattle.pipe_io.specs.WholeFiles.{IsPrefixOf}
use Rattle.pipe_io.proofs.whole.read_whole.Given as goal

abbrev pub invariant-loop-part : goal.invariant-loop-part
invariant-loop-part g l = record {
  holds : g.F.Files.holds l.files ≡ g.F.Files.holds l.fn.files;
  count : g.F.Files.faults l.files ≡ g.F.Files.faults l.fn.files;
  room : length l.part ≡ 4096;
  prefix : IfSome (g.F.Files.holds l.files) (λ content. IsPrefixOf (content l.name) l.bytes.items);
}

abbrev pub decreases-loop-part : goal.decreases-loop-part
decreases-loop-part g l = l.limit + 1 - length l.bytes.items
