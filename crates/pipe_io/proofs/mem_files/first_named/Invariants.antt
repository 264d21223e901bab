use Rattle.std.proofs.Common.{◌≡◌, drop}
use Rattle.pipe_io.specs.MemoryFiles.{content_of, named_bytes}
use Rattle.pipe_io.proofs.mem_files.first_named.Given as goal

abbrev pub invariant-loop-other : goal.invariant-loop-other
invariant-loop-other l = content_of (named_bytes (drop l.other-index l.files)) l.name ≡ content_of (named_bytes l.files) l.name
