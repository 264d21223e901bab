use Rattle.std.proofs.Common.{refl}
use Rattle.std.specs.Fmt.{digits}
use Rattle.pipe_gen.proofs.examples.small_source.Goals as goal

pub returns : goal.returns
unfolding digits
returns c = refl
