use Rattle.std.proofs.Common.{refl}
use Rattle.std.specs.Fmt.{digits}
use Rattle.program_laws.proofs.examples.lines_are_printed.Goals as goal

pub returns : goal.returns
unfolding digits
returns c = (refl, refl)
