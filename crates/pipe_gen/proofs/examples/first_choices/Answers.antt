use Rattle.std.proofs.Common.{refl}
use Rattle.pipe_gen.proofs.examples.first_choices.Goals as goal

pub returns : goal.returns
returns c = (refl, refl, refl, refl)
