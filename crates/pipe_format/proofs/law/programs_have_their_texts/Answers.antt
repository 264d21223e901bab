use Rattle.std.proofs.Common.{refl}
use Rattle.std.specs.Fmt.{digits}
use Rattle.pipe_format.proofs.law.programs_have_their_texts.Goals as goal

pub returns : goal.returns
unfolding digits
returns c = record { bare = refl; sums = refl }
