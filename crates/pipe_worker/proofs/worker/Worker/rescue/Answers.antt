use Rattle.std.proofs.Common.{◌∙◌}
use Rattle.pipe_worker.proofs.worker.Worker.rescue.Goals as goal

pub begin-requires-clause-named : goal.begin-requires-clause-named
begin-requires-clause-named g c = c.rescue.ensures.named ∙ c.requires.named

pub empty-requires : goal.empty-requires
empty-requires g c = record { named = c.rescue.ensures.named ∙ c.requires.named }

pub returns-then-not-may_begin-clause-named : goal.returns-then-not-may_begin-clause-named
returns-then-not-may_begin-clause-named g c = c.rescue.ensures.named ∙ c.requires.named

pub returns-in-Nothing-clause-named : goal.returns-in-Nothing-clause-named
returns-in-Nothing-clause-named g c = c.rescue.ensures.named ∙ c.requires.named

pub returns-in-Finished-clause-named : goal.returns-in-Finished-clause-named
returns-in-Finished-clause-named g c = c.rescue.ensures.named ∙ c.requires.named
