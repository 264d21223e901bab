use Rattle.std.proofs.Common.{◌∙◌, subst}
use Rattle.pipe_frame.specs.SeatedTokens.{IsGivenToken}
use Rattle.pipe_worker.proofs.worker.Worker.begin.Goals as goal

pub run-requires-clause-named : goal.run-requires-clause-named
run-requires-clause-named g c = c.begin.ensures.named ∙ c.requires.named

pub run-requires-clause-given : goal.run-requires-clause-given
run-requires-clause-given g c =
    subst (λ h. IsGivenToken g.M.Stands.ready_at g.M.Stands.tie h c.in-Started.token) c.requires.named c.in-Started.ensures.token

pub empty-requires : goal.empty-requires
empty-requires g c = record { named = c.begin.ensures.named ∙ c.requires.named }
