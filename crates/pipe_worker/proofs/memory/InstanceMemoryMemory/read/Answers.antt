-- An access leaves what is known of the instance as it was.
use Rattle.std.proofs.Common.{◌∙◌, ap, subst}
use Rattle.std.proofs.lemmas.Bool.{false≢true}
use Rattle.pipe_frame.specs.SeatedTokens.{IsSeated}
use Rattle.pipe_frame.specs.TokenFields.{TokenFields, fields_of}
use Rattle.worker_tasks.proofs.TokenSums.{then_exchanges}
use Rattle.pipe_worker.proofs.memory.InstanceMemoryMemory.read.Goals as goal

pub invariant_of-self : goal.invariant_of-self
invariant_of-self g c =
    let i = c.self.invariant in
    let e = c.access-reply.ensures in
    let t = c.access-reply.new.token in (
      i.0,
      e.named ∙ i.1,
      record {
        out = subst (λ h. IsSeated h (fields_of t) (g.M.Stands.tie t.payload)) i.1 e.out;
        entries = e.trace;
        replies_are = e.replies ∙ i.2.replies_are;
        iteration_is = ap (λ (f : TokenFields). f.iteration) e.instance.fields ∙ i.2.iteration_is;
      },
      (λ q. absurd (false≢true q)),
      then_exchanges g.J.RunningInstance.counts (g.H.Hall.tokens c.self.inside.lent.hall.now) (g.H.Hall.tokens c.access-reply.new.self)
          i.4 e.tokens,
    )

pub invariant_of-self-in-Stopped : goal.invariant_of-self-in-Stopped
invariant_of-self-in-Stopped g c =
    let i = c.self.invariant in
    let e = c.access-reply.ensures in
    let t = c.access-reply.new.token in (
      i.0,
      e.named ∙ i.1,
      record {
        out = subst (λ h. IsSeated h (fields_of t) (g.M.Stands.tie t.payload)) i.1 e.out;
        entries = e.trace;
        replies_are = e.replies ∙ i.2.replies_are;
        iteration_is = ap (λ (f : TokenFields). f.iteration) e.instance.fields ∙ i.2.iteration_is;
      },
      (λ q. e.stopped c.in-Stopped.is),
      then_exchanges g.J.RunningInstance.counts (g.H.Hall.tokens c.self.inside.lent.hall.now) (g.H.Hall.tokens c.access-reply.new.self)
          i.4 e.tokens,
    )
