use Rattle.std.proofs.Common.{◌++◌, ◌∷◌, [], subst}
use Rattle.access_history.proofs.KnownAccesses.{known_step}
use Rattle.access_history.specs.KeptInstances.{IsHistoryAfter}
use Rattle.access_history.specs.KnownOrder.{kept_known}
use Rattle.pipe_model.specs.declared.access.AccessKind.{AccessKind}
use Rattle.pipe_model.specs.Races.CellRaces.{noted_access}
use Rattle.access_history.proofs.history.History.note_known.Goals as goal

pub returns-in-Read-clause-step : goal.returns-in-Read-clause-step
returns-in-Read-clause-step c = λ down right known accesses before.
    subst (λ (k : AccessKind). IsHistoryAfter down right (accesses ++ noted_access c.args.who.node c.args.kind ∷ [])
    (kept_known c.args.self.now c.args.who k)) c.in-Read.is
    (known_step c.args.joined down right c.args.who c.args.self.now c.args.kind c.requires.known known accesses before)

pub returns-in-Write-clause-step : goal.returns-in-Write-clause-step
returns-in-Write-clause-step c = λ down right known accesses before.
    subst (λ (k : AccessKind). IsHistoryAfter down right (accesses ++ noted_access c.args.who.node c.args.kind ∷ [])
    (kept_known c.args.self.now c.args.who k)) c.in-Write.is
    (known_step c.args.joined down right c.args.who c.args.self.now c.args.kind c.requires.known known accesses before)
