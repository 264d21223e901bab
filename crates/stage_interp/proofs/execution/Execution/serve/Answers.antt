use Rattle.std.proofs.Common.{refl, ap, subst, sym}
use Rattle.stage_interp.specs.declared.pending.Pending.TheVariants as pendings
use Rattle.stage_interp.specs.Executions.{CanServe, Serves, state_of, setting_for}
use Rattle.stage_interp.specs.RemainingBehaviour.{pending_of}
use Rattle.stage_interp.proofs.Accesses.{here}
use Rattle.stage_interp.proofs.execution.Execution.serve.Goals as goal

pub returns-in-Nothing-clause-ran : goal.returns-in-Nothing-clause-ran
returns-in-Nothing-clause-ran g c = here (setting_for c.args.code.now (g.M.Memory.served c.args.memory.now) c.args.input.now
    c.args.self.now) _
    (pending_of (setting_for c.args.code.now (g.M.Memory.served c.args.memory.now) c.args.input.now c.args.self.now)
    (state_of c.args.self.now)
    pendings.Nothing) _ _ _ _ _ (ap (pending_of (setting_for c.args.code.now (g.M.Memory.served c.args.memory.now) c.args.input.now
    c.args.self.now) (state_of c.args.self.now)) c.in-Nothing.is) refl refl refl

pub read_cell-requires-clause-safe : goal.read_cell-requires-clause-safe
read_cell-requires-clause-safe g c =
    subst (λ p. CanServe c.args.code.now (g.M.Memory.served c.args.memory.now) c.args.input.now c.args.self.now p)
    c.in-Read.is c.requires.safe

pub returns-in-Read-clause-ran : goal.returns-in-Read-clause-ran
returns-in-Read-clause-ran g c =
    subst (λ p. Serves c.args.code.now (g.M.Memory.served c.args.memory.now) c.args.input.now c.args.self.now p
    (g.M.Memory.made c.args.memory.now) c.read_cell.result c.read_cell.new.self (g.M.Memory.made c.read_cell.new.memory))
    (sym c.in-Read.is) c.read_cell.ensures.ran

pub read_more-requires-clause-safe : goal.read_more-requires-clause-safe
read_more-requires-clause-safe g c =
    subst (λ p. CanServe c.args.code.now (g.M.Memory.served c.args.memory.now) c.args.input.now c.args.self.now p)
    c.in-More.is c.requires.safe

pub returns-in-More-clause-ran : goal.returns-in-More-clause-ran
returns-in-More-clause-ran g c =
    subst (λ p. Serves c.args.code.now (g.M.Memory.served c.args.memory.now) c.args.input.now c.args.self.now p
    (g.M.Memory.made c.args.memory.now) c.read_more.result c.read_more.new.self (g.M.Memory.made c.read_more.new.memory))
    (sym c.in-More.is) c.read_more.ensures.ran

pub read_take-requires-clause-safe : goal.read_take-requires-clause-safe
read_take-requires-clause-safe g c =
    subst (λ p. CanServe c.args.code.now (g.M.Memory.served c.args.memory.now) c.args.input.now c.args.self.now p)
    c.in-Take.is c.requires.safe

pub returns-in-Take-clause-ran : goal.returns-in-Take-clause-ran
returns-in-Take-clause-ran g c =
    subst (λ p. Serves c.args.code.now (g.M.Memory.served c.args.memory.now) c.args.input.now c.args.self.now p
    (g.M.Memory.made c.args.memory.now) c.read_take.result c.read_take.new.self (g.M.Memory.made c.read_take.new.memory))
    (sym c.in-Take.is) c.read_take.ensures.ran
