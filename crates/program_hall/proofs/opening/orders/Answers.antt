use Rattle.std.proofs.Common.{ap}
use Rattle.program_hall.proofs.opening.orders.Goals as goal

pub returns-clause-identities : goal.returns-clause-identities
returns-clause-identities c = ((_, _, ap (λ l. l.down) c.new-passes.ensures), (_, _, ap (λ l. l.right) c.new-passes.ensures))
