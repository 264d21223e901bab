use Rattle.schedule_laws.proofs.TicketPaths.{preceding_instances_end_first}
use Rattle.schedule_laws.proofs.tickets.preceding_instances_end_first.Goals as goal

pub returns : goal.returns
returns c = preceding_instances_end_first
