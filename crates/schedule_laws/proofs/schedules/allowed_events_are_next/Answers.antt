use Rattle.schedule_laws.proofs.AllowedEvents.{allowed_events_are_next}
use Rattle.schedule_laws.proofs.schedules.allowed_events_are_next.Goals as goal

pub returns : goal.returns
returns c = allowed_events_are_next
