use Rattle.record_parser.specs.LogForms.{Traps}
use Rattle.record_parser.proofs.log_line.trap_event.Goals as goal

pub returns-clause-some : goal.returns-clause-some
returns-clause-some c = Traps c.in-Some.f.iteration c.in-Some.f.trap c.in-Some.ensures.some
