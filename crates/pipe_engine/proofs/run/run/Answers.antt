use Rattle.serial_elision.proofs.Results.{map_ok}
use Rattle.pipe_engine.proofs.run.run.Goals as goal

pub returns-clause-silent : goal.returns-clause-silent
returns-clause-silent g c = map_ok c.run_coded.result c.run_coded.ensures (λ r h. h.elision.silent)
