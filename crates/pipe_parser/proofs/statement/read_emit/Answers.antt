use Rattle.pipe_parser.proofs.StatementFronts.{emit_read}
use Rattle.pipe_parser.proofs.statement.read_emit.Goals as goal

pub returns-clause-ok : goal.returns-clause-ok
returns-clause-ok c = emit_read _ _ _ c.in_ok-e.ensures.ok
