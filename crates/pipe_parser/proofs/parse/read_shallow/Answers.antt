use Rattle.pipe_parser.proofs.Parses.{spelled, shallow_fault}
use Rattle.pipe_parser.proofs.Results.{if_ok, if_err}
use Rattle.pipe_parser.proofs.parse.read_shallow.Goals as goal

pub returns-clause-ok : goal.returns-clause-ok
returns-clause-ok c = if_ok _ _ c.read_program.result (λ p r. spelled _ _ r c.requires) c.read_program.ensures.ok

pub returns-clause-err : goal.returns-clause-err
returns-clause-err c = if_err _ _ c.read_program.result (λ f r. shallow_fault _ f r c.requires) c.read_program.ensures.err
