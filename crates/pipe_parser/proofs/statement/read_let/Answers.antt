use Rattle.std.proofs.Common.{rules, ◌≡◌}
use Rattle.pipe_parser.proofs.StatementFronts.{let_read}
use Rattle.pipe_parser.proofs.statement.read_let.Goals as goal

pub returns-clause-ok : goal.returns-clause-ok
returns-clause-ok c =
    let same : c.in_ok-name.name ≡ c.in-Some.name.now = search rules in
    rw same (let_read _ _ _ _ _ _ c.in-Some.ensures.some c.in_ok-rest.ensures.ok c.in_ok-e.ensures.ok)
