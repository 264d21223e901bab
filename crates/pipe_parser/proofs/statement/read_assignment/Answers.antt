use Rattle.std.proofs.Common.{rules, ◌≡◌}
use Rattle.pipe_parser.proofs.StatementFronts.{assign_read}
use Rattle.pipe_parser.proofs.statement.read_assignment.Goals as goal

pub returns-clause-ok : goal.returns-clause-ok
returns-clause-ok c =
    let same : c.in_ok-name.name ≡ c.args.name.now = search rules in
    rw same (assign_read _ _ _ _ _ c.in-Some-after_sign.ensures.some c.in_ok-e.ensures.ok)
