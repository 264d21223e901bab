use Rattle.pipe_check.proofs.FirstFaults.{breaks_none, has_no_fault}
use Rattle.pipe_check.proofs.law.faultless_programs_break_no_rule.Goals as goal

pub returns : goal.returns
returns c = λ tree. (breaks_none tree, has_no_fault tree)
