use Rattle.wave_laws.proofs.LoweredMarks.{lowered_waves_break_no_rule}
use Rattle.wave_laws.proofs.law.lowered_waves_break_no_rule.Goals as goal

pub returns : goal.returns
returns c = lowered_waves_break_no_rule
