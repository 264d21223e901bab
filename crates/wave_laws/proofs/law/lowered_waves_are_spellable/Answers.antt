use Rattle.wave_laws.proofs.LoweredSizes.{lowered_waves_are_spellable}
use Rattle.wave_laws.proofs.law.lowered_waves_are_spellable.Goals as goal

pub returns : goal.returns
returns c = lowered_waves_are_spellable
