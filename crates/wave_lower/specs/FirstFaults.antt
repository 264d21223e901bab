-- What an error of the lowering says.
use Rattle.std.specs.Prelude.{◌≡◌, Option, Some}
use Rattle.wave_laws.specs.Waves.WaveFaults.{BadTest, HasStage, NoRow, RowSet, WaveRefusal}
use Rattle.wave_lower.specs.declared.fault.WaveFault.{WaveFault}
use Rattle.wave_lower.specs.declared.fault.WaveFault.TheVariants as faults

-- this is the first fault of the program; `NoMemory` says nothing about it
abbrev pub IsFirstFault : WaveFault → Option WaveRefusal → Type 0
IsFirstFault faults.BadTest fault = fault ≡ Some BadTest
IsFirstFault faults.NoRow fault = fault ≡ Some NoRow
IsFirstFault (faults.HasStage n) fault = fault ≡ Some (HasStage n)
IsFirstFault (faults.RowSet n) fault = fault ≡ Some (RowSet n)
IsFirstFault faults.NoMemory fault = Unit {0}
