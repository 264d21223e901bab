-- The results of loading a source that is to be run: its program, or the lowered form of a wave loop.
use Rattle.std.specs.Prelude.{◌≡◌, ◌⊎◌, ℕ, List, Option, IfSome, Bool, true, false}
use Rattle.pipe_model.specs.Language.SyntaxTree.{SyntaxTree, tree_of}
use Rattle.pipe_io.specs.Reads.{Content}
use Rattle.command_results.specs.declared.wave_loop.Runnable.{Runnable}
use Rattle.command_results.specs.declared.wave_loop.Runnable.TheVariants as runnables
use Rattle.command_results.specs.CommandFiles.{CanRunBy, program_by}
use Rattle.command_results.specs.ProgramFiles.{IsSourceOf, SourceRefusal}
use Rattle.command_results.specs.WaveRefusals.{IsRefusedWave, IsWaveLine}
use Rattle.wave_laws.specs.Waves.WaveFaults.{WaveRefusal, wave_fault}
use Rattle.std.specs.Prelude.{Some}

-- whether a read of the source failed
abbrev pub is_runnable_fault : Runnable → Bool
is_runnable_fault (runnables.Program checked) = false
is_runnable_fault (runnables.Refused line) = false
is_runnable_fault runnables.Failed = true

-- the line names the program's first fault as a wave loop
pub record IsNoWave (source : List ℕ) (tree : SyntaxTree) (line : List ℕ) : Type 0 where
  pub fault : WaveRefusal
  pub faulty : wave_fault tree ≡ Some fault
  pub line_is : IsWaveLine source tree fault line

-- the program to run of an accepted one
abbrev pub IsRunnableOf : (source : List ℕ) (tree : SyntaxTree) (wave : Bool) → Runnable → Type 0
IsRunnableOf source tree wave (runnables.Program checked) = CanRunBy wave tree × (tree_of checked ≡ program_by wave tree)
IsRunnableOf source tree wave (runnables.Refused line) = (wave ≡ true) × IsNoWave source tree line
IsRunnableOf source tree wave runnables.Failed = ⊥

-- the file holds a source that is accepted as a program, and this is the program to run
pub record IsRunnableSource (file : Option (List ℕ)) (wave : Bool) (program : SyntaxTree) : Type 0 where
  pub tree : SyntaxTree
  pub accepted : IsSourceOf file tree
  pub fits : CanRunBy wave tree
  pub program_is : program ≡ program_by wave tree

-- the file holds a source that is accepted as a program, which is refused as a wave loop
pub record IsSourceOfNoWave (file : Option (List ℕ)) (line : List ℕ) : Type 0 where
  pub tree : SyntaxTree
  pub accepted : IsSourceOf file tree
  pub refused : IsRefusedWave file tree line

-- the result of loading this file: its program to run, or the line that refuses it
abbrev pub IsRunnableFrom : List ℕ → Option (List ℕ) → Bool → Runnable → Type 0
IsRunnableFrom name file wave (runnables.Program checked) = IsRunnableSource file wave (tree_of checked)
IsRunnableFrom name file wave (runnables.Refused line) = SourceRefusal name file line ⊎ ((wave ≡ true) × IsSourceOfNoWave file line)
IsRunnableFrom name file wave runnables.Failed = Unit {0}

-- some content of the file explains the result; where the content is known, it is that one
pub record IsRunnableResult (holds : Option Content) (name : List ℕ) (wave : Bool) (r : Runnable) : Type 0 where
  pub file : Option (List ℕ)
  pub known : IfSome holds (λ content. content name ≡ file)
  pub result_is : IsRunnableFrom name file wave r
