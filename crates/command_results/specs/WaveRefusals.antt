-- The line that refuses a program as a wave loop.
use Rattle.std.specs.Prelude.{◌≡◌, ℕ, pos, List, slice_get, codes, Option, Some}
use Rattle.pipe_model.specs.Language.MarkPlaces.{mark_places}
use Rattle.pipe_model.specs.Language.SourceSpelling.{SourceSpells}
use Rattle.pipe_model.specs.Language.SyntaxTree.{SyntaxTree}
use Rattle.pipe_model.specs.Texts.{numbered_line}
use Rattle.wave_laws.specs.Waves.WaveFaults.{BadTest, HasStage, NoRow, RowSet, WaveRefusal, wave_fault}

-- the mark with this number is at this offset of the source
pub record IsMarkAt (source : List ℕ) (tree : SyntaxTree) (mark place : ℕ) : Type 0 where
  pub spelled : SourceSpells source tree
  pub found : slice_get (mark_places spelled.tokens) mark ≡ Some (pos place)

-- the line of a fault; a mark is given by its offset in the source
pub data IsWaveLine (source : List ℕ) (tree : SyntaxTree) : WaveRefusal → List ℕ → Type 0 where
  OfTest : IsWaveLine source tree BadTest (codes "refused wave BadTest\n")
  OfRow : IsWaveLine source tree NoRow (codes "refused wave NoRow\n")
  OfStage : (mark place : ℕ) → IsMarkAt source tree mark place
      → IsWaveLine source tree (HasStage mark) (numbered_line (codes "refused wave HasStage at ") place)
  OfRowSet : (mark place : ℕ) → IsMarkAt source tree mark place
      → IsWaveLine source tree (RowSet mark) (numbered_line (codes "refused wave RowSet at ") place)

-- the line names the program's first fault as a wave loop; the file holds the program's source
pub record IsRefusedWave (file : Option (List ℕ)) (tree : SyntaxTree) (line : List ℕ) : Type 0 where
  pub bytes : List ℕ
  pub held : file ≡ Some bytes
  pub fault : WaveRefusal
  pub faulty : wave_fault tree ≡ Some fault
  pub line_is : IsWaveLine bytes tree fault line
