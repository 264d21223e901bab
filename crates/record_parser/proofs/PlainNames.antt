-- Names that distinguish the cells of a program.
use Rattle.std.proofs.Common.{◌≡◌, ℕ, List}
use Rattle.pipe_model.specs.declared.tree.Declaration.{Declaration}
use Rattle.race_report.specs.CellNames.{cell_name}
use Rattle.record_parser.specs.ByteDivisions.{IsFreeOf}
use Rattle.record_parser.specs.RecordLines.{IsCell, line_feed}

-- different cells have different names, and no name has a line feed
pub record HasPlainNames (cells : List Declaration) : Type 0 where
  pub distinct : (c d : ℕ) → IsCell cells c → IsCell cells d → cell_name cells c ≡ cell_name cells d → c ≡ d
  pub free : (c : ℕ) → IsCell cells c → IsFreeOf line_feed (cell_name cells c)
