-- The names of cells, as race lines print them, and the lines of a list of races.
use Rattle.std.specs.Prelude.{ℕ, zero, suc, ℤ, ◌-◌, List, [], ◌∷◌, ◌++◌, Option, Some, None, if◌then◌else◌, nat_lt, codes}
use Rattle.std.specs.Fmt.{decimal}
use Rattle.std.specs.List.{flat_map}
use Rattle.pipe_model.specs.declared.report.Report.{Report}
use Rattle.pipe_model.specs.declared.tree.Declaration.{Declaration}
use Rattle.pipe_model.specs.Language.Programs.{declared_size}
use Rattle.pipe_model.specs.Texts.{race_line}

-- what follows the declared name: nothing for a plain cell, and the index in brackets for an array's element
abbrev pub element_index : Option ℤ → ℕ → List ℕ
element_index None k = []
element_index (Some n) k = codes "[" ++ (decimal k ++ codes "]")

-- the name of a declaration's cell k
abbrev pub element_name : Declaration → ℕ → List ℕ
element_name d k = d.name ++ element_index d.size k

-- the name of declared cell k, counted from 0 over all declarations; empty past the last cell
abbrev pub declared_name : List Declaration → ℕ → List ℕ
declared_name [] k = []
declared_name (d ∷ ds) k = if nat_lt k (declared_size d.size) then element_name d k else declared_name ds (k - declared_size d.size)

-- the name of a cell: cell 0 is the input's cursor, cell 1 the output, and the declared cells follow
abbrev pub cell_name : List Declaration → ℕ → List ℕ
cell_name ds zero = codes "input"
cell_name ds (suc zero) = codes "output"
cell_name ds (suc (suc k)) = declared_name ds k

-- one line for each report
abbrev pub race_lines : List Declaration → List Report → List ℕ
race_lines cells reports = flat_map (race_line (cell_name cells)) reports
