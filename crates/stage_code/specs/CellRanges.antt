-- The table of declared cells, in which a name is found without comparing it with each.
use Rattle.std.specs.Prelude.{◌≡◌, ◌≤ℤ◌, ◌++◌, ℕ, ℤ, pos, false, List, [], ◌∷◌, Option, Some, None}
use Rattle.std.specs.Borrow.{Bor}
use Rattle.std.specs.BTreeMap.{get, BTreeMap}
use Rattle.std.specs.Cmp.Lexicographic.{slice_cmp}
use Rattle.std.specs.Ordering.{nat_cmp}
use Rattle.pipe_model.specs.declared.bounds.TheConstants.{MOST_CELLS}
use Rattle.pipe_model.specs.declared.tree.Declaration.{Declaration}
use Rattle.pipe_model.specs.Language.CheckingRules.{is_cell}
use Rattle.pipe_model.specs.Language.Evaluation.{CellRange}
use Rattle.pipe_model.specs.Language.Programs.{range_of}
use Rattle.stage_code.specs.declared.cell_ranges.DeclaredRange.{DeclaredRange}

-- the cells that the table gives
abbrev pub range_in : Option DeclaredRange → Option CellRange
range_in None = None
range_in (Some range) = Some (record { first = range.first.0; size = range.size })

-- the table has each declared name with its cells, and no other name
abbrev pub HasRanges : BTreeMap (Bor (List ℕ)) DeclaredRange → List Declaration → Type 0
HasRanges ranges cells = (x : Bor (List ℕ)) → range_in (get (λ a b. slice_cmp nat_cmp a.now b.now) ranges x) ≡ range_of 2 cells x.now

-- no declared name is one of those before it
abbrev pub AreNew : List Declaration → List Declaration → Type 0
AreNew before [] = Unit {0}
AreNew before (d ∷ ds) = (is_cell before d.name ≡ false) × AreNew (before ++ d ∷ []) ds

-- the size of a plain cell, or of an array with a bounded number of elements
abbrev pub HasSize : Option ℤ → Type 0
HasSize None = Unit {0}
HasSize (Some n) = (pos 0 ≤ℤ n) × (n ≤ℤ pos MOST_CELLS)
