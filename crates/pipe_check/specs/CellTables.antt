-- The table of declared cells, in which a name is found without comparing it with each.
use Rattle.pipe_model.specs.declared.bounds.TheConstants.{MOST_CELLS}
use Rattle.std.specs.Prelude.{◌≡◌, ◌≤◌, ℕ, ℤ, List, Option}
use Rattle.std.specs.Borrow.{Bor}
use Rattle.std.specs.BTreeMap.{get, BTreeMap}
use Rattle.std.specs.Cmp.Lexicographic.{slice_cmp}
use Rattle.std.specs.Ordering.{nat_cmp}
use Rattle.pipe_model.specs.declared.tree.Declaration.{Declaration}
use Rattle.pipe_model.specs.Language.CheckingRules.{size_in, cell_total}

-- the table has each declared name with its size, and no other name, and the sizes add up to the total
pub record IsCellTable (sizes : BTreeMap (Bor (List ℕ)) (Option ℤ)) (total : ℕ) (cells : List Declaration) : Type 0 where
  pub found : (x : Bor (List ℕ)) → get (λ a b. slice_cmp nat_cmp a.now b.now) sizes x ≡ size_in cells x.now
  pub total_is : total ≡ cell_total cells
  pub bounded : total ≤ MOST_CELLS
