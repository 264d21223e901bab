-- The two sides of a new list.
use Rattle.std.specs.Prelude.{◌≡◌, ℕ, [], ◌∷◌, false}
use Rattle.om_list.specs.LabelledList.{HasRisingLabels}
use Rattle.om_shared.specs.SharedLists.{SeenList, WrittenList, labelled}

-- a list of element 0 alone, whose label is 0, with room for this many elements in all, which get their labels at once
pub record IsNewList (room : ℕ) (sides : WrittenList × SeenList) : Type 0 where
  pub logs : (sides.0.log ≡ []) × (sides.1.log ≡ [])
  pub capacity : sides.0.capacity ≡ room
  pub table : sides.0.table ≡ sides.1.table
  pub labels : HasRisingLabels (labelled sides.0)
  pub first : sides.0.labels ≡ 0 ∷ []
  pub plain : (sides.0.late ≡ false) × (sides.0.pending ≡ [])
