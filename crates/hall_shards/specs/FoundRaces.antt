-- The races that the histories of a shard have found.
use Rattle.std.specs.Prelude.{ℕ, suc, List, [], ◌∷◌, ◌++◌, ◌+◌, ◌*◌, Option, Some, None}
use Rattle.std.specs.List.{flat_map}
use Rattle.access_history.specs.declared.history.Found.{Found}
use Rattle.access_history.specs.declared.history.History.{History}
use Rattle.hall_shards.specs.ShardValues.{ShardValue}
use Rattle.pipe_model.specs.declared.access.CellId.{CellId}

-- the report of the history of cell c, if it has one
abbrev pub found_of : ℕ → Option Found → List (CellId × Found)
found_of c None = []
found_of c (Some found) = (record { 0 = c }, found) ∷ []

-- the reports of the histories of shard k, of `width` shards, from this slot to the last: the history of cell c is in slot c / width
abbrev pub found_in_slots : ℕ → ℕ → ℕ → List History → List (CellId × Found)
found_in_slots width k slot [] = []
found_in_slots width k slot (h ∷ hs) = found_of (slot * width + k) h.report ++ found_in_slots width k (suc slot) hs

-- what the histories of a shard of 16 report
abbrev pub found_in : ShardValue → List (CellId × Found)
found_in x = found_in_slots 16 x.number 0 x.histories

-- what the histories of all shards report, one shard after the other
abbrev pub found_by : List ShardValue → List (CellId × Found)
found_by shards = flat_map found_in shards
