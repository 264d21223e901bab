-- What the fields of a shard's cells keep for later writes.
use Rattle.std.specs.Prelude.{◌≡◌, ◌≢◌, ◌<◌, ◌≤◌, ◌+◌, ◌*◌, ◌%◌, [], length, vec_capacity}
use Rattle.cell_store.specs.declared.cells.Cells.TheInside.{Inside}

-- each cell of the shard has a value, and the shard of the output has memory for all numbers that may be emitted
pub record IsReserved (c : Inside) : Type 0 where
  pub number : c.shard < c.shards
  pub complete : c.cells ≤ c.shard + c.shards * length c.values.items
  pub within : length c.output.items ≤ c.output_limit
  pub room : 1 % c.shards ≡ c.shard → c.output_limit ≤ vec_capacity c.output
  pub elsewhere : 1 % c.shards ≢ c.shard → c.output.items ≡ []
