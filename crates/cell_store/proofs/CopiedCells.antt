-- The state of a shard after a cell was copied from another state.
use Rattle.std.proofs.Common.{◌≡◌, ◌≢◌, ◌∙◌, ap, sym, refl, subst, ℕ, ℤ, pos, ◌<◌, ◌==◌, ◌/◌}
use Rattle.std.proofs.Common.{List, length, get_or, set, arith, take, true, false, Bool, eqb}
use Rattle.std.proofs.lemmas.Bool.Decides.{nat_tests}
use Rattle.std.proofs.lemmas.List.{get_or-set_same, get_or-set_other}
use Rattle.pipe_model.specs.declared.access.Access.{Access}
use Rattle.pipe_model.specs.Pipelines.Store.{InitialStore, output_of, value_after, value_from, written}
use Rattle.cell_store.proofs.WrittenCells.{equal_cells, same_slot}
use Rattle.cell_store.specs.ShardState.{IsOfShard, IsStateAfter, IsWrittenAs, ShardState}

module _ (store : InitialStore) (before here after : List Access) (state : ShardState) (c : ℕ) (v : ℤ)
    (was : IsStateAfter store before state) (writes : IsWrittenAs c here before after) (value : v ≡ value_after store here c)
    (own : IsOfShard state.shard c) (there : c / state.shard.shards < length state.values) where
  -- the values
  copied_value : (d : ℕ) (same : Bool) → (c == d) ≡ same → IsOfShard state.shard d → d < state.shard.cells
      → get_or (set state.values (c / state.shard.shards) v) (d / state.shard.shards) (pos 0) ≡ value_after store after d
  copied_value d true e mine within =
      subst (λ (x : ℕ). get_or (set state.values (c / state.shard.shards) v) (x / state.shard.shards) (pos 0) ≡ value_after store after x)
      (equal_cells c d e)
      (get_or-set_same state.values (c / state.shard.shards) v (pos 0) there ∙ value ∙ ap (value_from store c) (sym writes.0))
  copied_value d false e mine within =
      let other : d ≢ c = λ q. absurd (grind (arith, nat_tests)) in
      let apart : d / state.shard.shards ≢ c / state.shard.shards = λ q. other (same_slot d c state.shard.shards (mine ∙ sym own) q) in
      get_or-set_other state.values (c / state.shard.shards) (d / state.shard.shards) v (pos 0) apart ∙ was.values d within mine
      ∙ ap (value_from store d) (sym (writes.1 d other))

  -- a cell other than the output
  pub copies_other : c ≢ 1 → IsStateAfter store after (record state { values = set state.values (c / state.shard.shards) v })
  copies_other other = record {
    cells = was.cells;
    limit = was.limit;
    values = λ d within mine. copied_value d (c == d) refl mine within;
    output = λ mine. was.output mine ∙ ap (take store.output_limit) (sym (writes.1 1 (λ q. other (sym q))));
  }

  -- the output
  pub copies_output : (output : List ℤ) → c ≡ 1 → output ≡ output_of store here
      → IsStateAfter store after (record state { values = set state.values (c / state.shard.shards) v; output = output })
  copies_output output one is = record {
    cells = was.cells;
    limit = was.limit;
    values = λ d within mine. copied_value d (c == d) refl mine within;
    output = λ mine. is ∙ ap (take store.output_limit)
        (subst (λ n. written n here ≡ written n after) one (sym writes.0));
  }

-- the code's test for the output
pub equals_output : (c : ℕ) → eqb c 1 ≡ true → c ≡ 1
equals_output c h = grind (arith, nat_tests)

pub equals_other : (c : ℕ) → eqb c 1 ≡ false → c ≢ 1
equals_other c h = grind (arith, nat_tests)
