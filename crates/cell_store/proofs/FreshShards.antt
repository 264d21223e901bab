-- The state of a shard before the first access.
use Rattle.std.proofs.Common.{◌≡◌, ◌∙◌, ap, sym, refl, ℕ, pos, ◌<◌, ◌≤◌, ◌==◌, ◌+◌, ◌*◌, ◌/◌, [], length, get_or, arith, true, false, Bool}
use Rattle.std.proofs.Math.Seq.{take-nil}
use Rattle.std.proofs.lemmas.Bool.Decides.{nat_tests}
use Rattle.pipe_model.specs.Pipelines.Store.{InitialStore, value_from}
use Rattle.cell_store.proofs.DeclaredCells.{cell_at_slot, slot_within}
use Rattle.cell_store.specs.ShardState.{IsStateAfter, ShardState}

-- the value of a cell before the first access
initial_value : (store : InitialStore) (c : ℕ) (is_output : Bool) → (c == 1) ≡ is_output → get_or store.values 1 (pos 0) ≡ pos 0
    → get_or store.values c (pos 0) ≡ value_from store c []
initial_value store c true e nothing =
    let here : c ≡ 1 = grind (arith, nat_tests) in
    rw e (ap (λ x. get_or store.values x (pos 0)) here ∙ nothing ∙ ap pos (omega arith))
initial_value store c false e nothing = rw e refl

-- each value of the shard is the initial value of its cell
pub is_fresh : (store : InitialStore) (state : ShardState) → state.shard.cells ≡ length store.values
    → state.shard.output_limit ≡ store.output_limit
    → get_or store.values 1 (pos 0) ≡ pos 0 → state.shard.cells ≤ state.shard.number + state.shard.shards * length state.values
    → ((slot : ℕ) → slot < length state.values
    → get_or state.values slot (pos 0) ≡ get_or store.values (state.shard.number + state.shard.shards * slot) (pos 0))
    → state.output ≡ [] → IsStateAfter store [] state
is_fresh store state cells limit nothing complete values output =
    let n = state.shard.shards in
    record {
      cells = cells;
      limit = limit;
      values = λ c there own. values (c / n) (slot_within c n state.shard.number state.shard.cells (length state.values) there own complete)
          ∙ ap (λ d. get_or store.values d (pos 0)) (cell_at_slot c n state.shard.number own) ∙ initial_value store c (c == 1) refl nothing;
      output = λ own. output ∙ sym (take-nil store.output_limit);
    }
