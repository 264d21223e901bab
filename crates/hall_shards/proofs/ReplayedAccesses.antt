-- Accesses before a run, in the cells of a shard.
use Rattle.std.proofs.Common.{◌≡◌, ◌∙◌, ap, sym, ℕ, List, [], ◌∷◌, ◌++◌, ◌<◌, ◌≤◌, append-nil, take, arith}
use Rattle.pipe_model.specs.declared.access.Access.{Access}
use Rattle.pipe_model.specs.Pipelines.Store.{InitialStore, value_from, written}
use Rattle.run_laws.proofs.Iterations.CellWrites.{other_cell_writes_none, written-push}
use Rattle.cell_store.specs.ShardState.{IsStateAfter, ShardState}

-- an access to another cell leaves what was written to this one
unwritten : (c : ℕ) (before : List Access) (a : Access) → (a.cell.0 ≡ c → ⊥) → written c (before ++ a ∷ []) ≡ written c before
unwritten c before a other =
    written-push c before a ∙ ap (λ l. written c before ++ l) (other_cell_writes_none c a other) ∙ append-nil (written c before)

-- an access to none of the program's cells leaves the state of a shard as it is
pub missing_cell : (store : InitialStore) (before : List Access) (a : Access) (state : ShardState) → 1 < state.shard.cells
    → state.shard.cells ≤ a.cell.0 → IsStateAfter store before state → IsStateAfter store (before ++ a ∷ []) state
missing_cell store before a state output missing was = record {
  cells = was.cells;
  limit = was.limit;
  values = λ c there own. was.values c there own ∙ ap (value_from store c) (sym (unwritten c before a (λ e. omega arith)));
  output = λ own. was.output own ∙ ap (take store.output_limit) (sym (unwritten 1 before a (λ e. omega arith)));
}
