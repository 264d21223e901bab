-- How an access changes the state of a shard.
use Rattle.std.proofs.Common.{◌≡◌, ◌≢◌, ◌∙◌, ap, sym, refl, subst, ℕ, ℤ, pos, zero, suc, min, ◌<◌, ◌≤◌, ◌==◌, ◌+◌, ◌*◌, ◌/◌, ◌%◌, List, []}
use Rattle.std.proofs.Common.{◌∷◌, ◌++◌, length, get_or, set, append-nil, append_assoc, arith, take, true, false, Bool, eqb, not}
use Rattle.std.proofs.Math.Nat.{div-add-mod}
use Rattle.std.proofs.lemmas.Bool.Decides.{nat_tests}
use Rattle.std.proofs.lemmas.List.{get_or_default, get_or-set_same, get_or-set_other, length-take}
use Rattle.pipe_model.specs.declared.access.Access.{Access}
use Rattle.pipe_model.specs.declared.access.AccessKind.{AccessKind}
use Rattle.pipe_model.specs.declared.access.AccessKind.TheVariants.{Read, Write}
use Rattle.pipe_model.specs.Pipelines.Behaviour.{write_access}
use Rattle.pipe_model.specs.Pipelines.Store.{InitialStore, last_or, output_of, value_after, value_from, written, wrote, wrote_as}
use Rattle.cell_store.proofs.DeclaredCells.{slot_within}
use Rattle.cell_store.specs.ShardState.{HasOutput, IsOfShard, IsStateAfter, ShardState}

-- what is written to cell c with one access more
written_then : (c : ℕ) (before : List Access) (a : Access) → written c (before ++ a ∷ []) ≡ written c before ++ wrote c a
written_then c [] a = append-nil (wrote c a)
written_then c (b ∷ before) a = ap (λ w. wrote c b ++ w) (written_then c before a)
    ∙ sym (append_assoc (wrote c b) (written c before) (wrote c a))

-- a read writes nothing, nor does an access to another cell
wrote_nothing : (kind : AccessKind) (same : Bool) (v : ℤ) → (same ≡ true → kind ≡ Read) → wrote_as kind same v ≡ []
wrote_nothing Read same v h = refl
wrote_nothing Write true v h = absurd (let e : Write ≡ Read = h refl in cc (e))
wrote_nothing Write false v h = refl

pub equal_cells : (c d : ℕ) → (c == d) ≡ true → c ≡ d
equal_cells c d h = grind (arith, nat_tests)

-- cell c is not written by the access
unwritten : (c : ℕ) (before : List Access) (a : Access) → (a.cell.0 ≡ c → a.kind ≡ Read) → written c (before ++ a ∷ []) ≡ written c before
unwritten c before a h =
    written_then c before a
    ∙ ap (λ w. written c before ++ w) (wrote_nothing a.kind (a.cell.0 == c) a.value (λ e. h (equal_cells a.cell.0 c e)))
    ∙ append-nil (written c before)

-- a write to cell c is the last one to it
written_last : (c : ℕ) (before : List Access) (v : ℤ) → written c (before ++ write_access c v ∷ []) ≡ written c before ++ v ∷ []
written_last c before v =
    let same : (c == c) ≡ true = grind (arith, nat_tests) in
    written_then c before (write_access c v) ∙ ap (λ b. written c before ++ wrote_as Write b v) same

-- an access that writes no cell of the shard leaves its state as it is
pub leaves_state : (store : InitialStore) (before : List Access) (a : Access) (state : ShardState)
    → (IsOfShard state.shard a.cell.0 → a.kind ≡ Read) → IsStateAfter store before state → IsStateAfter store (before ++ a ∷ []) state
leaves_state store before a state h was = record {
  cells = was.cells;
  limit = was.limit;
  values = λ c there own. was.values c there own
      ∙ ap (value_from store c) (sym (unwritten c before a (λ e. h (subst (IsOfShard state.shard) (sym e) own))));
  output = λ own. was.output own ∙ ap (take store.output_limit)
      (sym (unwritten 1 before a (λ e. h (subst (IsOfShard state.shard) (sym e) own))));
}

-- what is stored at a cell's index is the value of the cell
pub stored_value : (store : InitialStore) (before : List Access) (state : ShardState) (c : ℕ) (x : ℤ) → IsStateAfter store before state
    → c < state.shard.cells → IsOfShard state.shard c → state.shard.cells ≤ state.shard.number + state.shard.shards * length state.values
    → x ≡ get_or state.values (c / state.shard.shards) x → x ≡ value_after store before c
stored_value store before state c x was there own complete e =
    e ∙ get_or_default state.values (c / state.shard.shards) x (pos 0)
    (slot_within c state.shard.shards state.shard.number state.shard.cells (length state.values) there own complete)
    ∙ was.values c there own

-- two cells of a shard with one index are the same
pub same_slot : (c d n : ℕ) → c % n ≡ d % n → c / n ≡ d / n → c ≡ d
same_slot c d n h e = sym (div-add-mod c n) ∙ ap (λ q. n * q + c % n) e ∙ ap (λ r. n * (d / n) + r) h ∙ div-add-mod d n

-- the last of a list with one element more
last_is : (d v : ℤ) (vs : List ℤ) → last_or d (vs ++ v ∷ []) ≡ v
last_is d v [] = refl
last_is d v (w ∷ vs) = last_is w v vs

-- the value of a cell other than the output after a write of v
value_last : (store : InitialStore) (c : ℕ) (vs : List ℤ) (v : ℤ) → c ≢ 1 → value_from store c (vs ++ v ∷ []) ≡ v
value_last store c vs v h =
    let other : (c == 1) ≡ false = grind (arith, nat_tests) in
    rw other (last_is (get_or store.values c (pos 0)) v vs)

-- the value of cell c of the shard after a write of v to cell d of the shard, where `kept` is stored
value_written : (store : InitialStore) (before : List Access) (values : List ℤ) (n c d : ℕ) (v kept : ℤ) (same : Bool) → (d == c) ≡ same
    → d % n ≡ c % n → d / n < length values → (d ≡ c → kept ≡ value_from store d (written d before ++ v ∷ []))
    → get_or values (c / n) (pos 0) ≡ value_after store before c
    → get_or (set values (d / n) kept) (c / n) (pos 0) ≡ value_after store (before ++ write_access d v ∷ []) c
value_written store before values n c d v kept true e own there keeps was =
    let here : d ≡ c = equal_cells d c e in
    subst (λ (x : ℕ). get_or (set values (d / n) kept) (x / n) (pos 0) ≡ value_after store (before ++ write_access d v ∷ []) x) here
    (get_or-set_same values (d / n) kept (pos 0) there ∙ keeps here ∙ ap (value_from store d) (sym (written_last d before v)))
value_written store before values n c d v kept false e own there keeps was =
    let other : d ≢ c = λ q. absurd (grind (arith, nat_tests)) in
    let apart : c / n ≢ d / n = λ q. other (same_slot d c n own (sym q)) in
    get_or-set_other values (d / n) (c / n) kept (pos 0) apart ∙ was
    ∙ ap (value_from store c) (sym (unwritten c before (write_access d v) (λ q. absurd (other q))))

-- a write to a cell other than the output
pub writes_other : (store : InitialStore) (before : List Access) (state : ShardState) (d : ℕ) (v : ℤ) → d ≢ 1 → IsOfShard state.shard d
    → d / state.shard.shards < length state.values → IsStateAfter store before state
    → IsStateAfter store (before ++ write_access d v ∷ []) (record state { values = set state.values (d / state.shard.shards) v })
writes_other store before state d v other mine there was = record {
  cells = was.cells;
  limit = was.limit;
  values = λ c within own. value_written store before state.values state.shard.shards c d v v (d == c) refl (mine ∙ sym own) there
      (λ _. sym (value_last store d (written d before) v other)) (was.values c within own);
  output = λ own. was.output own ∙ ap (take store.output_limit) (sym (unwritten 1 before (write_access d v) (λ q. absurd (other q))));
}

-- the first numbers of a list with one more, from the first numbers of the list
take_then : (n : ℕ) (vs : List ℤ) (v : ℤ) → take n (take n vs ++ v ∷ []) ≡ take n (vs ++ v ∷ [])
take_then zero vs v = refl
take_then (suc n) [] v = refl
take_then (suc n) (w ∷ vs) v = ap (λ l. w ∷ l) (take_then n vs v)

-- the output with one number more
output_then : (store : InitialStore) (before : List Access) (limit : ℕ) (output : List ℤ) (v : ℤ) → limit ≡ store.output_limit
    → output ≡ output_of store before → take limit (output ++ v ∷ []) ≡ take store.output_limit (written 1 before ++ v ∷ [])
output_then store before limit output v e was =
    ap (λ n. take n (output ++ v ∷ [])) e ∙ ap (λ l. take store.output_limit (l ++ v ∷ [])) was
    ∙ take_then store.output_limit (written 1 before) v

-- a write to the output, whose value is then the number of emitted numbers
writes_output : (store : InitialStore) (before : List Access) (state : ShardState) (output : List ℤ) (v : ℤ) → HasOutput state.shard
    → 1 / state.shard.shards < length state.values → output ≡ take state.shard.output_limit (state.output ++ v ∷ [])
    → IsStateAfter store before state
    → IsStateAfter store (before ++ write_access 1 v ∷ [])
    (record state { values = set state.values (1 / state.shard.shards) (pos (length output)); output = output })
writes_output store before state output v mine there e was =
    let vs = written 1 before in
    let emitted : output ≡ take store.output_limit (vs ++ v ∷ []) = e
    ∙ output_then store before state.shard.output_limit state.output v was.limit (was.output mine) in
    let count : length output ≡ min store.output_limit (length (vs ++ v ∷ [])) = ap length emitted
    ∙ length-take store.output_limit (vs ++ v ∷ []) in
    record {
      cells = was.cells;
      limit = was.limit;
      values = λ c within own. value_written store before state.values state.shard.shards c 1 v (pos (length output)) (1 == c) refl
          (mine ∙ sym own) there
          (λ _. ap pos (omega (arith, count))) (was.values c within own);
      output = λ own. emitted ∙ ap (take store.output_limit) (sym (written_last 1 before v));
    }

-- the same, for a cell that is found to be the output and a value that is found to be the number
pub writes_found_output : (store : InitialStore) (before : List Access) (state : ShardState) (output : List ℤ) (v : ℤ) (d : ℕ) (count : ℤ)
    → d ≡ 1
    → count ≡ pos (length output) → IsOfShard state.shard d → d / state.shard.shards < length state.values
    → output ≡ take state.shard.output_limit (state.output ++ v ∷ []) → IsStateAfter store before state
    → IsStateAfter store (before ++ write_access d v ∷ [])
    (record state { values = set state.values (d / state.shard.shards) count; output = output })
writes_found_output store before state output v d count e n own there o was =
    rw (e, n) (writes_output store before state output v (rw e at own) (rw e at there) o was)

-- the code's test for the output
pub is_other : (c : ℕ) → not (eqb c 1) ≡ true → c ≢ 1
is_other c h = grind (arith, nat_tests)

pub is_output : (c : ℕ) → not (eqb c 1) ≡ false → c ≡ 1
is_output c h = grind (arith, nat_tests)
