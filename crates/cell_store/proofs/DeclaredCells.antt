-- The values of the declarations, one after the other, and which of them belong to a shard.
use Rattle.std.proofs.Common.{◌≡◌, ◌∙◌, ap, sym, refl, ℕ, ℤ, pos, ◌+◌, ◌-◌, ◌*◌, ◌/◌, ◌%◌, ◌<◌, ◌≤◌, List, [], ◌∷◌, ◌++◌, zero, suc, length}
use Rattle.std.proofs.Common.{get_or, take, replicate, append-nil, append_assoc, length-append, arith}
use Rattle.std.proofs.Math.Nat.{div-add-mod, lt_of_mul-lt-mul_left}
use Rattle.std.proofs.lemmas.List.{get_or_append_left, length-replicate, take_all, take_more}
use Rattle.std.proofs.Math.Seq.{get_or-append_seam}
use borrow.Author.Count.{below_more}
use Rattle.pipe_model.specs.declared.tree.Declaration.{Declaration}
use Rattle.pipe_model.specs.Language.CheckingRules.{cell_total}
use Rattle.pipe_model.specs.Language.Programs.{declared_size, declared_values}

-- there is a value for each cell
pub values_length : (ds : List Declaration) → length (declared_values ds) ≡ cell_total ds
values_length [] = refl
values_length (d ∷ ds) =
    length-append (replicate (declared_size d.size) d.value) (declared_values ds)
    ∙ ap (λ n. n + length (declared_values ds)) (length-replicate (declared_size d.size) d.value)
    ∙ ap (λ n. declared_size d.size + n) (values_length ds)

-- one of the declarations has at most as many cells as all of them
pub size_within : (ds : List Declaration) (i : ℕ) (d : Declaration) → i < length ds → declared_size (get_or ds i d).size ≤ cell_total ds
size_within [] i d h = absurd (omega arith)
size_within (e ∷ ds) zero d h = omega arith
size_within (e ∷ ds) (suc i) d h = omega (arith, size_within ds i d (omega arith))

-- the values with one declaration more at the end
values_push : (ds : List Declaration) (d : Declaration) → declared_values (ds ++ d ∷ []) ≡ declared_values ds ++ replicate
    (declared_size d.size) d.value
values_push [] d = append-nil (replicate (declared_size d.size) d.value)
values_push (e ∷ ds) d =
    ap (λ l. replicate (declared_size e.size) e.value ++ l) (values_push ds d)
    ∙ sym (append_assoc (replicate (declared_size e.size) e.value) (declared_values ds) (replicate (declared_size d.size) d.value))

-- the values of the first i + 1 declarations
pub values_take_more : (ds : List Declaration) (i : ℕ) (d : Declaration) → i < length ds → d ≡ get_or ds i d
    → declared_values (take (i + 1) ds) ≡ declared_values (take i ds) ++ replicate (declared_size d.size) d.value
values_take_more ds i d h e =
    ap declared_values (take_more ds i d h ∙ ap (λ x. take i ds ++ x ∷ []) (sym e)) ∙ values_push (take i ds) d

-- a list that is made longer keeps its items
pub resized : (vs : List ℤ) (k m n : ℕ) (v : ℤ) → k ≡ length vs → m ≡ length vs → take (k + n) vs ++ replicate
    (k + n - m) v ≡ vs ++ replicate n v
resized vs k m n v e f =
    let all : take (k + n) vs ≡ vs = take_all (k + n) vs (omega arith) in
    let more : k + n - m ≡ n = omega arith in
    ap (λ l. l ++ replicate (k + n - m) v) all ∙ ap (λ j. vs ++ replicate j v) more

-- the index of a cell of the shard is within the values
pub slot_within : (c n shard cells len : ℕ) → c < cells → c % n ≡ shard → cells ≤ shard + n * len → c / n < len
slot_within c n shard cells len there own complete =
    let at : n * (c / n) + c % n ≡ c = div-add-mod c n in
    lt_of_mul-lt-mul_left n (omega arith)

-- the cell with this index
pub cell_at_slot : (c n shard : ℕ) → c % n ≡ shard → shard + n * (c / n) ≡ c
cell_at_slot c n shard own = omega (arith, div-add-mod c n)

-- the next cell of the shard, after one value more
pub strides_more : (cell shard n : ℕ) (values : List ℤ) (v : ℤ) (more : List ℤ) → more ≡ values ++ v ∷ [] → cell ≡ shard + n * length values
    → cell + n ≡ shard + n * length more
strides_more cell shard n values v more e at =
    let count : length more ≡ length values + 1 = ap length e ∙ length-append values (v ∷ []) in
    let grown : n * length more ≡ n * length values + n = ap (λ k. n * k) count ∙ (omega arith) in
    omega (arith, grown)

-- the values of the shard's first cells, with one value more
pub taken_more : (all values more : List ℤ) (cell shard n : ℕ) → more ≡ values ++ get_or all cell (pos 0) ∷ []
    → cell ≡ shard + n * length values
    → ((slot : ℕ) → slot < length values → get_or values slot (pos 0) ≡ get_or all (shard + n * slot) (pos 0))
    → (slot : ℕ) → slot < length more → get_or more slot (pos 0) ≡ get_or all (shard + n * slot) (pos 0)
taken_more all values more cell shard n e at was slot below =
    let count : length more ≡ length values + 1 = ap length e ∙ length-append values (get_or all cell (pos 0) ∷ []) in
    below_more (λ k. get_or more k (pos 0) ≡ get_or all (shard + n * k) (pos 0)) (length values)
    (λ k h. ap (λ l. get_or l k (pos 0)) e ∙ get_or_append_left values (get_or all cell (pos 0) ∷ []) (pos 0) k h ∙ was k h)
    (ap (λ l. get_or l (length values) (pos 0)) e ∙ get_or-append_seam values (get_or all cell (pos 0)) [] (pos 0)
    ∙ ap (λ c. get_or all c (pos 0)) at)
    slot (omega arith)
