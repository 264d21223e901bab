-- The rows of the first starts, and of one start more.
use Rattle.std.proofs.Common.{◌≡◌, ◌≢◌, ◌∙◌, refl, sym, ap, subst, ℕ, zero, suc, ◌+◌, ◌<◌, ◌≤◌, List, [], ◌∷◌, ◌++◌, length, get_or}
use Rattle.std.proofs.Common.{slice_set, arith, inl, inr, length-set}
use Rattle.std.proofs.lemmas.Bool.{cases_eq, cases_lt}
use Rattle.std.specs.Prelude.{Some}
use Rattle.std.proofs.lemmas.List.{get_or_append_left, get_or_default, get_or_push, get_or-set_other, get_or-set_same, length_push}
use Rattle.std.proofs.lemmas.List.{length-map}
use Rattle.left_parent.specs.declared.started.StartedNode.{StartedNode}
use Rattle.order_2d.specs.StartedNodes.{HasStarted, no_rows, no_started_node, node_in, row_at, started_node}
use Rattle.pipe_model.specs.declared.column.Column.{Column}
use Rattle.pipe_model.specs.declared.node.Node.{Node}
use Rattle.pipe_model.specs.declared.node.NodeId.{NodeId}
use Rattle.pipe_model.specs.Orders.Starts.{AreStarts, IsStarted, start_number}
use Rattle.pipe_model.specs.Races.Columns.{AreColumns, at, node_columns}
use Rattle.run_laws.proofs.ListOrders.StartNumbers.{counted_down, up_ordered}

rows_long : (columns : List Column) → length (no_rows columns) ≡ length columns
rows_long [] = refl
rows_long (c ∷ cs) = let rest = rows_long cs in omega (arith, rest)

empty_row : (columns : List Column) (i : ℕ) → row_at (no_rows columns) i ≡ []
empty_row [] i = refl
empty_row (c ∷ cs) zero = refl
empty_row (c ∷ cs) (suc i) = empty_row cs i

-- before the first start all rows are empty
pub none_started : (columns : List Column) (starts : List NodeId) (rows : List (List StartedNode)) → rows ≡ no_rows columns
    → HasStarted (node_columns columns) starts 0 rows
none_started columns starts rows e =
    let none : (i k : ℕ) → k < length (row_at rows i) → ⊥ = λ i k l.
    let empty : length (row_at rows i) ≡ 0 = ap (λ rs. length (row_at rs i)) e ∙ ap length (empty_row columns i) in
    omega (arith, l, empty) in
    let wide = length-map columns (λ (c : Column). c.nodes) in
    let rows_wide : length (no_rows columns) ≡ length columns = rows_long columns in
    record {
      wide = ap length e ∙ (rows_wide ∙ sym wide);
      there = λ i k l. absurd (omega (arith, l));
      only = λ i k l. absurd (none i k l);
      each = λ i k l. absurd (none i k l);
    }

module _ (columns : List (List Node)) (starts : List NodeId) (ok : AreColumns columns) (ord : AreStarts columns starts)
    (m : ℕ) (rows : List (List StartedNode)) (h : HasStarted columns starts m rows) (within : m < length starts)
    (i k : ℕ) (number : start_number starts i k ≡ m) where
  -- the column of the next instance has a row
  pub has_row : i < length rows
  has_row =
      let inside = ord.inside (at i k) (omega (arith, number, within)) in
      let wide = h.wide in
      let column = inside.0 in
      omega (arith, column, wide)

  -- its index is the number of instances of its column that have started
  next_index : k ≡ length (row_at rows i)
  next_index = elim (cases_lt k (length (row_at rows i))) [
    | inl less ↦ (let started = h.only i k less in absurd (omega (arith, started, number)))
    | inr ge ↦ elim (cases_lt (length (row_at rows i)) k) [
      | inl more ↦ absurd (gap k refl more)
      | inr le ↦ omega (arith, ge, le)
    ]
  ]
    where
      gap : (n : ℕ) → k ≡ n → length (row_at rows i) < n → ⊥
      gap zero e more = omega (arith, more)
      gap (suc q) e more =
          let same : start_number starts i (suc q) ≡ m = ap (start_number starts i) (sym e) ∙ number in
          let up = up_ordered columns starts ok ord i q (omega (arith, same, within)) in
          let there = h.there i q (omega (arith, up, same)) in
          omega (arith, there, more)

  -- the rows with the next instance
  pub one_more_started : (rows' : List (List StartedNode))
      → rows' ≡ slice_set rows i (row_at rows i ++ started_node columns starts i k ∷ [])
      → HasStarted columns starts (m + 1) rows'
  one_more_started rows' e =
      let new : List StartedNode = row_at rows i ++ started_node columns starts i k ∷ [] in
      let here : row_at rows' i ≡ new = ap (λ rs. row_at rs i) e ∙ get_or-set_same rows i new [] has_row in
      let elsewhere : (a : ℕ) → a ≢ i → row_at rows' a ≡ row_at rows a = λ a n.
      ap (λ rs. row_at rs a) e ∙ get_or-set_other rows i a new [] n in
      let longer : length (row_at rows' i) ≡ k + 1 =
      ap length here ∙ (length_push (row_at rows i) (started_node columns starts i k) ∙ (let e' = next_index in omega (arith, e'))) in
      let old : (b : ℕ) → b < k → node_in (row_at rows' i) b ≡ node_in (row_at rows i) b = λ b l.
      ap (λ r. node_in r b) here
      ∙ get_or_append_left (row_at rows i) (started_node columns starts i k ∷ []) no_started_node b
      (let e' = next_index in omega (arith, e', l)) in
      let last : node_in (row_at rows' i) k ≡ started_node columns starts i k =
      ap (λ r. node_in r k) here
      ∙ get_or_push (row_at rows i) (started_node columns starts i k) no_started_node k (sym next_index) in
      record {
        wide = ap length e ∙ (length-set rows i new ∙ h.wide);
        there = λ a b l. elim (cases_eq a i) [
          | inl same ↦ subst (λ c. b < length (row_at rows' c)) (sym same) (elim (cases_lt (start_number starts a b) m) [
            | inl earlier ↦ (
                let t : b < length (row_at rows i) = subst (λ c. b < length (row_at rows c)) same (h.there a b earlier) in
                let e' = next_index in
                omega (arith, t, e', longer))
            | inr now ↦ (
                let n : start_number starts a b ≡ m = omega (arith, l, now) in
                let both = (counted_down columns starts ok ord).same a b i k (omega (arith, n, within)) (n ∙ sym number) in
                let index = both.1 in
                omega (arith, index, longer))
          ])
          | inr other ↦ subst (λ r. b < length r) (sym (elsewhere a other)) (elim (cases_lt (start_number starts a b) m) [
            | inl earlier ↦ h.there a b earlier
            | inr now ↦ (
                let n : start_number starts a b ≡ m = omega (arith, l, now) in
                let both = (counted_down columns starts ok ord).same a b i k (omega (arith, n, within)) (n ∙ sym number) in
                absurd (other both.0))
          ])
        ];
        only = λ a b l. elim (cases_eq a i) [
          | inl same ↦ (
              let l' : b < length (row_at rows' i) = subst (λ c. b < length (row_at rows' c)) same l in
              elim (cases_lt b k) [
                | inl less ↦ (
                    let e' = next_index in
                    let started = h.only i b (omega (arith, less, e')) in
                    let there : start_number starts a b ≡ start_number starts i b = ap (λ c. start_number starts c b) same in
                    omega (arith, started, there))
                | inr ge ↦ (
                    let is : b ≡ k = omega (arith, l', longer, ge) in
                    let there : start_number starts a b ≡ start_number starts i b = ap (λ c. start_number starts c b) same in
                    let there' : start_number starts i b ≡ start_number starts i k = ap (start_number starts i) is in
                    omega (arith, there, there', number))
              ])
          | inr other ↦ (
              let started = h.only a b (subst (λ r. b < length r) (elsewhere a other) l) in
              omega (arith, started))
        ];
        each = λ a b l. elim (cases_eq a i) [
          | inl same ↦ (
              let l' : b < length (row_at rows' i) = subst (λ c. b < length (row_at rows' c)) same l in
              subst (λ c. node_in (row_at rows' c) b ≡ started_node columns starts c b) (sym same) (elim (cases_lt b k) [
                | inl less ↦ (let e' = next_index in old b less ∙ h.each i b (omega (arith, less, e')))
                | inr ge ↦ (
                    let is : k ≡ b = omega (arith, l', longer, ge) in
                    subst (λ c. node_in (row_at rows' i) c ≡ started_node columns starts i c) is last)
              ]))
          | inr other ↦ (
              let l' = subst (λ r. b < length r) (elsewhere a other) l in
              ap (λ r. node_in r b) (elsewhere a other) ∙ h.each a b l')
        ];
      }

-- if all instances of a column start, it has no more instances than there are starts
pub column_short : (columns : List (List Node)) (starts : List NodeId) → AreColumns columns → AreStarts columns starts
    → (i k : ℕ) → IsStarted starts (at i k) → k < length starts
column_short columns starts ok ord i k started =
    let up = counts k started in omega (arith, up, started)
  where
    counts : (n : ℕ) → IsStarted starts (at i n) → n ≤ start_number starts i n
    counts zero s = omega arith
    counts (suc n) s =
        let up = up_ordered columns starts ok ord i n s in
        let rest = counts n (omega (arith, up, s)) in
        omega (arith, up, rest)

-- an instance that is read from its row
pub read_row : (rows : List (List StartedNode)) (i n k : ℕ) (row : List StartedNode) (d : StartedNode) → row ≡ row_at rows i
    → n ≡ k → k < length (row_at rows i) → Some (get_or row n d) ≡ Some (node_in (row_at rows i) k)
read_row rows i n k row d same index l =
    ap Some (ap (λ r. get_or r n d) same ∙ (ap (λ j. get_or (row_at rows i) j d) index
    ∙ get_or_default (row_at rows i) k d no_started_node l))
