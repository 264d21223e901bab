-- The rows of the columns so far.
use Rattle.std.proofs.Common.{◌≡◌, ◌∙◌, ℕ, zero, suc, ◌+◌, ◌*◌, ◌-◌, ◌<◌, ◌≤◌, ◌⊎◌, List, [], ◌∷◌, ◌++◌, length, sym, ap, subst}
use Rattle.std.proofs.Common.{arith, inl, inr, length-append}
use Rattle.std.proofs.Math.Numerals.{add-one}
use Rattle.std.proofs.lemmas.Bool.{cases_lt}
use Rattle.std.proofs.lemmas.List.{get_or_append_left, get_or_past, get_or_push}
use Rattle.pipe_model.specs.declared.node.Node.{Node}
use Rattle.pipe_model.specs.Races.Columns.{AreColumns, nodes_at}
use Rattle.pipe_span.specs.declared.entry.Entry.{Entry}
use Rattle.pipe_span.specs.Entries.{AreEntries, IsBounded, weight_in, most_entries, most_weight}
use Rattle.pipe_span.specs.HeaviestPaths.{instances_before}
use Rattle.pipe_span.specs.Tables.{AreFew, AreRows, left_nodes, left_row, row_at}

pub first_more : (columns : List (List Node)) (i : ℕ) → instances_before columns (i + 1) ≡ instances_before columns i + length
    (nodes_at columns i)
first_more columns i = ap (instances_before columns) (add-one i)

-- later columns begin later
first_by : (columns : List (List Node)) (i d : ℕ) → instances_before columns i ≤ instances_before columns (i + d)
first_by columns i zero = subst (λ n. instances_before columns i ≤ instances_before columns n) (same i) (omega arith)
  where
    same : (i : ℕ) → i ≡ i + 0
    same i = omega arith
first_by columns i (suc d) =
    let a = first_by columns i d in
    let b = first_more columns (i + d) in
    subst (λ n. instances_before columns i ≤ instances_before columns n) (next i d) (omega (arith, a, b))
  where
    next : (i d : ℕ) → i + d + 1 ≡ i + suc d
    next i d = omega arith

pub first_rises : (columns : List (List Node)) (i n : ℕ) → i ≤ n → instances_before columns i ≤ instances_before columns n
first_rises columns i n l = subst (λ m. instances_before columns i ≤ instances_before columns m) (omega (arith, l))
    (first_by columns i (n - i))

-- a column is within all instances
pub column_within : (columns : List (List Node)) (i : ℕ) → i < length columns
    → instances_before columns i + length (nodes_at columns i) ≤ instances_before columns (length columns)
column_within columns i l =
    let a = first_rises columns (i + 1) (length columns) (omega (arith, l)) in
    let b = first_more columns i in
    omega (arith, a, b)

-- each column has an instance
pub at_least : (columns : List (List Node)) (i : ℕ) → AreColumns columns → i ≤ length columns → i ≤ instances_before columns i
at_least columns zero h l = omega arith
at_least columns (suc i) h l =
    let a = at_least columns i h (omega (arith, l)) in
    let b = h.full i (omega (arith, l)) in
    omega (arith, a, b)

-- the rows of the first n columns
pub record HasRows (columns : List (List Node)) (weights : List ℕ) (rows : List (List Entry)) (n : ℕ) : Type 0 where
  pub whole : length rows ≡ n
  pub lengths : (i : ℕ) → i < n → length (row_at rows i) ≡ length (nodes_at columns i)
  pub each : (i : ℕ) → i < n → AreEntries (left_nodes columns i) (nodes_at columns i) (left_row rows i) (row_at rows i) weights
      (instances_before columns i)
  pub below : (i : ℕ) → i < n → IsBounded (instances_before columns i + length (nodes_at columns i)) (row_at rows i)

-- the row on the left stays in longer rows
same_left : (rows : List (List Entry)) (row : List Entry) (i : ℕ) → i ≤ length rows → left_row rows i ≡ left_row (rows ++ row ∷ []) i
same_left rows row i l = sym (get_or_append_left ([] ∷ rows) (row ∷ []) [] i (omega (arith, l)))

pub one_more_row : (columns : List (List Node)) (weights : List ℕ) (rows more : List (List Entry)) (row : List Entry) (n : ℕ)
    → HasRows columns weights rows n → length row ≡ length (nodes_at columns n)
    → AreEntries (left_nodes columns n) (nodes_at columns n) (left_row rows n) row weights (instances_before columns n)
    → IsBounded (instances_before columns n + length (nodes_at columns n)) row
    → more ≡ rows ++ row ∷ [] → HasRows columns weights more (n + 1)
one_more_row columns weights rows more row n h len entries below e =
    let whole = h.whole in
    let old : (i : ℕ) → i < n → row_at rows i ≡ row_at (rows ++ row ∷ []) i =
    λ i l. sym (get_or_append_left rows (row ∷ []) [] i (omega (arith, l, whole))) in
    let new : row ≡ row_at (rows ++ row ∷ []) n = sym (get_or_push rows row [] n whole) in
    let left : (i : ℕ) → i ≤ n → left_row rows i ≡ left_row (rows ++ row ∷ []) i =
    λ i l. same_left rows row i (omega (arith, l, whole)) in
    let case : (P : ℕ → Type 0) → ((i : ℕ) → i < n → P i) → P n → (i : ℕ) → i < n + 1 → P i =
    λ P f g i l. elim (cases_lt i n) [ inl less ↦ f i less | inr past ↦ subst P (omega (arith, past, l)) g ] in
    subst (λ r. HasRows columns weights r (n + 1)) (sym e) (record {
      whole = omega (arith, length-append rows (row ∷ []), whole);
      lengths = case (λ i. length (row_at (rows ++ row ∷ []) i) ≡ length (nodes_at columns i))
          (λ i l. subst (λ r. length r ≡ length (nodes_at columns i)) (old i l) (h.lengths i l))
          (subst (λ r. length r ≡ length (nodes_at columns n)) new len);
      each = case (λ i. AreEntries (left_nodes columns i) (nodes_at columns i) (left_row (rows ++ row ∷ []) i)
          (row_at (rows ++ row ∷ []) i) weights (instances_before columns i))
          (λ i l. subst (λ r. AreEntries (left_nodes columns i) (nodes_at columns i) (left_row (rows ++ row ∷ []) i) r weights
          (instances_before columns i)) (old i l)
          (subst (λ s. AreEntries (left_nodes columns i) (nodes_at columns i) s (row_at rows i) weights (instances_before columns i))
          (left i (omega (arith, l)))
          (h.each i l)))
          (subst (λ r. AreEntries (left_nodes columns n) (nodes_at columns n) (left_row (rows ++ row ∷ []) n) r weights
          (instances_before columns n)) new
          (subst (λ s. AreEntries (left_nodes columns n) (nodes_at columns n) s row weights (instances_before columns n))
          (left n (omega arith)) entries));
      below = case (λ i. IsBounded (instances_before columns i + length (nodes_at columns i)) (row_at (rows ++ row ∷ []) i))
          (λ i l. subst (IsBounded (instances_before columns i + length (nodes_at columns i))) (old i l) (h.below i l))
          (subst (IsBounded (instances_before columns n + length (nodes_at columns n))) new below);
    })

pub all_rows : (columns : List (List Node)) (weights : List ℕ) (rows : List (List Entry)) (n : ℕ) → n ≡ length columns
    → instances_before columns (length columns) ≤ most_entries → HasRows columns weights rows n → AreRows columns weights rows
all_rows columns weights rows n e bounded h = record {
  whole = h.whole ∙ e;
  lengths = λ i. elim (cases_lt i n) [
    | inl less ↦ h.lengths i less
    | inr past ↦ (
        let whole = h.whole in
        ap length (get_or_past rows i [] (omega (arith, past, whole)))
        ∙ sym (ap length (get_or_past columns i [] (omega (arith, past, e)))))
  ];
  each = λ i l. h.each i (omega (arith, l, e));
  below = λ i. record { each = λ k. bound i k (cases_lt i n) };
}
  where
    bound : (i k : ℕ) → (i < n) ⊎ (n ≤ i) → weight_in (row_at rows i) k ≤ most_weight * most_entries
    bound i k (inl less) =
        let a = (h.below i less).each k in
        let b = column_within columns i (omega (arith, less, e)) in
        omega (arith, a, b, bounded)
    bound i k (inr past) =
        let whole = h.whole in
        subst (λ r. weight_in r k ≤ most_weight * most_entries) (sym (get_or_past rows i [] (omega (arith, past, whole)))) (omega arith)

-- what the limits allow
pub few_rows : (columns : List (List Node)) (weights : List ℕ) (rows : List (List Entry)) → AreColumns columns
    → AreRows columns weights rows
    → instances_before columns (length columns) ≤ most_entries → AreFew rows
few_rows columns weights rows full h bounded =
    let whole = h.whole in
    record {
      columns = (let a = at_least columns (length columns) full (omega arith) in omega (arith, a, bounded, whole));
      instances = λ i. elim (cases_lt i (length columns)) [
        | inl less ↦ (
            let a = column_within columns i less in
            let b = h.lengths i in
            omega (arith, a, b, bounded))
        | inr past ↦ (
            let a = ap length (get_or_past rows i [] (omega (arith, past, whole))) in
            omega (arith, a))
      ];
    }
