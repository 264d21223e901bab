-- Rows of the heaviest paths to the instances of a column.
use Rattle.std.proofs.Common.{◌≡◌, ℕ, ◌+◌, ◌*◌, ◌<◌, ◌≤◌, List, [], ◌∷◌, ◌++◌, Option, Some, None, length, get_or, sym, ap, subst}
use Rattle.std.proofs.Common.{arith, inl, inr, length-append, ◌∙◌, ◌⊎◌}
use Rattle.std.proofs.lemmas.Bool.{cases_lt, cases_order}
use Rattle.std.proofs.lemmas.List.{get_or_append_left, get_or_past, get_or_push}
use Rattle.pipe_model.specs.declared.node.Node.{Node}
use Rattle.pipe_span.specs.declared.entry.Entry.{Entry}
use Rattle.pipe_span.specs.Entries.{AreEntries, IsBounded, IsEntry, IsLeft, IsNextEntry, entry_at, no_entry, weight_in, most_weight}

-- an instance in a longer row
longer : (left right : List Node) (left_row row : List Entry) (b : Entry) (w k : ℕ) → k < length row
    → IsEntry left right left_row row w k → IsEntry left right left_row (row ++ b ∷ []) w k
longer left right left_row row b w k l h =
    let same : (m : ℕ) → m ≤ k → entry_at row m ≡ entry_at (row ++ b ∷ []) m =
    λ m le. sym (get_or_append_left row (b ∷ []) no_entry m (omega (arith, l, le))) in
    record {
      alone = subst (λ (x : Entry). w ≤ x.weight) (same k (omega arith)) h.alone;
      above = λ m e. subst (λ (x : Entry). x.weight + w ≤ weight_in (row ++ b ∷ []) k) (same m (omega (arith, e)))
          (subst (λ (x : Entry). weight_in row m + w ≤ x.weight) (same k (omega arith)) (h.above m e));
      across = λ j c. subst (λ (x : Entry). weight_in left_row j + w ≤ x.weight) (same k (omega arith)) (h.across j c);
      absent = λ e. (
          let r = h.absent (ap (λ (x : Entry). x.predecessor) (same k (omega arith)) ∙ e) in
          (r.0, ap (λ (x : Entry). x.weight) (sym (same k (omega arith))) ∙ r.1, r.2));
      from_above = λ e. (
          let r = h.from_above (ap (λ (x : Entry). x.predecessor) (same k (omega arith)) ∙ e) in
          let f = r.1 in (
            r.0,
            r.1,
            ap (λ (x : Entry). x.weight) (sym (same k (omega arith))) ∙ (r.2
                ∙ ap (λ (x : Entry). x.weight + w) (same r.0 (omega (arith, f)))),
          ));
      from_left = λ j e. (
          let r = h.from_left j (ap (λ (x : Entry). x.predecessor) (same k (omega arith)) ∙ e) in (
            r.0,
            ap (λ (x : Entry). x.weight) (sym (same k (omega arith))) ∙ r.1,
            λ m f. subst (λ (x : Entry). x.weight < weight_in left_row j) (same m (omega (arith, f))) (r.2 m f),
          ));
    }

-- the last instance of a row
last_entry : (left right : List Node) (left_row row : List Entry) (b : Entry) (w k : ℕ) (j : Option ℕ) → length row ≡ k
    → IsLeft left right k j → IsNextEntry left_row row j w b → IsEntry left right left_row (row ++ b ∷ []) w k
last_entry left right left_row row b w k j e parent h =
    let same : (m : ℕ) → m < k → entry_at row m ≡ entry_at (row ++ b ∷ []) m =
    λ m l. sym (get_or_append_left row (b ∷ []) no_entry m (omega (arith, l, e))) in
    let here : b ≡ entry_at (row ++ b ∷ []) k = sym (get_or_push row b no_entry k e) in
    record {
      alone = subst (λ (x : Entry). w ≤ x.weight) here h.alone;
      above = λ m f. subst (λ (x : Entry). x.weight + w ≤ weight_in (row ++ b ∷ []) k) (same m (omega (arith, f)))
          (subst (λ (x : Entry). weight_in row m + w ≤ x.weight) here (h.above m (omega (arith, e, f))));
      across = λ i c. subst (λ (x : Entry). weight_in left_row i + w ≤ x.weight) here (h.across i (parent.only i c));
      absent = λ f. (
          let r = h.absent (ap (λ (x : Entry). x.predecessor) here ∙ f) in
          let z = r.0 in
          (omega (arith, e, z), ap (λ (x : Entry). x.weight) (sym here) ∙ r.1, λ i c. none_some (sym r.2 ∙ parent.only i c)));
      from_above = λ f. (
          let r = h.from_above (ap (λ (x : Entry). x.predecessor) here ∙ f) in
          let g = r.1 in (
            r.0,
            omega (arith, e, g),
            ap (λ (x : Entry). x.weight) (sym here) ∙ (r.2
                ∙ ap (λ (x : Entry). x.weight + w) (same r.0 (omega (arith, e, g)))),
          ));
      from_left = λ i f. (
          let r = h.from_left i (ap (λ (x : Entry). x.predecessor) here ∙ f) in (
            parent.edge i r.0,
            ap (λ (x : Entry). x.weight) (sym here) ∙ r.1,
            λ m g. subst (λ (x : Entry). x.weight < weight_in left_row i) (same m (omega (arith, g))) (r.2 m (omega (arith, e, g))),
          ));
    }
  where
    none_some : {i : ℕ} → None ≡ Some i → ⊥
    none_some f = grind (arith, f)

-- the row so far
pub record HasEntries (left right : List Node) (left_row row : List Entry) (weights : List ℕ) (first k : ℕ) : Type 0 where
  pub whole : length row ≡ k
  pub entries : AreEntries left right left_row row weights first
  pub below : IsBounded (first + k) row

pub one_more_entry : (left right : List Node) (left_row row more : List Entry) (b : Entry) (weights : List ℕ) (first k : ℕ) (j : Option ℕ)
    → HasEntries left right left_row row weights first k → IsLeft left right k j
    → IsNextEntry left_row row j (get_or weights (first + k) 0) b → b.weight ≤ most_weight * (first + k + 1)
    → more ≡ row ++ b ∷ [] → HasEntries left right left_row more weights first (k + 1)
one_more_entry left right left_row row more b weights first k j h parent step below e =
    let whole = h.whole in
    subst (λ r. HasEntries left right left_row r weights first (k + 1)) (sym e) (record {
      whole = omega (arith, length-append row (b ∷ []), whole);
      entries = record {
        each = λ n l. elim (cases_lt n k) [
          | inl less ↦ longer left right left_row row b (get_or weights (first + n) 0) n (omega (arith, less, whole))
              (h.entries.each n (omega (arith, less, whole)))
          | inr past ↦ (
              let f : k ≡ n = omega (arith, past, l, length-append row (b ∷ []), whole) in
              subst (λ i. IsEntry left right left_row (row ++ b ∷ []) (get_or weights (first + i) 0) i) f
              (last_entry left right left_row row b (get_or weights (first + k) 0) k j whole parent step))
        ];
      };
      below = record { each = λ n. bound n (cases_order n k) };
    })
  where
    bound : (n : ℕ) → (n ≡ k) ⊎ ((n < k) ⊎ (k < n)) → weight_in (row ++ b ∷ []) n ≤ most_weight * (first + (k + 1))
    bound n (inl same) = subst (λ (x : Entry). x.weight ≤ most_weight * (first + (k + 1)))
        (sym (get_or_push row b no_entry n (h.whole ∙ sym same))) (omega (arith, below))
    bound n (inr (inl less)) =
        let whole = h.whole in
        let a = h.below.each n in
        subst (λ (x : Entry). x.weight ≤ most_weight * (first + (k + 1)))
        (sym (get_or_append_left row (b ∷ []) no_entry n (omega (arith, less, whole)))) (omega (arith, a))
    bound n (inr (inr more)) =
        let whole = h.whole in
        subst (λ (x : Entry). x.weight ≤ most_weight * (first + (k + 1)))
        (sym (get_or_past (row ++ b ∷ []) n no_entry (omega (arith, length-append row (b ∷ []), whole, more)))) (omega arith)
