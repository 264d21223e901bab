-- Indices that move from column to column, and the tables of their moves over several columns at once.
use Rattle.std.proofs.Common.{◌≡◌, ℕ, zero, suc, List, [], ◌∷◌, ◌++◌, ◌+◌, ◌<◌, ◌≤◌, length, get_or, ap, subst, sym, arith, inl, inr, ◌∙◌}
use Rattle.std.proofs.Common.{length-append}
use Rattle.std.proofs.lemmas.Bool.{cases_lt}
use Rattle.std.proofs.lemmas.List.{get_or_append_left, get_or_default, get_or_push}
use Rattle.std.proofs.lemmas.List.Elements.{All-push}
use Rattle.std.specs.List.{All}
use Rattle.pipe_model.specs.declared.node.Node.{Node}
use Rattle.pipe_model.specs.Races.Columns.{nodes_at}
use Rattle.dag_build.specs.Jumps.{AreJumps, AreLevels, IsJumpTable, MovesTo, Stays, Moves}
use Rattle.dag_landings.specs.Landings.{AreLandings, IsLanding}
use Rattle.dag_build.specs.declared.jumps.Jumps.{Jumps}
use Rattle.dag_landings.proofs.Crossings.{edge_begins_within}

-- one move after another
pub moves_both : {columns : List (List Node)} {i m t place u end : ℕ} → MovesTo columns i m t place
    → MovesTo columns t place u end → MovesTo columns i m u end
moves_both first Stays = first
moves_both first (Moves t from landing more lands) = Moves t from landing (moves_both first more) lands

-- an index past the end of a column lands at the end of the next column
landing_past : (left right : List Node) (from : ℕ) → length left ≤ from → IsLanding left right from (length right)
landing_past left right from l = record {
  within = omega arith;
  crossed = λ w. absurd (omega (arith, w));
  least = λ k w j le c. let b = edge_begins_within c in omega (arith, b, le, l);
}

-- the same several columns further
past_by : (columns : List (List Node)) (i m d : ℕ) → length (nodes_at columns i) ≤ m
    → MovesTo columns i m (i + d + 1) (length (nodes_at columns (i + d + 1)))
past_by columns i m zero l =
    subst (λ t. MovesTo columns i m (t + 1) (length (nodes_at columns (t + 1)))) (omega arith)
    (Moves i m (length (nodes_at columns (i + 1))) Stays (landing_past (nodes_at columns i) (nodes_at columns (i + 1)) m l))
past_by columns i m (suc d) l =
    subst (λ t. MovesTo columns i m (t + 1) (length (nodes_at columns (t + 1)))) (omega arith)
    (Moves (i + d + 1) _ _ (past_by columns i m d l)
    (landing_past (nodes_at columns (i + d + 1)) (nodes_at columns (i + d + 1 + 1)) (length (nodes_at columns (i + d + 1))) (omega arith)))

-- an index past the end of its column, one step further
pub moves_past : (columns : List (List Node)) (i m step : ℕ) → 0 < step → length (nodes_at columns i) ≤ m
    → MovesTo columns i m (i + step) (length (nodes_at columns (i + step)))
moves_past columns i m zero w l = absurd (omega (arith, w))
moves_past columns i m (suc d) w l =
    subst (λ t. MovesTo columns i m t (length (nodes_at columns t))) (omega arith) (past_by columns i m d l)

-- landings are the jumps of one column
pub table_of_landings : (columns : List (List Node)) (i : ℕ) (table : List ℕ)
    → AreLandings (nodes_at columns i) (nodes_at columns (i + 1)) table → IsJumpTable columns 1 i table
table_of_landings columns i table h = record {
  whole = h.whole;
  moves = λ m w. Moves i m (get_or table m 0) Stays (h.each m (let e = h.whole in omega (arith, w, e)));
}

-- the tables of the columns before i
pub record HasTables (columns : List (List Node)) (step : ℕ) (tables : List (List ℕ)) (i : ℕ) : Type 0 where
  pub whole : length tables ≡ i
  pub each : (n : ℕ) → n < i → IsJumpTable columns step n (get_or tables n [])

pub one_more_table : (columns : List (List Node)) (step : ℕ) (tables more : List (List ℕ)) (table : List ℕ) (i : ℕ)
    → HasTables columns step tables i → IsJumpTable columns step i table → more ≡ tables ++ table ∷ []
    → HasTables columns step more (i + 1)
one_more_table columns step tables more table i h new e =
    let whole = h.whole in
    subst (λ ts. HasTables columns step ts (i + 1)) (sym e) (record {
      whole = omega (arith, length-append tables (table ∷ []), whole);
      each = λ n l. elim (cases_lt n i) [
        | inl less ↦ subst (IsJumpTable columns step n)
            (sym (get_or_append_left tables (table ∷ []) [] n (omega (arith, less, whole)))) (h.each n less)
        | inr past ↦ subst (λ k. IsJumpTable columns step k (get_or (tables ++ table ∷ []) k [])) (omega (arith, l, past))
            (subst (IsJumpTable columns step i) (sym (get_or_push tables table [] i whole)) new)
      ];
    })

-- the first n entries of a table
abbrev pub HasMoves : List (List Node) → ℕ → ℕ → List ℕ → ℕ → Type 0
HasMoves columns i t table n = (length table ≡ n) × ((m : ℕ) → m < n → MovesTo columns i m t (get_or table m 0))

-- one more entry
pub one_more_move : (columns : List (List Node)) (i t : ℕ) (table more : List ℕ) (place n : ℕ)
    → HasMoves columns i t table n → MovesTo columns i n t place → more ≡ table ++ place ∷ [] → HasMoves columns i t more (n + 1)
one_more_move columns i t table more place n h new e = subst (λ l. HasMoves columns i t l (n + 1)) (sym e) (
  omega (arith, length-append table (place ∷ []), h.0),
  λ m l. elim (cases_lt m n) [
    | inl less ↦ subst (MovesTo columns i m t)
        (sym (get_or_append_left table (place ∷ []) 0 m (omega (arith, less, h.0)))) (h.1 m less)
    | inr past ↦ subst (λ k. MovesTo columns i k t (get_or (table ++ place ∷ []) k 0)) (omega (arith, l, past))
        (subst (MovesTo columns i n t) (sym (get_or_push table place 0 n h.0)) new)
  ],
)

-- the levels so far, and the next jumps
pub record HasLevels (columns : List (List Node)) (levels : List Jumps) (next : Jumps) : Type 0 where
  pub single : (d : Jumps) → (get_or (levels ++ next ∷ []) 0 d).step ≡ 1
  pub coming : AreJumps columns next
  pub each : All (AreJumps columns) levels

-- before the first level
pub no_levels : (columns : List (List Node)) (levels : List Jumps) (next : Jumps) → levels ≡ [] → next.step ≡ 1
    → AreJumps columns next → HasLevels columns levels next
no_levels columns levels next e single h = subst (λ ls. HasLevels columns ls next) (sym e)
    (record { single = λ d. single; coming = h; each = λ k d w. absurd (omega (arith, w)) })

pub one_more_level : (columns : List (List Node)) (levels more : List Jumps) (last next : Jumps) → HasLevels columns levels last
    → more ≡ levels ++ last ∷ [] → AreJumps columns next → HasLevels columns more next
one_more_level columns levels more last next h e jumps = subst (λ ls. HasLevels columns ls next) (sym e) (record {
  single = λ d. ap (λ (j : Jumps). j.step) (get_or_append_left (levels ++ last ∷ []) (next ∷ []) d 0
      (omega (arith, length-append levels (last ∷ [])))) ∙ h.single d;
  coming = jumps;
  each = All-push (AreJumps columns) levels last h.each h.coming;
})

-- all levels
pub all_levels : (columns : List (List Node)) (levels more : List Jumps) (last : Jumps) → HasLevels columns levels last
    → more ≡ levels ++ last ∷ [] → AreLevels columns more
all_levels columns levels more last h e = subst (AreLevels columns) (sym e) (record {
  filled = omega (arith, length-append levels (last ∷ []));
  single = h.single;
  each = All-push (AreJumps columns) levels last h.each h.coming;
})

-- the table of a column, as the index expression reads it
pub table_at : (columns : List (List Node)) (jumps : Jumps) (tables : List (List ℕ)) (i : ℕ) (table : List ℕ)
    → AreJumps columns jumps → tables ≡ jumps.tables → i + jumps.step < length columns → table ≡ get_or tables i table
    → IsJumpTable columns jumps.step i table
table_at columns jumps tables i table h e w is =
    let whole = h.whole in
    let within : i < length jumps.tables = omega (arith, w, whole) in
    subst (IsJumpTable columns jumps.step i)
    (get_or_default jumps.tables i [] table within ∙ (ap (λ ts. get_or ts i table) (sym e) ∙ sym is)) (h.each i within)

-- one step after another
pub twice_moved : (columns : List (List Node)) (step i m end : ℕ) (table once : List ℕ) → IsJumpTable columns step i table
    → once ≡ table → m < length once → MovesTo columns (i + step) (get_or once m 0) (i + step + step) end
    → MovesTo columns i m (i + (step + step)) end
twice_moved columns step i m end table once h e w more =
    let first : MovesTo columns i m (i + step) (get_or once m 0) =
    rw e (h.moves m (omega (arith, w, ap length e))) in
    subst (λ t. MovesTo columns i m t end) (omega arith) (moves_both first more)

-- the step of a level, as the index expression reads it
pub step_at : (levels : List Jumps) (k : ℕ) (jumps d : Jumps) → k < length levels → jumps ≡ get_or levels k jumps
    → (get_or levels k d).step ≡ jumps.step
step_at levels k jumps d w is = ap (λ (j : Jumps). j.step) (get_or_default levels k d jumps w ∙ sym is)

-- after the level of single columns the index is in the target column
pub at_the_end : (columns : List (List Node)) (levels : List Jumps) (from place column front to k : ℕ)
    → AreLevels columns levels → k ≡ 0 → column ≤ to
    → ((d : Jumps) → k < length levels → to < column + (get_or levels k d).step)
    → MovesTo columns from place column front → MovesTo columns from place to front
at_the_end columns levels from place column front to k h e l near moves =
    let d : Jumps = record { step = 1; tables = [] } in
    let filled = h.filled in
    let single = h.single d in
    let last : to < column + (get_or levels 0 d).step =
    subst (λ i. to < column + (get_or levels i d).step) e (near d (omega (arith, filled, e))) in
    subst (λ t. MovesTo columns from place t front) (omega (arith, l, last, single)) moves
