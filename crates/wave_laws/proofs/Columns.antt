-- An iteration of the lowered program has the joined traces of the points of its column.
use Rattle.std.proofs.Common.{◌≡◌, ◌∙◌, sym, ap, refl, subst, ℕ, zero, suc, ℤ, pos, negsuc, Bool, true, false, List, [], ◌∷◌, ◌++◌, ◌<◌}
use Rattle.std.proofs.Common.{◌+◌, ◌^◌, arith, inl, inr}
use Rattle.std.specs.Prelude.{int_lt}
use Rattle.std.proofs.lemmas.Bool.{cases_Bool, lt-ltb, le-ltb}
use Rattle.pipe_model.specs.declared.access.Access.{Access}
use Rattle.pipe_model.specs.declared.column.ColumnEnd.{ColumnEnd}
use Rattle.pipe_model.specs.declared.column.ColumnEnd.TheVariants as ends
use Rattle.pipe_model.specs.declared.node.Kind.TheVariants.{Wait}
use Rattle.pipe_model.specs.Language.Evaluation.{Setting, Environment, execute_all, leave_block, run_iteration, first_environment}
use Rattle.pipe_model.specs.Language.Interaction.{Interaction, Return, Raise, Step, Get, Set, bind, with_budget}
use Rattle.pipe_model.specs.Language.Interaction as interactions
use Rattle.pipe_model.specs.Language.Programs.{natural, setting_of, store_of}
use Rattle.pipe_model.specs.Language.SyntaxTree.{Number, Unary, Let, While, Statements, Empty, Then, SyntaxTree}
use Rattle.pipe_model.specs.declared.operator_codes.TheConstants as operator_codes
use Rattle.pipe_model.specs.Pipelines.Behaviour.{Action, Staged, accesses_in, trace_end}
use Rattle.pipe_model.specs.Pipelines.SerialElision.{serial_trace, unless}
use Rattle.program_laws.proofs.Straight.{IsStraight}
use Rattle.wave_laws.specs.Waves.Grid.{column_points}
use Rattle.wave_laws.specs.Waves.LoweredLoops.{lowered_test, lowered_turn}
use Rattle.wave_laws.specs.Waves.Points.{at_row, is_trap, point_trace, steps, steps_after, steps_before}
use Rattle.wave_laws.specs.Waves.WaveLoops.{AllHaveNoStage, AllKeepRow, rest_of, row}
use Rattle.wave_laws.proofs.Splices.{IsOpen, AreAColumn, joined, splice, spliced, splice-trapped, same_end, straight-steps, bind-steps}
use Rattle.wave_laws.proofs.Splices.{point_is_open, open_nodes}
use Rattle.wave_laws.proofs.Turns.{below, turns_from, next_turn, last_turn}
use Rattle.wave_laws.proofs.Rows.{IsInRow, row_left, straight_point}

pub bind-assoc : {A B C : Type 0} (d : Interaction A) (f : A → Interaction B) (g : B → Interaction C)
    → bind (bind d f) g ≡ bind d (λ x. bind (f x) g)
bind-assoc (Return a) f g = refl
bind-assoc (Raise t) f g = refl
bind-assoc (Step d) f g = λ i. Step (bind-assoc d f g i)
bind-assoc (Get c go) f g = λ i. Get c (λ v. bind-assoc (go v) f g i)
bind-assoc (Set c v d) f g = λ i. Set c v (bind-assoc d f g i)
bind-assoc (interactions.Stage k n d) f g = λ i. interactions.Stage k n (bind-assoc d f g i)

-- the end of an iteration
abbrev pub ending : Environment → Interaction ColumnEnd
ending env = Return ends.End

-- what follows the statements of row r in the lowered loop, with at most n further turns
abbrev pub after_row : Setting → Statements → (k n r : ℕ) → Environment → Interaction ColumnEnd
after_row setting rest k n r after = bind (turns_from setting rest k n (leave_block (at_row r) after)) ending

-- the lowered loop, beginning with the statements of row r
abbrev pub from_row : Setting → Statements → (k n r : ℕ) → Interaction ColumnEnd
from_row setting rest k n r = bind (steps (steps_before r) (execute_all setting rest (at_row r))) (after_row setting rest k n r)

-- the lowered body with this bound on the rows
abbrev pub body_below : ℕ → Statements → Statements
body_below k rest =
    Then (Let row (Unary operator_codes.NEGATIVE (Number (pos 1)))) (Then (While (below k) (lowered_turn rest)) Empty)

-- the environment of the lowered loop before row 0
abbrev before_rows : Environment
before_rows = record { locals = record { name = row; value = negsuc 0 } ∷ []; stage = first_environment.stage }

-- an iteration whose test succeeds begins with row 0
pub iteration_begins : (setting : Setting) (rest : Statements) (k n : ℕ) → setting.turns ≡ suc n
    → int_lt (pos setting.world.iteration) setting.world.iterations ≡ true
    → run_iteration setting (lowered_test setting.world.iterations) (body_below k rest) ≡ from_row setting rest k n 0
iteration_begins setting rest k n turns lower =
    let ex = execute_all setting rest (at_row 0) in
    let go : Environment → Interaction Environment = λ after. turns_from setting rest k n (leave_block (at_row 0) after) in
    let inner : bind (bind (bind ex go) Return) ending ≡ bind ex (λ after. bind (go after) ending) =
    bind-assoc (bind ex go) Return ending ∙ bind-assoc ex go (λ x. bind (Return x) ending) in
    rw lower (ap (λ m. steps 7 (bind (bind (turns_from setting rest k m before_rows) Return) ending)) turns ∙ ap (λ d. steps 19 d) inner)

-- an iteration whose test fails closes the loop
pub iteration_closes : (setting : Setting) (body : Statements) → int_lt (pos setting.world.iteration) setting.world.iterations ≡ false
    → run_iteration setting (lowered_test setting.world.iterations) body ≡ steps 4 (Return ends.Closed)
iteration_closes setting body h = rw h refl

-- after the last row the iteration ends
ends_last : (setting : Setting) (rest : Statements) (k n : ℕ) (after : Environment) → IsInRow k after
    → after_row setting rest k (suc n) k after ≡ steps 4 (Return ends.End)
ends_last setting rest k n after h =
    ap (λ env. bind (turns_from setting rest k (suc n) env) ending) (row_left k after h)
    ∙ ap (λ d. bind d ending) (last_turn setting rest k n)

-- after another row the next one follows
goes_on : (setting : Setting) (rest : Statements) (k n r : ℕ) → r < k → r + 1 < setting.world.stages → r + 1 < 2 ^ 63
    → (after : Environment) → IsInRow r after
    → after_row setting rest k (suc n) r after ≡ steps 9 (interactions.Stage Wait (pos (r + 1)) (from_row setting rest k n (r + 1)))
goes_on setting rest k n r l room small after h =
    let four : steps_before (r + 1) ≡ 4 = rw (suc_is r) refl in
    let ex = execute_all setting rest (at_row (r + 1)) in
    let go : Environment → Interaction Environment = λ now. turns_from setting rest k n (leave_block (at_row r) now) in
    ap (λ env. bind (turns_from setting rest k (suc n) env) ending) (row_left r after h)
    ∙ ap (λ d. bind d ending) (next_turn setting rest k n r l room small)
    ∙ ap (λ d. steps 9 (interactions.Stage Wait (pos (r + 1)) (steps 4 d))) (bind-assoc ex go ending)
    ∙ ap (λ b. steps 9 (interactions.Stage Wait (pos (r + 1)) (steps b (bind ex (after_row setting rest k n (r + 1)))))) (sym four)
    ∙ ap (λ d. steps 9 (interactions.Stage Wait (pos (r + 1)) d))
    (sym (bind-steps (steps_before (r + 1)) ex (after_row setting rest k n (r + 1))))
  where
    suc_is : (m : ℕ) → m + 1 ≡ suc m
    suc_is m = omega arith

pub unless_nothing : {A : Type 0} (b : Bool) → unless {A = A} b [] ≡ []
unless_nothing true = refl
unless_nothing false = refl

-- ---- columns

-- what the loop of a wave needs: its rows are k + 1, its statements name no stage and keep the row
pub record HasRows (tree : SyntaxTree) (k : ℕ) : Type 0 where
  pub rows : natural tree.limits.stages ≡ k + 1
  pub small : k + 1 < 2 ^ 63
  pub straight : AllHaveNoStage (rest_of tree.body)
  pub unset : AllKeepRow (rest_of tree.body)

-- the trace of an iteration, beginning with row r
abbrev pub row_trace : SyntaxTree → List ℤ → (k n c r : ℕ) → List Access → List Action
row_trace tree input k n c r before =
    serial_trace (store_of tree) (with_budget (natural tree.limits.steps) (natural tree.limits.steps)
    (from_row (setting_of tree input c) (rest_of tree.body) k n r)) before

point_straight : (tree : SyntaxTree) (input : List ℤ) (k c r : ℕ) → HasRows tree k
    → IsStraight (IsInRow r) (steps (steps_before r) (execute_all (setting_of tree input c) (rest_of tree.body) (at_row r)))
point_straight tree input k c r w = straight-steps (steps_before r)
    (straight_point (setting_of tree input c) (rest_of tree.body) r w.straight w.unset)

pub trace_is_open : (tree : SyntaxTree) (input : List ℤ) (k c r : ℕ) (before : List Access) → HasRows tree k
    → IsOpen (point_trace tree input c r before)
trace_is_open tree input k c r before w =
    point_is_open (store_of tree) (natural tree.limits.steps) (natural tree.limits.steps)
    (steps_after (natural tree.limits.stages) r) before
    (point_straight tree input k c r w)

-- the last row
last_row : (tree : SyntaxTree) (input : List ℤ) (k n c : ℕ) (before : List Access) → HasRows tree k
    → row_trace tree input k (suc n) c k before ≡ point_trace tree input c k before
last_row tree input k n c before w =
    let four : steps_after (natural tree.limits.stages) k ≡ 4 = rw w.rows (rw (le-ltb (k + 1) (k + 1) (omega arith)) refl) in
    ap (λ d. serial_trace (store_of tree) (with_budget (natural tree.limits.steps) (natural tree.limits.steps) d) before)
    (same_end _ _ (point_straight tree input k c k w)
    (λ after h. ends_last (setting_of tree input c) (rest_of tree.body) k n after h ∙ ap (λ m. steps m (Return ends.End)) (sym four)))

-- another row is followed by the rest of the column
another_row : (tree : SyntaxTree) (input : List ℤ) (k n c r : ℕ) (before : List Access) → HasRows tree k → r < k
    → row_trace tree input k (suc n) c r before
    ≡ splice (point_trace tree input c r before) (Staged Wait (pos (r + 1))
    ∷ row_trace tree input k n c (r + 1) (before ++ accesses_in (point_trace tree input c r before)))
another_row tree input k n c r before w l =
    let nine : steps_after (natural tree.limits.stages) r ≡ 9 = rw w.rows (rw (lt-ltb (r + 1) (k + 1) (omega (arith, l))) refl) in
    let rows = w.rows in
    let small = w.small in
    spliced (store_of tree) (natural tree.limits.steps) (natural tree.limits.steps) 9 Wait (pos (r + 1))
    (from_row (setting_of tree input c) (rest_of tree.body) k n (r + 1)) _ _ before (point_straight tree input k c r w)
    (λ after h. goes_on (setting_of tree input c) (rest_of tree.body) k n r l (omega (arith, rows, l)) (omega (arith, small, l)) after h)
    (λ after h. ap (λ m. steps m (Return ends.End)) nine)

-- the rest of a column is joined to a point that did not trap
join_next : (r : ℕ) (t : List Action) (us : List (List Action)) (more : List Action) → AreAColumn us → joined (r + 1) us ≡ more
    → splice t (Staged Wait (pos (r + 1)) ∷ more) ≡ joined r (t ∷ unless (is_trap (trace_end t)) us)
join_next r t [] more h e = absurd h
join_next r t (u ∷ us) more h e = elim (cases_Bool (is_trap (trace_end t))) [
  | inl shut ↦ splice-trapped t _ shut ∙ sym (ap (λ b. joined r (t ∷ unless b (u ∷ us))) shut)
  | inr free ↦ ap (λ l. splice t (Staged Wait (pos (r + 1)) ∷ l)) (sym e) ∙ sym (ap (λ b. joined r (t ∷ unless b (u ∷ us))) free)
]

pub column_points_are_a_column : (tree : SyntaxTree) (input : List ℤ) (k c j r : ℕ) (before : List Access) → HasRows tree k
    → AreAColumn (column_points tree input c (suc j) r before)
column_points_are_a_column tree input k c zero r before w =
    rw (unless_nothing {A = List Action} (is_trap (trace_end (point_trace tree input c r before))))
    (open_nodes (point_trace tree input c r before) (trace_is_open tree input k c r before w))
column_points_are_a_column tree input k c (suc j) r before w =
    let t = point_trace tree input c r before in
    let o = trace_is_open tree input k c r before w in
    let rest = column_points_are_a_column tree input k c j (r + 1) (before ++ accesses_in t) w in
    elim (cases_Bool (is_trap (trace_end t))) [
      | inl shut ↦ rw shut (open_nodes t o)
      | inr free ↦ (let both : AreAColumn (t ∷ column_points tree input c (suc j) (r + 1) (before ++ accesses_in t)) = (o, free, rest) in
          subst (λ b. AreAColumn (t ∷ unless b (column_points tree input c (suc j) (r + 1) (before ++ accesses_in t)))) (sym free) both)
    ]

-- beginning with row r, an iteration is the joined points of its column
pub column_is_joined : (tree : SyntaxTree) (input : List ℤ) (k n c j r : ℕ) (before : List Access) → HasRows tree k → r + j ≡ k → j < n
    → row_trace tree input k n c r before ≡ joined r (column_points tree input c (suc j) r before)
column_is_joined tree input k zero c j r before w e l = absurd (omega (arith, l))
column_is_joined tree input k (suc n) c zero r before w e l =
    let same : r ≡ k = omega (arith, e) in
    let nothing = unless_nothing {A = List Action} (is_trap (trace_end (point_trace tree input c r before))) in
    subst (λ m. row_trace tree input k (suc n) c m before ≡ point_trace tree input c m before) (sym same)
    (last_row tree input k n c before w)
    ∙ sym (ap (λ l. joined r (point_trace tree input c r before ∷ l)) nothing)
column_is_joined tree input k (suc n) c (suc j) r before w e l =
    let t = point_trace tree input c r before in
    another_row tree input k n c r before w (omega (arith, e))
    ∙ join_next r t (column_points tree input c (suc j) (r + 1) (before ++ accesses_in t)) _
    (column_points_are_a_column tree input k c j (r + 1) (before ++ accesses_in t) w)
    (sym (column_is_joined tree input k n c j (r + 1) (before ++ accesses_in t) w (omega (arith, e)) (omega (arith, l))))
