-- The serial elision of a lowered wave loop is the grid.
use Rattle.std.proofs.Common.{◌≡◌, ◌∙◌, sym, ap, refl, subst, ℕ, zero, suc, ℤ, pos, negsuc, Bool, true, false, not, ◌&&◌, List, [], ◌∷◌}
use Rattle.std.proofs.Common.{◌++◌, map, Option, Some, None, is_some, if◌then◌else◌, ◌<◌, ◌≤◌, ◌+◌, ◌-◌, ◌*◌, ◌^◌, arith}
use Rattle.std.specs.Prelude.{int_lt}
use Rattle.std.proofs.Math.IntN.{◌-ℤ◌}
use Rattle.std.proofs.lemmas.Bool.{false≢true, lt-ltb, le-ltb, ltb-false, not-true}
use Rattle.pipe_model.specs.declared.access.Access.{Access}
use Rattle.pipe_model.specs.declared.access.NodeAccess.{NodeAccess}
use Rattle.pipe_model.specs.declared.trap.TrapAt.{TrapAt}
use Rattle.pipe_model.specs.Language.CheckingRules.{fault_of, is_between, first_limit_out, first_fault}
use Rattle.pipe_model.specs.Language.Evaluation.{run_iteration}
use Rattle.pipe_model.specs.Language.Interaction.{with_budget}
use Rattle.pipe_model.specs.Language.Marks.{marks_of}
use Rattle.pipe_model.specs.Language.Programs.{natural, setting_of, store_of}
use Rattle.pipe_model.specs.Language.ProgramsOfTrees.{whole_of}
use Rattle.pipe_model.specs.Language.SyntaxTree.{Number, Name, Binary, Unary, Let, While, Statements, Empty, Then, SyntaxTree}
use Rattle.pipe_model.specs.declared.operator_codes.TheConstants as operator_codes
use Rattle.pipe_model.specs.declared.column.ColumnEnd.{ColumnEnd}
use Rattle.pipe_model.specs.declared.column.ColumnEnd.TheVariants as ends
use Rattle.pipe_model.specs.Language.Interaction.{Return}
use Rattle.pipe_model.specs.Pipelines.Store.{InitialStore, output_of}
use Rattle.pipe_model.specs.Pipelines.WholePrograms.{part_trap}
use Rattle.pipe_model.specs.declared.trap.TrapPlace.TheVariants.{Last}
use Rattle.pipe_model.specs.Pipelines.Behaviour.{Action, accesses_in, closes_loop, nodes_in, trace_end}
use Rattle.pipe_model.specs.Pipelines.ElisionResults.{ended_column, first_of_both, first_trap, trap_at_end}
use Rattle.pipe_model.specs.Pipelines.Pipeline.{Pipeline}
use Rattle.pipe_model.specs.Pipelines.SerialElision.{serial_trace, serial_traces_from, located_from, unless}
use Rattle.pipe_model.specs.Pipelines.WholePrograms.{init_accesses, init_trap, loop_after_init, loop_traces, loop_accesses}
use Rattle.pipe_model.specs.Runs.State.{accesses_of}
use Rattle.program_laws.proofs.PlannedLimits.{no_limit_out}
use Rattle.wave_laws.specs.WaveLaws.{IsTheGrid, LoweredWavesAreGrids}
use Rattle.wave_laws.specs.Waves.Grid.{closing_trace, column_points, columns_from, ends_grid, grid, points_accesses}
use Rattle.wave_laws.specs.Waves.GridResults.{column_of_points, columns_trap, grid_accesses, located_columns, located_points, points_trap}
use Rattle.wave_laws.specs.Waves.LoweredLoops.{lowered, lowered_body, lowered_test, lowered_turn}
use Rattle.wave_laws.specs.Waves.Points.{point_trace, steps}
use Rattle.wave_laws.specs.Waves.WaveLoops.{IsWave, rest_of, row}
use Rattle.wave_laws.proofs.Splices.{AreAColumn, joined, joined_accesses, joined_located, joined_column, joined_end, joined_closes}
use Rattle.wave_laws.proofs.Splices.{joined_trap}
use Rattle.wave_laws.proofs.Columns.{HasRows, body_below, column_is_joined, column_points_are_a_column, iteration_begins, iteration_closes}
use Rattle.wave_laws.proofs.Columns.{trace_is_open, unless_nothing}

-- what is known of the limits of a wave loop
pub record AreWaveLimits (tree : SyntaxTree) (k : ℕ) : Type 0 where
  pub iterations : tree.limits.iterations ≡ pos (natural tree.limits.iterations)
  pub stages : tree.limits.stages ≡ pos (suc k)
  pub bounded : k < 4096
  pub steps : 1 ≤ natural tree.limits.steps

all_in_range : (a b c d e : Bool)
    → if◌then◌else◌ {A = Option ℕ} (not a) (Some 1)
    (if not b then Some 2 else (if c then Some 3 else (if not d then Some 4 else (if e then Some 5 else None)))) ≡ None
    → (a ≡ true) × (b ≡ true) × (d ≡ true)
all_in_range true true false true e h = (refl, refl, refl)
all_in_range true true false false e h = absurd (cc)
all_in_range true true true d e h = absurd (cc)
all_in_range true false c d e h = absurd (cc)
all_in_range false b c d e h = absurd (cc)

both_true : (a b : Bool) → (a && b) ≡ true → (a ≡ true) × (b ≡ true)
both_true true b h = (refl, h)
both_true false b h = absurd (false≢true h)

-- a number between 1 and this bound is positive
between : (high : ℕ) (z : ℤ) → is_between (pos 1) (pos high) z ≡ true → (k : ℕ) × (z ≡ pos (suc k)) × (k < high)
between high (pos zero) h = absurd (cc)
between high (pos (suc k)) h =
    let both : (not (int_lt (pos (suc k)) (pos 1)) ≡ true) × (not (int_lt (pos high) (pos (suc k))) ≡ true) = both_true _ _ h in
    let le : suc k ≤ high = ltb-false high (suc k) (not-true _ both.1) in
    (k, refl, omega (arith, le))
between high (negsuc n) h = absurd (cc)

pub wave_limits : (tree : SyntaxTree) → fault_of tree ≡ None → (k : ℕ) × AreWaveLimits tree k
wave_limits tree h =
    let all = all_in_range _ _ _ _ _ (no_limit_out (first_limit_out tree.limits) (first_fault 0 (marks_of tree)) h) in
    let c = between 65536 tree.limits.iterations all.0 in
    let r = between 4096 tree.limits.stages all.1 in
    let b = between 1000000 tree.limits.steps all.2 in
    let one : 1 ≤ natural tree.limits.steps = rw b.1 (omega arith) in (
      r.0,
      record {
        iterations = c.1 ∙ sym (ap (λ z. pos (natural z)) c.1);
        stages = r.1;
        bounded = r.2;
        steps = one;
      },
    )

minus_one : (k : ℕ) → pos (suc k) -ℤ pos 1 ≡ pos k
minus_one k = rw (le-ltb (suc k) 1 (omega arith)) (ap (λ n. pos n) (omega arith))

-- ---- iterations and columns

-- what the proof needs of a wave loop with k + 1 rows and at most n turns after the first
pub record IsReady (tree : SyntaxTree) (k n : ℕ) : Type 0 where
  pub rows : HasRows tree k
  pub stages : natural tree.limits.stages ≡ suc k
  pub iterations : tree.limits.iterations ≡ pos (natural tree.limits.iterations)
  pub body : lowered_body tree.limits.stages (rest_of tree.body) ≡ body_below k (rest_of tree.body)
  pub turns : natural tree.limits.stages * (natural tree.limits.steps + 1) ≡ suc n
  pub enough : k < n

-- the lowered body with this bound on the row
abbrev body_with : ℤ → Statements → Statements
body_with z rest =
    Then (Let row (Unary operator_codes.NEGATIVE (Number (pos 1))))
    (Then (While (Binary operator_codes.LESS (Name row) (Number z)) (lowered_turn rest)) Empty)

one_more : (k b : ℕ) → suc k * (suc b + 1) ≡ suc (suc k * b + suc (2 * k))
one_more k b = grind arith

pub ready : (tree : SyntaxTree) (k : ℕ) → IsWave tree → AreWaveLimits tree k → (n : ℕ) × IsReady tree k n
ready tree k w l =
    let stages : natural tree.limits.stages ≡ suc k = ap natural l.stages in
    let bounded = l.bounded in
    let big : 5000 < 2 ^ 63 = omega arith in
    let rows : natural tree.limits.stages ≡ k + 1 = omega (arith, stages) in
    let b = natural tree.limits.steps - 1 in
    let one = l.steps in
    let steps : natural tree.limits.steps ≡ suc b = omega (arith, one) in (
      suc k * b + suc (2 * k),
      record {
        rows = record { rows = rows; small = omega (arith, bounded, big); straight = w.straight; unset = w.unset };
        stages = stages;
        iterations = l.iterations;
        body = ap (λ z. lowered_body z (rest_of tree.body)) l.stages
            ∙ ap (λ z. body_with z (rest_of tree.body)) (minus_one k);
        turns = ap (λ m. m * (natural tree.limits.steps + 1)) stages ∙ ap (λ m. suc k * (m + 1)) steps ∙ one_more k b;
        enough = omega arith;
      },
    )

-- the loop of the lowered program
abbrev lowered_loop : SyntaxTree → List ℤ → Pipeline
lowered_loop tree input = loop_after_init (whole_of (lowered tree) input)

-- the trace of iteration c of the lowered program
abbrev lowered_trace : SyntaxTree → List ℤ → ℕ → List Access → List Action
lowered_trace tree input c before = serial_trace (store_of tree) ((lowered_loop tree input).behaviour c) before

abbrev column : SyntaxTree → List ℤ → ℕ → List Access → List (List Action)
column tree input c before = column_points tree input c (natural tree.limits.stages) 0 before

iteration_is : (tree : SyntaxTree) (input : List ℤ) (k n c : ℕ) (before : List Access) → IsReady tree k n
    → c < natural tree.limits.iterations
    → lowered_trace tree input c before ≡ joined 0 (column tree input c before)
iteration_is tree input k n c before w l =
    let budget = natural tree.limits.steps in
    let lower : int_lt (pos c) tree.limits.iterations ≡ true = ap (λ z. int_lt (pos c) z) w.iterations
    ∙ lt-ltb c (natural tree.limits.iterations) l in
    ap (λ body. serial_trace (store_of tree) (with_budget budget budget
    (run_iteration (setting_of tree input c) (lowered_test tree.limits.iterations) body)) before) w.body
    ∙ ap (λ d. serial_trace (store_of tree) (with_budget budget budget d) before)
    (iteration_begins (setting_of tree input c) (rest_of tree.body) k n w.turns lower)
    ∙ column_is_joined tree input k n c k 0 before w.rows (omega arith) w.enough
    ∙ ap (λ m. joined 0 (column_points tree input c m 0 before)) (sym w.stages)

closing_is : (tree : SyntaxTree) (input : List ℤ) (k n c : ℕ) (before : List Access) → IsReady tree k n → c ≡ natural tree.limits.iterations
    → lowered_trace tree input c before ≡ closing_trace tree before
closing_is tree input k n c before w e =
    let budget = natural tree.limits.steps in
    let not_lower : int_lt (pos c) tree.limits.iterations ≡ false =
    ap (λ z. int_lt (pos c) z) w.iterations ∙ le-ltb c (natural tree.limits.iterations) (omega (arith, e)) in
    ap (λ d. serial_trace (store_of tree) (with_budget budget budget d) before)
    (iteration_closes (setting_of tree input c) (lowered_body tree.limits.stages (rest_of tree.body)) not_lower)

column_is_column : (tree : SyntaxTree) (input : List ℤ) (k n c : ℕ) (before : List Access) → IsReady tree k n
    → AreAColumn (column tree input c before)
column_is_column tree input k n c before w =
    subst (λ m. AreAColumn (column_points tree input c m 0 before)) (sym w.stages)
    (column_points_are_a_column tree input k c k 0 before w.rows)

column_closes : (tree : SyntaxTree) (input : List ℤ) (k n c : ℕ) (before : List Access) → IsReady tree k n
    → closes_loop (joined 0 (column tree input c before)) ≡ ends_grid (column tree input c before)
column_closes tree input k n c before w =
    subst (λ m. closes_loop (joined 0 (column_points tree input c m 0 before)) ≡ ends_grid (column_points tree input c m 0 before))
    (sym w.stages)
    (joined_closes 0 (point_trace tree input c 0 before) _ (trace_is_open tree input k c 0 before w.rows)
    (column_points_are_a_column tree input k c k 0 before w.rows))

map_unless : {A B : Type 0} (f : A → B) (b : Bool) (xs : List A) → unless b (map f xs) ≡ map f (unless b xs)
map_unless f true xs = refl
map_unless f false xs = refl

-- the lowered program has the traces of the grid
traces_are : (tree : SyntaxTree) (input : List ℤ) (k n m c : ℕ) (before : List Access) → IsReady tree k n
    → c + m ≡ natural tree.limits.iterations
    → serial_traces_from (lowered_loop tree input) (suc m) c before ≡ map (joined 0) (columns_from tree input m c before)
traces_are tree input k n zero c before w e =
    ap (λ t. t ∷ unless (closes_loop t) []) (closing_is tree input k n c before w (omega (arith, e)))
    ∙ ap (λ l. closing_trace tree before ∷ l) (unless_nothing {A = List Action} (closes_loop (closing_trace tree before)))
traces_are tree input k n (suc m) c before w e =
    let p = lowered_loop tree input in
    let points = column tree input c before in
    ap (λ t. t ∷ unless (closes_loop t) (serial_traces_from p (suc m) (c + 1) (before ++ accesses_in t)))
    (iteration_is tree input k n c before w (omega (arith, e)))
    ∙ ap (λ a. joined 0 points ∷ unless (closes_loop (joined 0 points)) (serial_traces_from p (suc m) (c + 1) (before ++ a)))
    (joined_accesses 0 points (column_is_column tree input k n c before w))
    ∙ ap (λ b. joined 0 points ∷ unless b (serial_traces_from p (suc m) (c + 1) (before ++ points_accesses points)))
    (column_closes tree input k n c before w)
    ∙ ap (λ l. joined 0 points ∷ unless (ends_grid points) l)
    (traces_are tree input k n m (c + 1) (before ++ points_accesses points) w (omega (arith, e)))
    ∙ ap (λ l. joined 0 points ∷ l)
    (map_unless (joined 0) (ends_grid points) (columns_from tree input m (c + 1) (before ++ points_accesses points)))

-- ---- columns, accesses and traps

abbrev AreColumns : List (List (List Action)) → Type 0
AreColumns [] = Unit {0}
AreColumns (points ∷ more) = AreAColumn points × AreColumns more

columns_unless : (b : Bool) (gs : List (List (List Action))) → AreColumns gs → AreColumns (unless b gs)
columns_unless true gs h = tt
columns_unless false gs h = h

stepped_nodes : (store : InitialStore) (budget left n : ℕ) (e : ColumnEnd) (before : List Access)
    → nodes_in (serial_trace store (with_budget budget left (steps n (Return e))) before) ≡ []
stepped_nodes store budget left zero e before = refl
stepped_nodes store budget zero (suc n) e before = refl
stepped_nodes store budget (suc left) (suc n) e before = stepped_nodes store budget left n e before

from_are_columns : (tree : SyntaxTree) (input : List ℤ) (k n m c : ℕ) (before : List Access) → IsReady tree k n
    → AreColumns (columns_from tree input m c before)
from_are_columns tree input k n zero c before w =
    (stepped_nodes (store_of tree) (natural tree.limits.steps) (natural tree.limits.steps) 4 ends.Closed before, tt)
from_are_columns tree input k n (suc m) c before w =
    (column_is_column tree input k n c before w, columns_unless _ _ (from_are_columns tree input k n m (c + 1) _ w))

located_are : (c : ℕ) (gs : List (List (List Action))) → AreColumns gs → located_from c (map (joined 0) gs) ≡ located_columns c gs
located_are c [] h = refl
located_are c (points ∷ more) h =
    ap (λ l. l ++ located_from (c + 1) (map (joined 0) more)) (joined_located c 0 0 points h.0)
    ∙ ap (λ l. located_points c 0 points ++ l) (located_are (c + 1) more h.1)

one_column : (points : List (List Action)) → AreAColumn points → ended_column (joined 0 points) ≡ column_of_points points
one_column [] h = absurd h
one_column (t ∷ ts) h = λ i. record { nodes = joined_column t ts h i; end = joined_end 0 (t ∷ ts) h i }

columns_are : (gs : List (List (List Action))) → AreColumns gs → map ended_column (map (joined 0) gs) ≡ map column_of_points gs
columns_are [] h = refl
columns_are (points ∷ more) h = λ i. one_column points h.0 i ∷ columns_are more h.1 i

one_trap : (c : ℕ) (points : List (List Action)) → AreAColumn points
    → trap_at_end c (joined 0 points) (trace_end (joined 0 points)) ≡ points_trap c 0 points
one_trap c [] h = absurd h
one_trap c (t ∷ ts) h = joined_trap c t ts h

traps_are : (c : ℕ) (gs : List (List (List Action))) → AreColumns gs → first_trap c (map (joined 0) gs) ≡ columns_trap c gs
traps_are c [] h = refl
traps_are c (points ∷ more) h = λ i. first_of_both (one_trap c points h.0 i) (traps_are (c + 1) more h.1 i)

-- ---- the whole

all_traces : (tree : SyntaxTree) (input : List ℤ) (k n : ℕ) → IsReady tree k n
    → loop_traces (whole_of (lowered tree) input) ≡ map (joined 0) (grid tree input)
all_traces tree input k n w =
    let c = natural tree.limits.iterations in
    let one : c + 1 ≡ suc c = omega arith in
    let trapped = is_some (init_trap (whole_of tree input)) in
    ap (λ m. unless trapped (serial_traces_from (lowered_loop tree input) m 0 (init_accesses (whole_of tree input)))) one
    ∙ ap (λ l. unless trapped l) (traces_are tree input k n c 0 (init_accesses (whole_of tree input)) w (omega arith))
    ∙ map_unless (joined 0) trapped (columns_from tree input c 0 (init_accesses (whole_of tree input)))

-- the output and the trap, by the accesses and the trap of the loop
abbrev final_with : SyntaxTree → List ℤ → List NodeAccess → Option TrapAt → List Action
final_with tree input accesses trap =
    unless (is_some (first_of_both (init_trap (whole_of tree input)) trap))
    (serial_trace (store_of tree) (whole_of tree input).last (init_accesses (whole_of tree input) ++ accesses_of accesses))

abbrev whole_output : SyntaxTree → List ℤ → List NodeAccess → Option TrapAt → List ℤ
whole_output tree input accesses trap =
    output_of (store_of tree)
    (init_accesses (whole_of tree input) ++ (accesses_of accesses ++ accesses_in (final_with tree input accesses trap)))

abbrev whole_trap : SyntaxTree → List ℤ → List NodeAccess → Option TrapAt → Option TrapAt
whole_trap tree input accesses trap =
    first_of_both (first_of_both (init_trap (whole_of tree input)) trap) (part_trap Last (trace_end (final_with tree input accesses trap)))

lowered_is_grid : (tree : SyntaxTree) (input : List ℤ) (k n : ℕ) → IsReady tree k n → IsTheGrid (lowered tree) tree input
lowered_is_grid tree input k n w =
    let all = all_traces tree input k n w in
    let whole : AreColumns (grid tree input) = columns_unless _ _
    (from_are_columns tree input k n (natural tree.limits.iterations) 0 _ w) in
    let accesses : loop_accesses (whole_of (lowered tree) input) ≡ grid_accesses tree input =
    ap (located_from 0) all ∙ located_are 0 (grid tree input) whole in
    let trap : first_trap 0 (loop_traces (whole_of (lowered tree) input)) ≡ columns_trap 0 (grid tree input) =
    ap (first_trap 0) all ∙ traps_are 0 (grid tree input) whole in
    record {
      output = λ i. whole_output tree input (accesses i) (trap i);
      trap = λ i. whole_trap tree input (accesses i) (trap i);
      columns = ap (map ended_column) all ∙ columns_are (grid tree input) whole;
      accesses = accesses;
    }

pub lowered_waves_are_grids : LoweredWavesAreGrids
lowered_waves_are_grids tree input w h =
    let limits = wave_limits tree h.obeys in
    let r = ready tree limits.0 w limits.1 in
    lowered_is_grid tree input limits.0 r.0 r.1
