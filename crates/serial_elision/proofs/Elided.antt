-- The serial elision grows by one iteration after the other.
use Rattle.std.proofs.Common.{◌≡◌, ◌∙◌, ap, sym, refl, subst, ℕ, ℤ, pos, zero, suc, ◌+◌, ◌-◌, List, [], ◌∷◌, ◌++◌, Bool, true, false}
use Rattle.std.proofs.Common.{Option, Some, None, length, map, append-nil, append_assoc, arith}
use Rattle.std.proofs.lemmas.List.{map-append}
use Rattle.std.specs.Option.{option_or}
use Rattle.cell_store.specs.ShardState.{IsStateAfter}
use Rattle.pipe_model.specs.declared.access.Access.{Access}
use Rattle.pipe_model.specs.declared.access.NodeAccess.{NodeAccess}
use Rattle.pipe_model.specs.declared.column.Column.{Column}
use Rattle.pipe_model.specs.declared.column.ColumnEnd.{ColumnEnd}
use Rattle.pipe_model.specs.declared.column.ColumnEnd.TheVariants as ends
use Rattle.pipe_model.specs.declared.trap.TrapAt.{TrapAt}
use Rattle.pipe_model.specs.declared.trap.TrapPlace.TheVariants.{At}
use Rattle.pipe_model.specs.Language.SyntaxTree.{SyntaxTree}
use Rattle.pipe_model.specs.Pipelines.Behaviour.{Action, accesses_in, closes_loop, column_of, nodes_in, trace_end}
use Rattle.pipe_model.specs.Pipelines.ElisionResults.{ended_column, first_of_both, first_trap, serial_ended_columns, serial_trap}
use Rattle.pipe_model.specs.Pipelines.ElisionResults.{trap_at_end}
use Rattle.pipe_model.specs.Pipelines.Pipeline.{Pipeline}
use Rattle.pipe_model.specs.Pipelines.SerialElision.{located, located_from, serial_accesses, serial_trace, serial_traces}
use Rattle.pipe_model.specs.Pipelines.SerialElision.{serial_traces_from, unless}
use Rattle.pipe_model.specs.Pipelines.WholePrograms.{part_trap}
use Rattle.pipe_model.specs.Races.Columns.{at, node_at}
use Rattle.pipe_model.specs.Runs.State.{accesses_of}
use Rattle.run_laws.proofs.Iterations.LocatedActions.{accesses_of-located}
use Rattle.serial_elision.specs.declared.log.Log.{Log}
use Rattle.serial_elision.specs.ElisionSteps.{iteration_steps, steps_from}
use Rattle.serial_elision.specs.LoopRuns.{LoopRan}
use Rattle.serial_elision.specs.ColumnTraps.{column_trap, last_place}
use Rattle.serial_elision.specs.PartRuns.{PartRan, column_closes}

-- at most n iterations follow, from iteration i: with them, this is the elision
pub record Elided (p : Pipeline) (n i : ℕ) (columns : List Column) (trap : Option TrapAt) (log : Log) : Type 0 where
  pub all_columns : columns ++ map ended_column (serial_traces_from p n i (p.preamble ++ accesses_of log.accesses)) ≡ serial_ended_columns p
  pub least_trap : first_of_both trap (first_trap i (serial_traces_from p n i (p.preamble ++ accesses_of log.accesses))) ≡ serial_trap p
  pub all_accesses : log.accesses ++ located_from i (serial_traces_from p n i (p.preamble ++ accesses_of log.accesses)) ≡ serial_accesses p
  pub cells : IsStateAfter p.store (p.preamble ++ accesses_of log.accesses) log.cells

-- before the first iteration
pub elided_none : (p : Pipeline) (log : Log) → log.accesses ≡ [] → IsStateAfter p.store p.preamble log.cells
    → Elided p (p.last_iteration + 1) 0 [] None log
elided_none p log no_access state =
    let same : p.preamble ++ accesses_of log.accesses ≡ p.preamble = ap (λ l. p.preamble ++ accesses_of l) no_access
    ∙ append-nil p.preamble in
    record {
      all_columns = ap (λ l. map ended_column (serial_traces_from p (p.last_iteration + 1) 0 l)) same;
      least_trap = ap (λ l. first_trap 0 (serial_traces_from p (p.last_iteration + 1) 0 l)) same;
      all_accesses = ap (λ l. l ++ located_from 0 (serial_traces_from p (p.last_iteration + 1) 0 (p.preamble ++ accesses_of log.accesses)))
          no_access
          ∙ ap (λ l. located_from 0 (serial_traces_from p (p.last_iteration + 1) 0 l)) same;
      cells = subst (λ l. IsStateAfter p.store l log.cells) (sym same) state;
    }

pub first_alone : (t : Option TrapAt) → t ≡ first_of_both t None
first_alone None = refl
first_alone (Some t) = refl

-- no iteration follows
pub elided_all : (p : Pipeline) (i : ℕ) (columns : List Column) (steps : List ℤ) (trap : Option TrapAt) (log : Log)
    → Elided p 0 i columns trap log
    → LoopRan p (record { columns = columns; steps = steps; trap = trap; log = log })
elided_all p i columns steps trap log h = record {
  columns_are = sym (append-nil columns) ∙ h.all_columns;
  trap_is = first_alone trap ∙ h.least_trap;
  accesses_are = sym (append-nil log.accesses) ∙ h.all_accesses;
  cells = h.cells;
}

-- of three traps the first
pub first_of_three : (a b c : Option TrapAt) → first_of_both (first_of_both a b) c ≡ first_of_both a (first_of_both b c)
first_of_three None b c = refl
first_of_three (Some t) b c = refl

-- of two traps the first
pub or_is_first : (a b : Option TrapAt) → option_or a b ≡ first_of_both a b
or_is_first None b = refl
or_is_first (Some t) b = refl

-- the trap of a trace, by its column
pub trap_of_trace : (i : ℕ) (t : List Action) (e : Option ColumnEnd) → part_trap (last_place i (ended_column t)) e ≡ trap_at_end i t e
trap_of_trace i t None = refl
trap_of_trace i t (Some ends.End) = refl
trap_of_trace i t (Some ends.Closed) = refl
trap_of_trace i t (Some (ends.Trapped w)) =
    let place : length (column_of t) - 1 ≡ length (nodes_in t) = omega arith in
    ap (λ n. Some (record { place = At (at i n) (node_at (column_of t) n).number; trap = w })) place

-- the iterations that follow, by whether this one closes the loop
rest_after : (p : Pipeline) (n m i : ℕ) (t : List Action) (before after : List Access) (b : Bool) → closes_loop t ≡ b
    → (b ≡ true → m ≡ zero)
    → (b ≡ false → m ≡ n)
    → after ≡ before ++ accesses_in t
    → serial_traces_from p m (i + 1) after ≡ unless (closes_loop t) (serial_traces_from p n (i + 1) (before ++ accesses_in t))
rest_after p n m i t before after true e closed open' same = rw (e, closed refl) refl
rest_after p n m i t before after false e closed open' same = rw (e, open' refl, same) refl

-- the accesses so far, after one iteration more
grown_by : (p : Pipeline) (i : ℕ) (t : List Action) (log now : Log) → now.accesses ≡ log.accesses ++ located i 0 t
    → p.preamble ++ accesses_of now.accesses ≡ (p.preamble ++ accesses_of log.accesses) ++ accesses_in t
grown_by p i t log now e =
    ap (λ l. p.preamble ++ l) (ap accesses_of e ∙ map-append (λ (a : NodeAccess). a.access) log.accesses (located i 0 t)
    ∙ ap (λ l. accesses_of log.accesses ++ l) (accesses_of-located i 0 t))
    ∙ sym (append_assoc p.preamble (accesses_of log.accesses) (accesses_in t))

-- one iteration more
pub elided_more : (p : Pipeline) (n m i : ℕ) (columns : List Column) (trap : Option TrapAt) (log now : Log) (column : Column)
    → Elided p (suc n) i columns trap log
    → PartRan p.store (p.preamble ++ accesses_of log.accesses)
    (serial_trace p.store (p.behaviour i) (p.preamble ++ accesses_of log.accesses)) i log column now
    → (column_closes column ≡ true → m ≡ zero) → (column_closes column ≡ false → m ≡ n)
    → Elided p m (i + 1) (columns ++ column ∷ []) (first_of_both trap (column_trap i column)) now
elided_more p n m i columns trap log now column h one closed open' =
    let base : List Access = p.preamble ++ accesses_of log.accesses in
    let t : List Action = serial_trace p.store (p.behaviour i) base in
    let rest : List (List Action) = unless (closes_loop t) (serial_traces_from p n (i + 1) (base ++ accesses_in t)) in
    let grown : p.preamble ++ accesses_of now.accesses ≡ base ++ accesses_in t = grown_by p i t log now one.accesses_are in
    let left : serial_traces_from p m (i + 1) (p.preamble ++ accesses_of now.accesses) ≡ rest =
    rest_after p n m i t base (p.preamble ++ accesses_of now.accesses) (column_closes column) (sym one.closes) closed open' grown in
    let own : column_trap i column ≡ trap_at_end i t (trace_end t) = ap (column_trap i) one.column_is ∙ trap_of_trace i t (trace_end t) in
    record {
      all_columns = ap (λ r. (columns ++ column ∷ []) ++ map ended_column r) left ∙ append_assoc columns (column ∷ [])
          (map ended_column rest)
          ∙ ap (λ x. columns ++ x ∷ map ended_column rest) one.column_is ∙ h.all_columns;
      least_trap =
          ap (λ r. first_of_both (first_of_both trap (column_trap i column)) (first_trap (i + 1) r)) left
          ∙ first_of_three trap (column_trap i column) (first_trap (i + 1) rest)
          ∙ ap (λ x. first_of_both trap (first_of_both x (first_trap (i + 1) rest))) own ∙ h.least_trap;
      all_accesses =
          ap (λ r. now.accesses ++ located_from (i + 1) r) left ∙ ap (λ l. l ++ located_from (i + 1) rest) one.accesses_are
          ∙ append_assoc log.accesses (located i 0 t) (located_from (i + 1) rest) ∙ h.all_accesses;
      cells = subst (λ l. IsStateAfter p.store l now.cells) (sym grown) one.cells;
    }

-- one iteration more, as the loop keeps it
pub elided_push : (p : Pipeline) (n m i : ℕ) (columns pushed : List Column) (trap last least : Option TrapAt) (log now : Log)
    (column : Column) (closes : Bool)
    → Elided p (suc n) i columns trap log
    → PartRan p.store (p.preamble ++ accesses_of log.accesses)
    (serial_trace p.store (p.behaviour i) (p.preamble ++ accesses_of log.accesses)) i log column now
    → closes ≡ column_closes column → (closes ≡ true → m ≡ zero) → (closes ≡ false → m ≡ n)
    → pushed ≡ columns ++ column ∷ [] → least ≡ option_or trap last → last ≡ column_trap i column
    → Elided p m (i + 1) pushed least now
elided_push p n m i columns pushed trap last least log now column closes h one is closed open' push first own =
    let trapped : least ≡ first_of_both trap (column_trap i column) = first ∙ or_is_first trap last ∙ ap (first_of_both trap) own in
    subst (λ x. Elided p m (i + 1) x least now) (sym push) (subst (λ x. Elided p m (i + 1) (columns ++ column ∷ []) x now) (sym trapped)
    (elided_more p n m i columns trap log now column h one (λ e. closed (is ∙ e)) (λ e. open' (is ∙ e))))

-- ---- steps

-- at most n iterations follow, from iteration i: with their steps, these are the steps of the elision
pub record StepsSoFar (tree : SyntaxTree) (input : List ℤ) (p : Pipeline) (n i : ℕ) (log : Log) (steps : List ℤ) : Type 0 where
  pub all_steps : steps ++ map pos (steps_from tree input i (p.preamble ++ accesses_of log.accesses)
      (serial_traces_from p n i (p.preamble ++ accesses_of log.accesses))) ≡ map pos (steps_from tree input 0 p.preamble (serial_traces p))

-- before the first iteration
pub steps_none : (tree : SyntaxTree) (input : List ℤ) (p : Pipeline) (log : Log) → log.accesses ≡ []
    → StepsSoFar tree input p (p.last_iteration + 1) 0 log []
steps_none tree input p log no_access =
    let same : p.preamble ++ accesses_of log.accesses ≡ p.preamble = ap (λ l. p.preamble ++ accesses_of l) no_access
    ∙ append-nil p.preamble in
    record { all_steps = ap (λ l. map pos (steps_from tree input 0 l (serial_traces_from p (p.last_iteration + 1) 0 l))) same }

-- no iteration follows
pub steps_all : (tree : SyntaxTree) (input : List ℤ) (p : Pipeline) (i : ℕ) (log : Log) (steps : List ℤ)
    → StepsSoFar tree input p 0 i log steps
    → steps ≡ map pos (steps_from tree input 0 p.preamble (serial_traces p))
steps_all tree input p i log steps h = sym (append-nil steps) ∙ h.all_steps

-- one iteration more, as the loop keeps it
pub steps_push : (tree : SyntaxTree) (input : List ℤ) (p : Pipeline) (n m i : ℕ) (log now : Log) (column : Column) (closes : Bool)
    (steps grown : List ℤ)
    → StepsSoFar tree input p (suc n) i log steps
    → PartRan p.store (p.preamble ++ accesses_of log.accesses)
    (serial_trace p.store (p.behaviour i) (p.preamble ++ accesses_of log.accesses)) i log column now
    → closes ≡ column_closes column → (closes ≡ true → m ≡ zero) → (closes ≡ false → m ≡ n)
    → grown ≡ steps ++ map pos (iteration_steps tree input i (p.preamble ++ accesses_of log.accesses))
    → StepsSoFar tree input p m (i + 1) now grown
steps_push tree input p n m i log now column closes steps grown h one is closed open' push =
    let base : List Access = p.preamble ++ accesses_of log.accesses in
    let t : List Action = serial_trace p.store (p.behaviour i) base in
    let rest : List (List Action) = unless (closes_loop t) (serial_traces_from p n (i + 1) (base ++ accesses_in t)) in
    let same : p.preamble ++ accesses_of now.accesses ≡ base ++ accesses_in t = grown_by p i t log now one.accesses_are in
    let left : serial_traces_from p m (i + 1) (p.preamble ++ accesses_of now.accesses) ≡ rest =
    rest_after p n m i t base (p.preamble ++ accesses_of now.accesses) closes (sym one.closes ∙ sym is) closed open' same in
    let own : List ℕ = iteration_steps tree input i base in
    let more : List ℕ = steps_from tree input (i + 1) (base ++ accesses_in t) rest in
    record {
      all_steps =
          ap (λ r. grown ++ map pos (steps_from tree input (i + 1) (p.preamble ++ accesses_of now.accesses) r)) left
          ∙ ap (λ l. grown ++ map pos (steps_from tree input (i + 1) l rest)) same
          ∙ ap (λ l. l ++ map pos more) push ∙ append_assoc steps (map pos own) (map pos more)
          ∙ ap (λ l. steps ++ l) (sym (map-append pos own more)) ∙ h.all_steps;
    }
