-- The results of a whole program, by which of its parts ran.
use Rattle.std.proofs.Common.{◌≡◌, ◌∙◌, ap, sym, refl, ℤ, List, [], ◌++◌, true, false, Option, Some, None, map, append-nil, append_assoc}
use Rattle.std.specs.Prelude.{is_some}
use Rattle.pipe_model.specs.declared.access.Access.{Access}
use Rattle.pipe_model.specs.declared.trap.TrapAt.{TrapAt}
use Rattle.pipe_model.specs.declared.trap.TrapPlace.TheVariants.{Last}
use Rattle.pipe_model.specs.Pipelines.Behaviour.{Action, accesses_in, trace_end}
use Rattle.pipe_model.specs.Pipelines.ElisionResults.{ended_column, first_of_both, first_trap}
use Rattle.pipe_model.specs.Pipelines.SerialElision.{located_from, serial_trace, serial_traces, unless}
use Rattle.pipe_model.specs.Pipelines.Store.{output_of}
use Rattle.pipe_model.specs.Pipelines.WholePrograms.{WholeProgram, final_trace, init_accesses, init_trap, loop_after_init, loop_traces}
use Rattle.pipe_model.specs.Pipelines.WholePrograms.{output_with, part_trap, trap_before_final, trap_with}
use Rattle.pipe_model.specs.Runs.State.{accesses_of}
use Rattle.serial_elision.specs.declared.elision.SerialRun.{SerialRun}
use Rattle.serial_elision.specs.declared.iterations.LoopRun.{LoopRun}
use Rattle.serial_elision.specs.Elisions.{IsElision}
use Rattle.serial_elision.specs.LoopRuns.{LoopRan}

pub none_is : (t : Option TrapAt) → is_some t ≡ false → t ≡ None
none_is None e = refl
none_is (Some t) e = absurd (let d : true ≡ false = e in cc (d))

some_first : (t other : Option TrapAt) → is_some t ≡ true → first_of_both t other ≡ t
some_first (Some t) other e = refl
some_first None other e = absurd (let d : false ≡ true = e in cc (d))

pub first_or_none : (t : Option TrapAt) → first_of_both t None ≡ t
first_or_none None = refl
first_or_none (Some t) = refl

-- `final` did not run
record WithoutFinal (w : WholeProgram) (ts : List (List Action)) (accesses : List Access) : Type 0 where
  output : output_with w ts accesses ≡ output_of w.loop.store (init_accesses w ++ accesses)
  trap : trap_with w ts accesses ≡ trap_before_final w ts

without_final : (w : WholeProgram) (ts : List (List Action)) (accesses : List Access) → is_some (trap_before_final w ts) ≡ true
    → WithoutFinal w ts accesses
without_final w ts accesses some =
    let none : final_trace w ts accesses ≡ [] = ap (λ b. unless b (serial_trace w.loop.store w.last (init_accesses w ++ accesses))) some in
    record {
      output = ap (λ t. output_of w.loop.store (init_accesses w ++ (accesses ++ accesses_in t))) none
          ∙ ap (λ l. output_of w.loop.store (init_accesses w ++ l)) (append-nil accesses);
      trap = some_first (trap_before_final w ts) (part_trap Last (trace_end (final_trace w ts accesses))) some;
    }

-- the trace of `final` after these accesses of the loop
abbrev pub last_trace : WholeProgram → List Access → List Action
last_trace w accesses = serial_trace w.loop.store w.last (init_accesses w ++ accesses)

-- `final` ran
pub record WithFinal (w : WholeProgram) (ts : List (List Action)) (accesses : List Access) : Type 0 where
  pub output : output_with w ts accesses ≡ output_of w.loop.store ((init_accesses w ++ accesses) ++ accesses_in (last_trace w accesses))
  pub trap : trap_with w ts accesses ≡ part_trap Last (trace_end (last_trace w accesses))

pub with_final : (w : WholeProgram) (ts : List (List Action)) (accesses : List Access) → is_some (trap_before_final w ts) ≡ false
    → WithFinal w ts accesses
with_final w ts accesses none =
    let ran : final_trace w ts accesses ≡ last_trace w accesses = ap (λ b. unless b (last_trace w accesses)) none in
    record {
      output = ap (λ t. output_of w.loop.store (init_accesses w ++ (accesses ++ accesses_in t))) ran
          ∙ ap (output_of w.loop.store) (sym (append_assoc (init_accesses w) accesses (accesses_in (last_trace w accesses))));
      trap = ap (λ t. first_of_both t (part_trap Last (trace_end (final_trace w ts accesses)))) (none_is (trap_before_final w ts) none)
          ∙ ap (λ t. part_trap Last (trace_end t)) ran;
    }

-- the result, by the traces of the loop
result_by : (w : WholeProgram) (ts : List (List Action)) (r : SerialRun) → loop_traces w ≡ ts
    → r.output ≡ output_with w ts (accesses_of (located_from 0 ts))
    → r.trap ≡ trap_with w ts (accesses_of (located_from 0 ts)) → r.columns ≡ map ended_column ts → r.accesses ≡ located_from 0 ts
    → IsElision w r
result_by w ts r is output trap columns accesses = record {
  output_is = output ∙ ap (λ l. output_with w l (accesses_of (located_from 0 l))) (sym is);
  trap_is = trap ∙ ap (λ l. trap_with w l (accesses_of (located_from 0 l))) (sym is);
  columns_are = columns ∙ ap (map ended_column) (sym is);
  accesses_are = accesses ∙ ap (located_from 0) (sym is);
}

-- `init` trapped
pub trapped_in_init : (w : WholeProgram) (output : List ℤ) (trap : Option TrapAt) → trap ≡ init_trap w → is_some trap ≡ true
    → output ≡ output_of w.loop.store (init_accesses w)
    → IsElision w (record { output = output; trap = trap; columns = []; accesses = [] })
trapped_in_init w output trap is some all =
    let trapped : is_some (init_trap w) ≡ true = ap is_some (sym is) ∙ some in
    let none : loop_traces w ≡ [] = ap (λ b. unless b (serial_traces (loop_after_init w))) trapped in
    let first : trap_before_final w [] ≡ init_trap w = first_or_none (init_trap w) in
    let h = without_final w [] [] (ap is_some first ∙ trapped) in
    result_by w [] (record { output = output; trap = trap; columns = []; accesses = [] }) none
    (all ∙ ap (output_of w.loop.store) (sym (append-nil (init_accesses w))) ∙ sym h.output) (is ∙ sym first ∙ sym h.trap) refl refl

-- the traps before `final`, if `init` had none
pub trap_of_loop : (w : WholeProgram) (ts : List (List Action)) → is_some (init_trap w) ≡ false → trap_before_final w ts ≡ first_trap 0 ts
trap_of_loop w ts none = ap (λ t. first_of_both t (first_trap 0 ts)) (none_is (init_trap w) none)

-- an iteration trapped
pub trapped_in_loop : (w : WholeProgram) (r : LoopRun) (output : List ℤ) → is_some (init_trap w) ≡ false → LoopRan (loop_after_init w) r
    → is_some r.trap ≡ true
    → output ≡ output_of w.loop.store (init_accesses w ++ accesses_of r.log.accesses)
    → IsElision w (record { output = output; trap = r.trap; columns = r.columns; accesses = r.log.accesses })
trapped_in_loop w r output none ran some all =
    let ts = serial_traces (loop_after_init w) in
    let is : loop_traces w ≡ ts = ap (λ b. unless b ts) none in
    let trap : trap_before_final w ts ≡ r.trap = trap_of_loop w ts none ∙ sym ran.trap_is in
    let h = without_final w ts (accesses_of (located_from 0 ts)) (ap is_some trap ∙ some) in
    result_by w ts (record { output = output; trap = r.trap; columns = r.columns; accesses = r.log.accesses }) is
    (all ∙ ap (λ l. output_of w.loop.store (init_accesses w ++ accesses_of l)) ran.accesses_are ∙ sym h.output) (sym trap ∙ sym h.trap)
    ran.columns_are ran.accesses_are

-- `final` ran
pub ran_to_end : (w : WholeProgram) (r : LoopRun) (output : List ℤ) (trap : Option TrapAt) → is_some (init_trap w) ≡ false
    → LoopRan (loop_after_init w) r → is_some r.trap ≡ false
    → trap ≡ part_trap Last (trace_end (last_trace w (accesses_of r.log.accesses)))
    → output ≡ output_of w.loop.store ((init_accesses w ++ accesses_of r.log.accesses) ++ accesses_in
    (last_trace w (accesses_of r.log.accesses)))
    → IsElision w (record { output = output; trap = trap; columns = r.columns; accesses = r.log.accesses })
ran_to_end w r output trap none ran no_trap last all =
    let ts = serial_traces (loop_after_init w) in
    let is : loop_traces w ≡ ts = ap (λ b. unless b ts) none in
    let before : trap_before_final w ts ≡ r.trap = trap_of_loop w ts none ∙ sym ran.trap_is in
    let h = with_final w ts (accesses_of (located_from 0 ts)) (ap is_some before ∙ no_trap) in
    result_by w ts (record { output = output; trap = trap; columns = r.columns; accesses = r.log.accesses }) is
    (all ∙ ap (λ l. output_of w.loop.store ((init_accesses w ++ accesses_of l) ++ accesses_in (last_trace w (accesses_of l))))
    ran.accesses_are ∙ sym h.output)
    (last ∙ ap (λ l. part_trap Last (trace_end (last_trace w (accesses_of l)))) ran.accesses_are ∙ sym h.trap) ran.columns_are
    ran.accesses_are
