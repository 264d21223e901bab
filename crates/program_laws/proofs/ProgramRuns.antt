-- Finished runs of whole programs: their traces, columns, output and trap.
use Rattle.std.proofs.Common.{◌≡◌, ◌∙◌, sym, ap, subst, refl, ℕ, ℤ, List, [], ◌∷◌, ◌++◌, true, false, inl, inr, map, take, ◌+◌}
use Rattle.std.specs.Prelude.{is_some}
use Rattle.std.proofs.lemmas.Bool.{false≢true}
use Rattle.pipe_model.specs.declared.access.Access.{Access}
use Rattle.pipe_model.specs.declared.column.Column.{Column}
use Rattle.pipe_model.specs.declared.node.Node.{Node}
use Rattle.pipe_model.specs.Pipelines.Behaviour.{Behaviour, Reading, Writing, Staging, Ending, Action, Accessed, Staged, read_access}
use Rattle.pipe_model.specs.Pipelines.Behaviour.{write_access, accesses_in, column_of, trace_end}
use Rattle.pipe_model.specs.Pipelines.ElisionResults.{ended_column, first_of_both, first_trap}
use Rattle.pipe_model.specs.declared.trap.TrapPlace.TheVariants.{Last}
use Rattle.pipe_model.specs.Pipelines.Pipeline.{Pipeline, IsWellFormed}
use Rattle.pipe_model.specs.Races.DeterminacyRaces.{IsRaceFree}
use Rattle.pipe_model.specs.Runs.RunLogs.{column_of_frame}
use Rattle.pipe_model.specs.Pipelines.SerialElision.{serial_trace, serial_traces, serial_accesses, located_from, unless}
use Rattle.pipe_model.specs.Runs.State.{State, Frame, end_of_status, accesses_of}
use Rattle.pipe_model.specs.Pipelines.Store.{written, value_after, value_from}
use Rattle.pipe_model.proofs.Members.{none_among}
use Rattle.run_laws.proofs.Elision.FinishedRuns.{IsWhole, run_has_serial_traces}
use Rattle.run_laws.proofs.Elision.RaceFreeElisions.{races_are_those_of_the_elision}
use Rattle.run_laws.proofs.Elision.RaceFreeRuns.{race_free_runs_are_serial}
use Rattle.run_laws.proofs.Iterations.CellWrites.{written-append}
use Rattle.run_laws.proofs.Iterations.ElisionTraces.{unless_true, unless_false}
use Rattle.run_laws.proofs.Iterations.TraceParts.{trace_end_is}
use Rattle.pipe_model.specs.Pipelines.WholePrograms.{WholeProgram, init_accesses, init_trap, loop_after_init, loop_traces, loop_accesses}
use Rattle.pipe_model.specs.Pipelines.WholePrograms.{final_trace, output_with, trap_with, trap_before_final, part_trap}
use Rattle.pipe_model.specs.Runs.WholeProgramRuns.{NoLoop, OfLoop, WithoutLoop, WithLoop, run_traces}
use Rattle.program_laws.specs.ProgramRunLaws.{IsSerialProgram, RaceFreeProgramRunsAreSerial, ProgramRacesAreThoseOfTheElision}
use Rattle.program_laws.specs.ProgramRunLaws.{PlayedWhereFinalRan, RaceFreeRunsHaveOutcomes}

-- two lists of accesses that write the same to every cell
abbrev pub WriteTheSame : List Access → List Access → Type 0
WriteTheSame b d = (c : ℕ) → written c b ≡ written c d

-- the same lists with the same accesses before and after them
pub same_between : (front b d rest : List Access) → WriteTheSame b d → WriteTheSame (front ++ (b ++ rest)) (front ++ (d ++ rest))
same_between front b d rest h = λ c.
    written-append c front (b ++ rest) ∙ ap (λ l. written c front ++ l)
    (written-append c b rest ∙ ap (λ l. l ++ written c rest) (h c) ∙ sym (written-append c d rest))
    ∙ sym (written-append c front (d ++ rest))

-- the same lists with the same accesses before them
pub same_after : (front b d : List Access) → WriteTheSame b d → WriteTheSame (front ++ b) (front ++ d)
same_after front b d h = λ c.
    written-append c front b ∙ ap (λ l. written c front ++ l) (h c) ∙ sym (written-append c front d)

-- the same lists with the same accesses after them
pub same_before : (b d rest : List Access) → WriteTheSame b d → WriteTheSame (b ++ rest) (d ++ rest)
same_before b d rest h = λ c.
    written-append c b rest ∙ ap (λ l. l ++ written c rest) (h c) ∙ sym (written-append c d rest)

-- a part has the same trace after accesses that write the same
pub serial_trace-same : (p : Pipeline) (d : Behaviour) (b e : List Access) → WriteTheSame b e
    → serial_trace p.store d b ≡ serial_trace p.store d e
serial_trace-same p (Reading c go) b e h =
    let same : value_after p.store b c ≡ value_after p.store e c = ap (value_from p.store c) (h c) in
    let v = value_after p.store b c in
    ap (λ l. Accessed (read_access c v) ∷ l)
    (serial_trace-same p (go v) (b ++ read_access c v ∷ []) (e ++ read_access c v ∷ [])
    (same_before b e (read_access c v ∷ []) h))
    ∙ ap (λ x. Accessed (read_access c x) ∷ serial_trace p.store (go x) (e ++ read_access c x ∷ [])) same
serial_trace-same p (Writing c v d) b e h =
    ap (λ l. Accessed (write_access c v) ∷ l)
    (serial_trace-same p d (b ++ write_access c v ∷ []) (e ++ write_access c v ∷ []) (same_before b e (write_access c v ∷ []) h))
serial_trace-same p (Staging k n d) b e h = ap (λ l. Staged k n ∷ l) (serial_trace-same p d b e h)
serial_trace-same p (Ending x) b e h = refl

-- `final` has the same trace
final_trace-same : (w : WholeProgram) (t : List (List Action)) (b d : List Access) → WriteTheSame b d
    → final_trace w t b ≡ final_trace w t d
final_trace-same w t b d h =
    ap (unless (is_some (trap_before_final w t)))
    (serial_trace-same w.loop w.last (init_accesses w ++ b) (init_accesses w ++ d) (same_after (init_accesses w) b d h))

-- the output is the same if the same was written
output-same : (w : WholeProgram) (t : List (List Action)) (b d : List Access) → WriteTheSame b d
    → output_with w t b ≡ output_with w t d
output-same w t b d h =
    ap (λ x. take w.loop.store.output_limit x) (same_between (init_accesses w) b d (accesses_in (final_trace w t b)) h 1)
    ∙ ap (λ x. take w.loop.store.output_limit (written 1 (init_accesses w ++ (d ++ accesses_in x)))) (final_trace-same w t b d h)

-- the trap is the same if the same was written
trap-same : (w : WholeProgram) (t : List (List Action)) (b d : List Access) → WriteTheSame b d
    → trap_with w t b ≡ trap_with w t d
trap-same w t b d h = ap (λ x. first_of_both (trap_before_final w t) (part_trap Last (trace_end x))) (final_trace-same w t b d h)

-- finished iterations have the ended columns of their traces
ended_columns_of_traces : (p : Pipeline) (i : ℕ) (fs : List Frame) → IsWhole p i fs
    → map column_of_frame fs ≡ map ended_column (map (λ f. f.trace) fs)
ended_columns_of_traces p i [] w = absurd w
ended_columns_of_traces p i (f ∷ fs) w =
    let nodes : f.nodes ≡ column_of f.trace = sym w.0.nodes in
    let end : end_of_status f.status ≡ trace_end f.trace =
    ap end_of_status w.0.status ∙ sym (trace_end_is f.trace w.0.end w.0.ends) in
    let rest : map column_of_frame fs ≡ map ended_column (map (λ (h : Frame). h.trace) fs) = elim w.1 [
      | inl last ↦ rw last.1
      | inr more ↦ ended_columns_of_traces p (i + 1) fs more.1
    ] in
    ap (λ (x : List Node). (let c : Column = record { nodes = x; end = end_of_status f.status } in c) ∷ map column_of_frame fs) nodes
    ∙ ap (λ x. (let c : Column = record { nodes = column_of f.trace; end = x } in c) ∷ map column_of_frame fs) end
    ∙ ap (λ l. ended_column f.trace ∷ l) rest

-- the loop after `init` is as well-formed as the loop
pub well_formed_after : (w : WholeProgram) → IsWellFormed w.loop → IsWellFormed (loop_after_init w)
well_formed_after w h = record { legal = h.legal; closes = h.closes }

-- the traces of the loop if `init` did not trap
pub loop_traces_are : (w : WholeProgram) → is_some (init_trap w) ≡ false → loop_traces w ≡ serial_traces (loop_after_init w)
loop_traces_are w e = unless_false (is_some (init_trap w)) (serial_traces (loop_after_init w)) e

-- the traces of the loop if `init` trapped
pub no_loop_traces : (w : WholeProgram) → is_some (init_trap w) ≡ true → loop_traces w ≡ []
no_loop_traces w e = unless_true (is_some (init_trap w)) (serial_traces (loop_after_init w)) e

-- a run with the traces of the elision is serial
serial_with : (w : WholeProgram) (s : State) (t : List (List Action)) → loop_traces w ≡ t → run_traces s ≡ t
    → map column_of_frame s.frames ≡ map ended_column t
    → WriteTheSame (accesses_of s.accesses) (accesses_of (located_from 0 t))
    → IsRaceFree (map column_of t) (located_from 0 t) → IsSerialProgram w s
serial_with w s t e traces columns cells free =
    let traces' : run_traces s ≡ loop_traces w = traces ∙ sym e in
    let cells' : WriteTheSame (accesses_of s.accesses) (accesses_of (loop_accesses w)) =
    λ c. cells c ∙ ap (λ x. written c (accesses_of (located_from 0 x))) (sym e) in
    record {
      traces = traces';
      columns = columns ∙ ap (λ x. map ended_column x) (sym e);
      cells = cells';
      output = ap (λ x. output_with w x (accesses_of s.accesses)) traces'
          ∙ output-same w (loop_traces w) (accesses_of s.accesses) (accesses_of (loop_accesses w)) cells';
      trap = ap (λ x. trap_with w x (accesses_of s.accesses)) traces'
          ∙ trap-same w (loop_traces w) (accesses_of s.accesses) (accesses_of (loop_accesses w)) cells';
      free = subst (λ x. IsRaceFree (map column_of x) (located_from 0 x)) (sym e) free;
    }

-- no accesses have no race
none_race_free : (columns : List (List Node)) → IsRaceFree columns []
none_race_free columns a b r = none_among a r.first

-- if the same is written after a common prefix, the same is written without it
same_without : (front b d : List Access) → WriteTheSame (front ++ b) (front ++ d) → WriteTheSame b d
same_without front b d h = λ c. same_tail (written c front) (written c b) (written c d)
    (sym (written-append c front b) ∙ h c ∙ written-append c front d)
  where
    same_tail : (xs ys zs : List ℤ) → xs ++ ys ≡ xs ++ zs → ys ≡ zs
    same_tail [] ys zs e = e
    same_tail (x ∷ xs) ys zs e = same_tail xs ys zs (cc)

pub race_free_program_runs_are_serial : RaceFreeProgramRunsAreSerial
race_free_program_runs_are_serial w limit events s (NoLoop e) closing fin free =
    serial_with w s [] (no_loop_traces w e) refl refl (λ c. refl) (none_race_free [])
race_free_program_runs_are_serial w limit events s (OfLoop e r) closing (WithoutLoop f) free = absurd (false≢true (sym e ∙ f))
race_free_program_runs_are_serial w limit events s (OfLoop e r) closing (WithLoop f fin) free =
    let p = loop_after_init w in
    let serial = race_free_runs_are_serial p limit events s r closing fin free in
    let same = run_has_serial_traces closing r fin free in
    serial_with w s (serial_traces p) (loop_traces_are w e) same.traces
    (ended_columns_of_traces p 0 s.frames same.whole ∙ ap (λ t. map ended_column t) same.traces)
    (same_without (init_accesses w) (accesses_of s.accesses) (accesses_of (serial_accesses p)) serial.cells)
    serial.free

pub program_races_are_those_of_the_elision : ProgramRacesAreThoseOfTheElision
program_races_are_those_of_the_elision w limit events s (NoLoop e) proper fin =
    let t = no_loop_traces w e in
    ((λ free. rw t (none_race_free [])), (λ free. none_race_free []))
program_races_are_those_of_the_elision w limit events s (OfLoop e r) proper (WithoutLoop f) = absurd (false≢true (sym e ∙ f))
program_races_are_those_of_the_elision w limit events s (OfLoop e r) proper (WithLoop f fin) =
    let t = loop_traces_are w e in
    let h = races_are_those_of_the_elision (loop_after_init w) limit events s r (well_formed_after w proper) fin in
    rw t h

pub played_where_final_ran : PlayedWhereFinalRan
played_where_final_ran w s = (refl, refl)

pub race_free_runs_have_outcomes : RaceFreeRunsHaveOutcomes
race_free_runs_have_outcomes p limit events s r closing fin free =
    let serial = race_free_runs_are_serial p limit events s r closing fin free in
    let same = run_has_serial_traces closing r fin free in
    record {
      traces = same.traces;
      columns = ended_columns_of_traces p 0 s.frames same.whole ∙ ap (λ t. map ended_column t) same.traces;
      output = ap (λ l. take p.store.output_limit l) (serial.cells 1);
      trap = ap (λ t. first_trap 0 t) same.traces;
    }
