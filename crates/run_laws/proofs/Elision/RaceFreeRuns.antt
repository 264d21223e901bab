-- A finished run without a race has the columns, the ends and the writes of the serial elision.
use Rattle.std.proofs.Common.{ℕ, List, map, ◌≡◌, [], ◌∷◌, inl, inr, ◌+◌, ap, sym, ◌∙◌, subst, arith, ◌++◌}
use Rattle.pipe_model.specs.Pipelines.Behaviour.{column_of, trace_end}
use Rattle.pipe_model.specs.Races.Dag.{AreParallel}
use Rattle.pipe_model.specs.Pipelines.Pipeline.{Pipeline}
use Rattle.pipe_model.specs.Races.DeterminacyRaces.{Among}
use Rattle.pipe_model.specs.Pipelines.SerialElision.{serial_columns, serial_accesses, located_from}
use Rattle.pipe_model.specs.Runs.State.{Frame, end_of_status, own_columns, accesses_of}
use Rattle.pipe_model.specs.Pipelines.Store.{written}
use Rattle.pipe_model.specs.declared.access.NodeAccess.{NodeAccess}
use Rattle.run_laws.proofs.Elision.ColumnOrder.{run_agrees}
use Rattle.run_laws.proofs.Elision.FinishedRuns.{IsWhole, run_has_serial_traces}
use Rattle.run_laws.proofs.Iterations.CellWrites.{written-append}
use Rattle.run_laws.proofs.Iterations.TraceParts.{trace_end_is}
use Rattle.run_laws.proofs.RunStates.FrameAccesses.{accesses_by_column}
use Rattle.run_laws.proofs.RunStates.RunAccesses.{run_located, accesses_of-located_from, among_located_frames}
use Rattle.run_laws.specs.SerialLaws.{RaceFreeRunsAreSerial}

-- whole iterations have the columns of their traces
columns_of_traces : (p : Pipeline) (i : ℕ) (fs : List Frame) → IsWhole p i fs
    → map (λ f. f.nodes) fs ≡ map column_of (map (λ f. f.trace) fs)
columns_of_traces p i [] w = absurd w
columns_of_traces p i (f ∷ fs) w =
    let one = w.0.nodes in
    let rest : map (λ (h : Frame). h.nodes) fs ≡ map column_of (map (λ (h : Frame). h.trace) fs) = elim w.1 [
      | inl end ↦ rw end.1
      | inr more ↦ columns_of_traces p (i + 1) fs more.1
    ] in
    ap (λ l. l ∷ map (λ (h : Frame). h.nodes) fs) (sym one) ∙ ap (λ l. column_of f.trace ∷ l) rest

-- they end as their traces do
ends_of_traces : (p : Pipeline) (i : ℕ) (fs : List Frame) → IsWhole p i fs
    → map (λ f. end_of_status f.status) fs ≡ map trace_end (map (λ f. f.trace) fs)
ends_of_traces p i [] w = absurd w
ends_of_traces p i (f ∷ fs) w =
    let one : end_of_status f.status ≡ trace_end f.trace =
    ap end_of_status w.0.status ∙ sym (trace_end_is f.trace w.0.end w.0.ends) in
    let rest : map (λ (h : Frame). end_of_status h.status) fs ≡ map trace_end (map (λ (h : Frame). h.trace) fs) =
    elim w.1 [
      | inl end ↦ rw end.1
      | inr more ↦ ends_of_traces p (i + 1) fs more.1
    ] in
    ap (λ l. l ∷ map (λ (h : Frame). end_of_status h.status) fs) one ∙ ap (λ l. trace_end f.trace ∷ l) rest

-- the law of runs without a race
pub race_free_runs_are_serial : RaceFreeRunsAreSerial
race_free_runs_are_serial p limit events s r closing fin free =
    let g = run_agrees r free in
    let e = run_has_serial_traces closing r fin free in
    let k = run_located r in
    let columns : own_columns s ≡ serial_columns p =
    columns_of_traces p 0 s.frames e.whole ∙ ap (λ t. map column_of t) e.traces in
    let accesses : accesses_by_column s.frames ≡ accesses_of (serial_accesses p) =
    sym (accesses_of-located_from 0 s.frames) ∙ ap (λ t. accesses_of (located_from 0 t)) e.traces in
    let own : (x : NodeAccess) → Among x (serial_accesses p) → Among x s.accesses = λ x m.
    let h = among_located_frames 0 s.frames x (subst (λ t. Among x (located_from 0 t)) (sym e.traces) m) in
    k.gathered x (record {
      place = h.0;
      frame = h.1;
      is = h.2;
      made = (
          let z : 0 + h.0 ≡ h.0 = omega arith in
          rw z at h.3);
    }) in
    record {
      columns = columns;
      ends = ends_of_traces p 0 s.frames e.whole ∙ ap (λ t. map trace_end t) e.traces;
      cells = λ c. written-append c p.preamble (accesses_of s.accesses)
          ∙ ap (λ l. written c p.preamble ++ l) (g.same c ∙ ap (λ l. written c l) accesses)
          ∙ sym (written-append c p.preamble (accesses_of (serial_accesses p)));
      free = λ a b race. free a b (record {
        first = own a race.first;
        second = own b race.second;
        conflict = race.conflict;
        parallel = subst (λ cs. AreParallel cs a.node b.node) (sym columns) race.parallel;
      });
    }
