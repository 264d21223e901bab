-- In a run without a race the reads have the replies of the iterations one after the other, and the same values are written
-- to the cells.
use Rattle.std.proofs.Common.{ℕ, ◌≡◌, List, ap, ◌∙◌, append-nil, [], ◌∷◌, ◌++◌, refl, Some, sym, ◌+◌, arith, inl, inr, append_assoc, subst}
use Rattle.std.proofs.lemmas.List.{map-append}
use Rattle.std.proofs.lemmas.List.Concat.{flat_map-append}
use Rattle.pipe_model.specs.Runs.Allowed.{IsRunning, Allowed}
use Rattle.pipe_model.specs.Pipelines.Behaviour.{accesses_in, Accessed}
use Rattle.pipe_model.specs.Races.Columns.{at}
use Rattle.pipe_model.specs.Pipelines.Pipeline.{Pipeline}
use Rattle.pipe_model.specs.Races.DeterminacyRaces.{IsRaceFree, Among, Conflict, Here}
use Rattle.pipe_model.specs.Runs.Run.{Run, EmptyRun, RunThen}
use Rattle.pipe_model.specs.declared.status.Status.TheVariants.{Running}
use Rattle.pipe_model.specs.Runs.State.{State, accesses_of, Frame, next_state, fresh_frame, update_frame, with_action, own_columns}
use Rattle.pipe_model.specs.Runs.State.{frame_at}
use Rattle.pipe_model.specs.Pipelines.Store.{written, HasReply, value_from, wrote}
use Rattle.run_laws.proofs.Iterations.Replies.{AllHaveReplies}
use Rattle.pipe_model.specs.declared.access.Access.{Access as Cell_access}
use Rattle.pipe_model.specs.declared.access.NodeAccess.{NodeAccess}
use Rattle.pipe_model.specs.declared.event.Event.{Event}
use Rattle.pipe_model.specs.declared.event.Event.TheVariants.{Begin, Access, Advance, Enter, Finish, Stop}
use Rattle.run_laws.proofs.Iterations.CellWrites.{written_none, no_conflict_writes_none, written-append, replies_insert, written-push}
use Rattle.run_laws.proofs.Iterations.CellWrites.{written_either_order}
use Rattle.run_laws.proofs.Iterations.TraceParts.{accesses_in-append}
use Rattle.run_laws.proofs.RunStates.FrameAccesses.{accesses_by_column, accesses_by_column-update_frame, in_frame}
use Rattle.run_laws.proofs.RunStates.FrameAccesses.{accesses_by_column-parted}
use Rattle.run_laws.proofs.RunStates.Frames.{IsParted, parted}
use Rattle.pipe_model.proofs.Members.{among_right, among_left}
use Rattle.run_laws.proofs.RunStates.QuietEvents.{IsQuiet, advance_is_quiet, enter_is_quiet, finish_is_quiet}
use Rattle.run_laws.proofs.RunStates.RunInvariant.{IsConsistent, access_by, current_index_last, run_consistent, race_stays}
use Rattle.run_laws.proofs.RunStates.RunningInstances.{running_is_parallel}
use Rattle.run_laws.proofs.RunStates.GrowingColumns.{columns-action}

-- the accesses column by column have their replies, and write to each cell what the run wrote
pub record AgreesByColumn (p : Pipeline) (s : State) : Type 0 where
  pub replies : AllHaveReplies p p.preamble (accesses_by_column s.frames)
  pub same : (c : ℕ) → written c (accesses_of s.accesses) ≡ written c (accesses_by_column s.frames)

-- an event that makes no access keeps both
quiet_agrees : (p : Pipeline) (s : State) (fs : List Frame) → IsQuiet s fs → AgreesByColumn p s
    → AgreesByColumn p (record s { frames = fs })
quiet_agrees p s fs q g =
    let e : accesses_by_column fs ≡ accesses_by_column s.frames =
    ap accesses_by_column q.result ∙ accesses_by_column-update_frame s.frames q.place q.frame q.update q.is q.quiet in
    record { replies = rw e g.replies; same = λ c. rw e (g.same c) }

-- the beginning of an iteration keeps both
begun_agrees : (p : Pipeline) (s : State) (i : ℕ) → AgreesByColumn p s → AgreesByColumn p (next_state s (Begin i))
begun_agrees p s i g =
    let e : accesses_by_column (s.frames ++ fresh_frame ∷ []) ≡ accesses_by_column s.frames =
    flat_map-append (λ (h : Frame). accesses_in h.trace) s.frames (fresh_frame ∷ [])
    ∙ append-nil (accesses_by_column s.frames) in
    record { replies = rw e g.replies; same = λ c. rw e (g.same c) }

-- without a race, no access that was made further to the right conflicts
no_conflict_right : (s : State) (i : ℕ) (a : Cell_access) → IsConsistent s → (r : IsRunning s i)
    → IsRaceFree (own_columns (next_state s (Access i a))) (next_state s (Access i a)).accesses
    → (h : IsParted s.frames i r.frame (with_action (Accessed a) Running)) → (b : Cell_access)
    → Among b (accesses_by_column h.right) → Conflict a b → ⊥
no_conflict_right s i a k r free h b m c =
    let x = access_by s i a in
    let q = in_frame h.right b m in
    let is : frame_at s.frames (i + 1 + q.place) ≡ Some q.frame = sym (h.later q.place) ∙ q.is in
    let held = k.held (i + 1 + q.place) q.frame b is q.made in
    let y : NodeAccess = record { node = at (i + 1 + q.place) held.index; access = b } in
    free x y (record {
      first = among_right x s.accesses (x ∷ []) Here;
      second = among_left y s.accesses (x ∷ []) held.made;
      conflict = c;
      parallel = rw (columns-action s.frames i (Accessed a) Running)
          (running_is_parallel s.frames r.frame x.node y.node k.sound r.is r.runs (current_index_last s i a k r)
          (omega arith));
    })

-- a conflict is symmetric
conflict_sym : (a b : Cell_access) → Conflict a b → Conflict b a
conflict_sym a b c = record { same = sym c.same; one = elim c.one [ inl l ↦ inr l | inr r ↦ inl r ] }

-- an access that does not race keeps both: it may be moved to the end of its iteration's accesses
access_agrees : (p : Pipeline) (s : State) (i : ℕ) (a : Cell_access) → IsConsistent s → IsRunning s i
    → HasReply p.store (p.preamble ++ accesses_of s.accesses) a
    → IsRaceFree (own_columns (next_state s (Access i a))) (next_state s (Access i a)).accesses → AgreesByColumn p s
    → AgreesByColumn p (next_state s (Access i a))
access_agrees p s i a k r reply free g =
    let h = parted s.frames i r.frame (with_action (Accessed a) Running) r.is in
    let front = accesses_by_column h.left ++ accesses_in r.frame.trace in
    let rest = accesses_by_column h.right in
    let apart = no_conflict_right s i a k r free h in
    let before : accesses_by_column s.frames ≡ front ++ rest =
    accesses_by_column-parted s.frames h.left r.frame h.right h.is
    ∙ sym (append_assoc (accesses_by_column h.left) (accesses_in r.frame.trace) rest) in
    let now : accesses_by_column (update_frame s.frames i (with_action (Accessed a) Running)) ≡ front ++ a ∷ rest =
    accesses_by_column-parted (update_frame s.frames i (with_action (Accessed a) Running)) h.left
    (with_action (Accessed a) Running r.frame) h.right h.updated
    ∙ ap (λ l. accesses_by_column h.left ++ (l ++ rest)) (accesses_in-append r.frame.trace (Accessed a ∷ []))
    ∙ ap (λ l. accesses_by_column h.left ++ l) (append_assoc (accesses_in r.frame.trace) (a ∷ []) rest)
    ∙ sym (append_assoc (accesses_by_column h.left) (accesses_in r.frame.trace) (a ∷ rest)) in
    let none : written a.cell.0 rest ≡ [] =
    written_none a.cell.0 rest (λ b m. no_conflict_writes_none a b (apart b m)) in
    let split : (c : ℕ) → written c (accesses_of s.accesses) ≡ written c front ++ written c rest =
    λ c. g.same c ∙ ap (λ l. written c l) before ∙ written-append c front rest in
    record {
      replies = rw now (replies_insert p p.preamble front rest a
          (subst (λ l. AllHaveReplies p p.preamble l) before g.replies)
          (λ read. reply read ∙ ap (value_from p.store a.cell.0) (
          written-append a.cell.0 p.preamble (accesses_of s.accesses)
          ∙ ap (λ l. written a.cell.0 p.preamble ++ l) (split a.cell.0 ∙ ap (λ l. written a.cell.0 front ++ l) none
          ∙ append-nil (written a.cell.0 front))
          ∙ sym (written-append a.cell.0 p.preamble front)))
          (λ b m read. no_conflict_writes_none b a (λ c. apart b m (conflict_sym b a c))));
      same = λ c. ap (λ l. written c l) (map-append (λ (n : NodeAccess). n.access) s.accesses (access_by s i a ∷ []))
          ∙ written-push c (accesses_of s.accesses) a
          ∙ ap (λ l. l ++ wrote c a) (split c)
          ∙ written_either_order c front rest a (λ e. subst (λ n. written n rest ≡ []) e none)
          ∙ sym (written-append c front (a ∷ rest))
          ∙ sym (ap (λ l. written c l) now);
    }

-- every event that adds no race keeps both
agrees_after : (p : Pipeline) (limit : ℕ) (s : State) (e : Event) → Allowed p limit s e → IsConsistent s
    → IsRaceFree (own_columns (next_state s e)) (next_state s e).accesses → AgreesByColumn p s
    → AgreesByColumn p (next_state s e)
agrees_after p limit s (Begin i) h k free g = begun_agrees p s i g
agrees_after p limit s (Access i a) h k free g = access_agrees p s i a k h.control h.program.1 free g
agrees_after p limit s (Advance i kind n) h k free g =
    let r = quiet_agrees p s (next_state s (Advance i kind n)).frames (advance_is_quiet s i kind n h.control) g in
    record { replies = r.replies; same = r.same }
agrees_after p limit s (Enter i) h k free g =
    let r = quiet_agrees p s (next_state s (Enter i)).frames (enter_is_quiet s i h.control) g in
    record { replies = r.replies; same = r.same }
agrees_after p limit s (Finish i e) h k free g =
    let r = quiet_agrees p s (next_state s (Finish i e)).frames (finish_is_quiet s i e h.control) g in
    record { replies = r.replies; same = r.same }
agrees_after p limit s Stop h k free g = record { replies = g.replies; same = g.same }

-- every run without a race agrees with the order by columns
pub run_agrees : {p : Pipeline} {limit : ℕ} {events : List Event} {s : State} → Run p limit events s
    → IsRaceFree (own_columns s) s.accesses → AgreesByColumn p s
run_agrees {p} EmptyRun free = record { replies = tt; same = λ c. refl }
run_agrees {p} {limit} (RunThen {s = t} r e h) free =
    agrees_after p limit t e h (run_consistent r) free
    (run_agrees r (race_stays p limit t e h (run_consistent r) free))
