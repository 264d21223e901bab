-- An instance that accesses later does not precede one that accesses earlier.
use Rattle.std.proofs.Common.{List, ℕ, length, ◌<◌, arith, [], ◌∷◌, ◌++◌, length-append, ◌≡◌, ◌-◌, ap, ◌+◌, inl, subst, sym, inr, cond, eqb}
use Rattle.std.proofs.Common.{refl, ◌∙◌, Bool, true, false, append-nil}
use Rattle.std.proofs.lemmas.Bool.{cases_lt}
use Rattle.std.proofs.lemmas.List.{get_or_append_left, get_or_push}
use Rattle.std.specs.declared.option.Option.TheVariants.{Some}
use Rattle.pipe_model.specs.Races.CellRaces.{NotedAccess, access_at, noted_access, accesses_to}
use Rattle.pipe_model.specs.Runs.Allowed.{ControlAllows}
use Rattle.pipe_model.specs.Pipelines.Behaviour.{Action, Accessed, Staged, Ended}
use Rattle.pipe_model.specs.Races.Columns.{at}
use Rattle.pipe_model.specs.Races.Dag.{Precedes, ByEdge, ByPath}
use Rattle.pipe_model.specs.Pipelines.Pipeline.{Pipeline}
use Rattle.pipe_model.specs.Runs.Run.{Run, EmptyRun, RunThen}
use Rattle.pipe_model.specs.Orders.Starts.{IsStarted, AreStarts, started_by, starts_of}
use Rattle.pipe_model.specs.declared.status.Status.{Status}
use Rattle.pipe_model.specs.declared.status.Status.TheVariants.{Running}
use Rattle.pipe_model.specs.Runs.State.{Frame, frame_at, State, own_columns, update_frame, with_action, next_state}
use Rattle.pipe_model.specs.declared.status.Status.TheVariants.{Pending, Completed}
use Rattle.pipe_model.specs.Runs.State.{current_index}
use Rattle.pipe_model.specs.declared.access.AccessKind.{AccessKind}
use Rattle.pipe_model.specs.declared.access.AccessKind.TheVariants.{Read}
use Rattle.pipe_model.specs.declared.access.NodeAccess.{NodeAccess}
use Rattle.pipe_model.specs.declared.event.Event.{Event}
use Rattle.pipe_model.specs.declared.event.Event.TheVariants.{Begin, Enter, Access, Advance, Finish, Stop}
use Rattle.pipe_model.specs.declared.node.Node.{Node}
use Rattle.pipe_model.specs.declared.node.NodeId.{NodeId}
use Rattle.run_laws.proofs.ListOrders.OneMoreStart.{GrowsBy, start_old}
use Rattle.run_laws.proofs.ListOrders.StartsOfRuns.{IsStartSound, grew_begin, grew_enter, starts_of_then, run_starts_sound}
use Rattle.run_laws.proofs.RunStates.Frames.{nodes_at_frame}
use Rattle.run_laws.proofs.RunStates.LaterEdges.{columns_of_frames}
use Rattle.run_laws.proofs.RunStates.RunningInstances.{running_has_no_path}
use Rattle.run_laws.proofs.RunStates.GrowingColumns.{columns-action}

-- an instance that accesses later does not precede one that accesses earlier
pub record IsInAccessOrder (columns : List (List Node)) (starts : List NodeId) (accesses : List NotedAccess) : Type
    0 where
  pub started : (k : ℕ) → k < length accesses → IsStarted starts (access_at accesses k).who
  pub calm : (n k : ℕ) → k < n → n < length accesses
      → Precedes columns (access_at accesses n).who (access_at accesses k).who → ⊥

-- a path to a started instance is an old one
path_stays_old : {columns columns' : List (List Node)} {starts : List NodeId} {z : NodeId} → AreStarts columns starts
    → GrowsBy columns columns' starts z → {x y : NodeId} → Precedes columns' x y → IsStarted starts y
    → Precedes columns x y
path_stays_old ok g {x} {y} (ByEdge e) s = ByEdge (g.old x y e s)
path_stays_old ok g {x} {y} (ByPath {y = m} p e) s =
    let e' = g.old m y e s in
    let o = ok.ordered m y e' s in
    ByPath (path_stays_old ok g p (omega (arith, o, s))) e'

-- the access order stays after a start
access_order_grown : {columns columns' : List (List Node)} {starts : List NodeId} {z : NodeId}
    (accesses : List NotedAccess)
    → AreStarts columns starts → GrowsBy columns columns' starts z → IsInAccessOrder columns starts accesses
    → IsInAccessOrder columns' (starts ++ z ∷ []) accesses
access_order_grown {starts = starts} {z = z} accesses ok g c = record {
  started = λ k l. (
      let s = c.started k l in
      let e = start_old starts z (access_at accesses k).who.iteration (access_at accesses k).who.index s in
      let n = length-append starts (z ∷ []) in
      omega (arith, s, e, n));
  calm = λ n k l w p. c.calm n k l w (path_stays_old ok g p (c.started k (omega arith)));
}

-- the access order stays after an access to the cell
access_order_accessed : (fs : List Frame) (starts : List NodeId) (accesses : List NotedAccess) (i : ℕ) (f : Frame)
    (kind : AccessKind)
    → IsStartSound fs starts → frame_at fs i ≡ Some f → f.status ≡ Running
    → IsInAccessOrder (columns_of_frames fs) starts accesses
    → IsInAccessOrder (columns_of_frames fs) starts (accesses ++ noted_access (at i (length f.nodes - 1)) kind ∷ [])
access_order_accessed fs starts accesses i f kind h is runs c =
    let columns : List (List Node) = columns_of_frames fs in
    let filled = (h.sound.well i f is).filled in
    let here = ap (λ (l : List Node). length l) (nodes_at_frame fs i f is) in
    let x : NodeId = at i (length f.nodes - 1) in
    let long : length (accesses ++ noted_access x kind ∷ []) ≡ length accesses + 1 =
    length-append accesses (noted_access x kind ∷ []) in
    let old : (k : ℕ) → k < length accesses
    → access_at (accesses ++ noted_access x kind ∷ []) k ≡ access_at accesses k =
    λ k w. get_or_append_left accesses (noted_access x kind ∷ []) (noted_access (at 0 0) Read) k w in
    let new : (k : ℕ) → length accesses ≡ k
    → access_at (accesses ++ noted_access x kind ∷ []) k ≡ noted_access x kind =
    λ k e. get_or_push accesses (noted_access x kind) (noted_access (at 0 0) Read) k e in
    record {
      started = λ k w. elim (cases_lt k (length accesses)) [
        | inl less ↦ subst (λ (a : NotedAccess). IsStarted starts a.who) (sym (old k less)) (c.started k less)
        | inr ge ↦ subst (λ (a : NotedAccess). IsStarted starts a.who) (sym (new k (omega (arith, long, w))))
            (h.all i (length f.nodes - 1) (omega (arith, filled, here)))
      ];
      calm = λ n k w v p. (
          let k_old : k < length accesses = omega (arith, long, w, v) in
          let p' : Precedes columns (access_at (accesses ++ noted_access x kind ∷ []) n).who
          (access_at accesses k).who =
          subst (λ (a : NotedAccess). Precedes columns (access_at (accesses ++ noted_access x kind ∷ []) n).who a.who)
          (old k k_old) p in
          elim (cases_lt n (length accesses)) [
            | inl less ↦ c.calm n k w less (subst
                (λ (a : NotedAccess). Precedes columns a.who (access_at accesses k).who) (old n less) p')
            | inr ge ↦ running_has_no_path fs f x (access_at accesses k).who h.sound is runs (omega (arith, filled))
                (subst (λ (a : NotedAccess). Precedes columns a.who (access_at accesses k).who)
                (new n (omega (arith, long, v))) p')
          ]);
    }

-- the accesses to a cell after one more
accesses_to-push : (cell : ℕ) (xs : List NodeAccess) (m : NodeAccess)
    → accesses_to cell (xs ++ m ∷ []) ≡ cond (eqb m.access.cell.0 cell)
    (accesses_to cell xs ++ noted_access m.node m.access.kind ∷ []) (accesses_to cell xs)
accesses_to-push cell [] m = refl
accesses_to-push cell (x ∷ xs) m =
    ap (λ r. cond (eqb x.access.cell.0 cell) (noted_access x.node x.access.kind ∷ r) r) (accesses_to-push cell xs m)
    ∙ both (eqb x.access.cell.0 cell) (eqb m.access.cell.0 cell)
  where
    both : (a b : Bool)
        → cond a (noted_access x.node x.access.kind
        ∷ cond b (accesses_to cell xs ++ noted_access m.node m.access.kind ∷ []) (accesses_to cell xs))
        (cond b (accesses_to cell xs ++ noted_access m.node m.access.kind ∷ []) (accesses_to cell xs))
        ≡ cond b (cond a (noted_access x.node x.access.kind ∷ accesses_to cell xs) (accesses_to cell xs)
        ++ noted_access m.node m.access.kind ∷ [])
        (cond a (noted_access x.node x.access.kind ∷ accesses_to cell xs) (accesses_to cell xs))
    both true true = refl
    both true false = refl
    both false true = refl
    both false false = refl

-- the access order stays, whether an access is to the cell or not
access_order_if : (columns : List (List Node)) (starts : List NodeId) (old new : List NotedAccess) (t : Bool)
    → IsInAccessOrder columns starts old → IsInAccessOrder columns starts new
    → IsInAccessOrder columns starts (cond t new old)
access_order_if columns starts old new true a b = b
access_order_if columns starts old new false a b = a

-- the access order stays after an action that is not an access to the cell
access_order_action : (s : State) (i : ℕ) (x : Action) (w : Status) (starts : List NodeId)
    (accesses : List NotedAccess)
    → IsInAccessOrder (own_columns s) starts accesses
    → IsInAccessOrder (columns_of_frames (update_frame s.frames i (with_action x w))) (starts ++ []) accesses
access_order_action s i x w starts accesses k =
    rw append-nil (subst (λ l. IsInAccessOrder l starts accesses) (sym (columns-action s.frames i x w)) k)

-- the access order stays after every event
access_order_step : (limit : ℕ) (s : State) (e : Event) (starts : List NodeId) (cell : ℕ) → ControlAllows limit s e
    → IsStartSound s.frames starts → IsInAccessOrder (own_columns s) starts (accesses_to cell s.accesses)
    → IsInAccessOrder (own_columns (next_state s e)) (starts ++ started_by s e)
    (accesses_to cell (next_state s e).accesses)
access_order_step limit s (Begin i) starts cell may h k =
    access_order_grown (accesses_to cell s.accesses) h.ordered (grew_begin limit s i starts may h).by k
access_order_step limit s (Enter i) starts cell may h k =
    access_order_grown (accesses_to cell s.accesses) h.ordered (grew_enter s i starts may h).by k
access_order_step limit s (Access i a) starts cell may h k =
    let index : current_index (frame_at s.frames i) ≡ length may.frame.nodes - 1 = ap current_index may.is in
    let x : NotedAccess = noted_access (at i (current_index (frame_at s.frames i))) a.kind in
    let new : IsInAccessOrder (own_columns s) starts (accesses_to cell s.accesses ++ x ∷ []) =
    subst (λ n. IsInAccessOrder (own_columns s) starts
    (accesses_to cell s.accesses ++ noted_access (at i n) a.kind ∷ [])) (sym index)
    (access_order_accessed s.frames starts (accesses_to cell s.accesses) i may.frame a.kind h may.is may.runs k) in
    access_order_action s i (Accessed a) Running starts (accesses_to cell (next_state s (Access i a)).accesses)
    (subst (IsInAccessOrder (own_columns s) starts)
    (sym (accesses_to-push cell s.accesses
    (record { node = at i (current_index (frame_at s.frames i)); access = a })))
    (access_order_if (own_columns s) starts (accesses_to cell s.accesses) (accesses_to cell s.accesses ++ x ∷ [])
    (eqb a.cell.0 cell) k new))
access_order_step limit s (Advance i kind n) starts cell may h k =
    access_order_action s i (Staged kind n) (Pending kind n) starts (accesses_to cell s.accesses) k
access_order_step limit s (Finish i e) starts cell may h k =
    access_order_action s i (Ended e) (Completed e) starts (accesses_to cell s.accesses) k
access_order_step limit s Stop starts cell may h k = rw append-nil k

-- in every run the accesses to a cell are in access order
pub run_access_order : {p : Pipeline} {limit : ℕ} {events : List Event} {s : State} (cell : ℕ) → Run p limit events s
    → IsInAccessOrder (own_columns s) (starts_of events) (accesses_to cell s.accesses)
run_access_order cell EmptyRun = record {
  started = λ k l. absurd (omega arith);
  calm = λ n k l w. absurd (omega arith);
}
run_access_order {limit = limit} cell (RunThen {events = es} {s = s} r e h) =
    subst (λ l. IsInAccessOrder (own_columns (next_state s e)) l (accesses_to cell (next_state s e).accesses))
    (sym (starts_of_then r e)) (access_order_step limit s e (starts_of es) cell h.control (run_starts_sound r)
    (run_access_order cell r))
