-- A run with one more event that the control part allows.
use Rattle.std.proofs.Common.{◌≡◌, ◌≢◌, ◌∙◌, refl, pos, sym, ap, ap₂, subst, ℕ, ℤ, zero, suc, ◌-◌, ◌<◌, ◌≤◌, ◌<ℤ◌, List, [], ◌∷◌, ◌++◌}
use Rattle.std.proofs.Common.{length, map, get_or, set, arith, false, cond, Some}
use Rattle.std.proofs.lemmas.List.{get_or-map, get_or_default, length-map, length_push, length-set, map-append}
use Rattle.order_2d.proofs.EventsSoFar.{without-append}
use Rattle.order_tests.specs.Plays.{IsPlayed, statuses_of}
use Rattle.pipe_model.specs.declared.column.Column.{Column}
use Rattle.pipe_model.specs.declared.column.ColumnEnd.{ColumnEnd}
use Rattle.pipe_model.specs.declared.column.ColumnEnd.TheVariants.{Closed}
use Rattle.pipe_model.specs.declared.event.Event.{Event}
use Rattle.pipe_model.specs.declared.event.Event.TheVariants.{Begin, Advance, Enter, Finish}
use Rattle.pipe_model.specs.declared.node.Kind.{Kind}
use Rattle.pipe_model.specs.declared.node.Kind.TheVariants.{Zero, Wait}
use Rattle.pipe_model.specs.declared.node.Node.{Node}
use Rattle.pipe_model.specs.declared.status.Status.{Status}
use Rattle.pipe_model.specs.declared.status.Status.TheVariants.{Running, Pending, Completed}
use Rattle.pipe_model.specs.Pipelines.Behaviour.{Action, Staged, Ended, node_of}
use Rattle.pipe_model.specs.Races.Columns.{node_at, nodes_at, node_columns}
use Rattle.pipe_model.specs.Runs.Allowed.{ContinuesLoop, ControlAllows, HasPassed, LeftHasPassed, MayBegin}
use Rattle.pipe_model.specs.Runs.ControlParts.{control_after, control_from, next_control}
use Rattle.pipe_model.specs.Runs.ControlRun.{ControlRun, ControlRunThen, EmptyControlRun, is_access}
use Rattle.pipe_model.specs.Runs.State.{Frame, State, alive_in, alive_one, enter_pending, frame_at, fresh_frame, initial_state, next_state}
use Rattle.pipe_model.specs.Runs.State.{own_columns, update_frame, with_action}
use Rattle.run_laws.proofs.RunStates.FrameMoves.{enter_pending_is}
use Rattle.run_laws.proofs.RunStates.Frames.{frame_at_exists, nodes_at_frame}
use Rattle.run_laws.proofs.RunStates.GrowingColumns.{columns-action}

abbrev statuses : List Frame → List Status
statuses fs = map (λ (f : Frame). f.status) fs

abbrev columns_of : List Frame → List (List Node)
columns_of fs = map (λ (f : Frame). f.nodes) fs

-- ---- the frames after an event

statuses-action : (fs : List Frame) (i : ℕ) (x : Action) (w : Status) → statuses (update_frame fs i (with_action x w)) ≡ set
    (statuses fs) i w
statuses-action [] i x w = refl
statuses-action (f ∷ fs) zero x w = refl
statuses-action (f ∷ fs) (suc i) x w = ap (λ l. f.status ∷ l) (statuses-action fs i x w)

statuses-entered : (fs : List Frame) (i : ℕ) (f : Frame) (k : Kind) (n : ℤ) → frame_at fs i ≡ Some f → f.status ≡ Pending k n
    → statuses (update_frame fs i (λ g. enter_pending g.status g)) ≡ set (statuses fs) i Running
statuses-entered [] i f k n is named = absurd (cc)
statuses-entered (g ∷ fs) zero f k n is named =
    let same : g ≡ f = cc in
    let status : g.status ≡ Pending k n = ap (λ (h : Frame). h.status) same ∙ named in
    ap (λ (h : Frame). h.status ∷ statuses fs) (enter_pending_is g k n status)
statuses-entered (g ∷ fs) (suc i) f k n is named = ap (λ l. g.status ∷ l) (statuses-entered fs i f k n is named)

columns-entered : (fs : List Frame) (i : ℕ) (f : Frame) (k : Kind) (n : ℤ) → frame_at fs i ≡ Some f → f.status ≡ Pending k n
    → columns_of (update_frame fs i (λ g. enter_pending g.status g))
    ≡ set (columns_of fs) i (nodes_at (columns_of fs) i ++ node_of k n ∷ [])
columns-entered [] i f k n is named = absurd (cc)
columns-entered (g ∷ fs) zero f k n is named =
    let same : g ≡ f = cc in
    let status : g.status ≡ Pending k n = ap (λ (h : Frame). h.status) same ∙ named in
    ap (λ (h : Frame). h.nodes ∷ columns_of fs) (enter_pending_is g k n status)
columns-entered (g ∷ fs) (suc i) f k n is named = ap (λ l. g.nodes ∷ l) (columns-entered fs i f k n is named)

few_alive : (fs : List Frame) → alive_in fs ≤ length fs
few_alive [] = omega arith
few_alive (f ∷ fs) = let rest = few_alive fs in let one = at_most_one f.status in omega (arith, rest, one)
  where
    at_most_one : (w : Status) → alive_one w ≤ 1
    at_most_one Running = omega arith
    at_most_one (Pending k n) = omega arith
    at_most_one (Completed e) = omega arith

-- ---- one more event

control-push : (c : State) (es : List Event) (e : Event) → control_from c (es ++ e ∷ []) ≡ next_control (control_from c es) e
control-push c [] e = refl
control-push c (x ∷ es) e = control-push (next_control c x) es e

-- an event that the control part allows, with the columns and statuses that it makes
played_on : {limit : ℕ} {events : List Event} {columns : List Column} {before : List Status} → IsPlayed limit events columns before
    → (e : Event) → is_access e ≡ false → ControlAllows limit (control_after events) e
    → (next_state (control_after events) e).stopped ≡ (control_after events).stopped
    → (more : List Column) (after : List Status)
    → node_columns more ≡ own_columns (next_state (control_after events) e)
    → after ≡ statuses_of (next_state (control_after events) e) → length after ≡ length more
    → IsPlayed limit (events ++ e ∷ []) more after
played_on {limit} {events} h e quiet may still more after made stand same =
    let s : State = control_after events in
    let next : control_after (events ++ e ∷ []) ≡ next_state s e =
    control-push initial_state events e ∙ ap (λ b. cond b s (next_state s e)) quiet in
    record {
      run = subst (λ c. ControlRun limit (events ++ e ∷ []) c) (sym next) (ControlRunThen h.run e quiet h.not_stopped may);
      no_accesses = without-append events (e ∷ [])
          ∙ ap₂ (λ (l m : List Event). l ++ m) h.no_accesses (ap (λ b. cond b [] (e ∷ [])) quiet);
      not_stopped = ap (λ (c : State). c.stopped) next ∙ (still ∙ h.not_stopped);
      columns_are = made ∙ ap own_columns (sym next);
      statuses_are = stand ∙ ap statuses_of (sym next);
      same_length = same;
    }

-- ---- the frame of an iteration

record HasFrame (fs : List Frame) (i : ℕ) (nodes : List Node) (status : Status) : Type 0 where
  frame : Frame
  is : frame_at fs i ≡ Some frame
  has_nodes : frame.nodes ≡ nodes
  has_status : frame.status ≡ status

status_at_frame : (fs : List Frame) (i : ℕ) (f : Frame) → frame_at fs i ≡ Some f → get_or (statuses fs) i Running ≡ f.status
status_at_frame [] i f e = absurd (cc)
status_at_frame (x ∷ fs) zero f e = let same : x ≡ f = cc in ap (λ (y : Frame). y.status) same
status_at_frame (x ∷ fs) (suc i) f e = status_at_frame fs i f e

has_frame : {limit : ℕ} {events : List Event} {columns : List Column} {before : List Status} → IsPlayed limit events columns before
    → (i : ℕ) → i < length columns
    → HasFrame (control_after events).frames i (nodes_at (node_columns columns) i) (get_or before i Running)
has_frame {events = es} {columns = cs} h i l =
    let fs : List Frame = (control_after es).frames in
    let wide = length-map cs (λ (c : Column). c.nodes) in
    let long = ap (λ (x : List (List Node)). length x) h.columns_are in
    let same = length-map fs (λ (f : Frame). f.nodes) in
    let f = frame_at_exists fs i (omega (arith, l, wide, long, same)) in
    record {
      frame = f.0;
      is = f.1;
      has_nodes = sym (ap (λ (x : List (List Node)). nodes_at x i) h.columns_are ∙ nodes_at_frame fs i f.0 f.1);
      has_status = sym (ap (λ (x : List Status). get_or x i Running) h.statuses_are ∙ status_at_frame fs i f.0 f.1);
    }

-- ---- reads of columns and statuses

pub column_nodes : (columns : List Column) (i : ℕ) (x : Column) → i < length columns → x ≡ get_or columns i x
    → nodes_at (node_columns columns) i ≡ x.nodes
column_nodes columns i x l is =
    get_or-map (λ (c : Column). c.nodes) columns i x [] l ∙ ap (λ (c : Column). c.nodes) (sym is)

pub status_is : (all : List Status) (i : ℕ) (x : Status) → i < length all → x ≡ get_or all i x → get_or all i Running ≡ x
status_is all i x l is = get_or_default all i Running x l ∙ sym is

-- ---- the events

module _ {limit : ℕ} {events : List Event} {columns : List Column} {before : List Status} (h : IsPlayed limit events columns before) where
  abbrev pub s : State
  s = control_after events

  wide : length columns ≡ length s.frames
  wide =
      let columns_long = length-map columns (λ (c : Column). c.nodes) in
      let made = ap (λ (x : List (List Node)). length x) h.columns_are in
      let frames_long = length-map s.frames (λ (f : Frame). f.nodes) in
      omega (arith, columns_long, made, frames_long)

  -- the next iteration may begin
  pub begins_first : length columns ≡ 0 → 0 < limit → MayBegin limit s (length columns)
  begins_first none some = record {
    number = wide;
    room = (let bounded = few_alive s.frames in omega (arith, bounded, none, some, wide));
    follows = λ j f e is. absurd (omega (arith, none, e));
  }

  pub begins_next : (j : ℕ) → length columns ≡ suc j → length columns < limit
      → ContinuesLoop (get_or before j Running) (nodes_at (node_columns columns) j) → MayBegin limit s (length columns)
  begins_next j next some goes = record {
    number = wide;
    room = (let bounded = few_alive s.frames in omega (arith, bounded, some, wide));
    follows = λ k f e is. (
        let same : j ≡ k = omega (arith, next, e) in
        let here = has_frame h j (omega (arith, next)) in
        let frame : f ≡ here.frame = (
        let at : frame_at s.frames j ≡ Some f = subst (λ n. frame_at s.frames n ≡ Some f) (sym same) is in
        let both : Some f ≡ Some here.frame = sym at ∙ here.is in
        cc) in
        subst (λ (g : Frame). ContinuesLoop g.status g.nodes) (sym frame)
        (subst (λ w. ContinuesLoop w here.frame.nodes) (sym here.has_status)
        (subst (λ (x : List Node). ContinuesLoop (get_or before j Running) x) (sym here.has_nodes) goes)));
  }

  pub begun : (new : Column) → new.nodes ≡ node_of Zero (pos 0) ∷ [] → MayBegin limit s (length columns)
      → IsPlayed limit (events ++ Begin (length columns) ∷ []) (columns ++ new ∷ []) (before ++ Running ∷ [])
  begun new first may =
      let longer = length_push columns new in
      let stand = length_push before Running in
      let same = h.same_length in
      played_on h (Begin (length columns)) refl may refl (columns ++ new ∷ []) (before ++ Running ∷ [])
      (map-append (λ (c : Column). c.nodes) columns (new ∷ [])
      ∙ (ap₂ (λ (x : List (List Node)) (y : List Node). x ++ y ∷ []) h.columns_are first
      ∙ sym (map-append (λ (f : Frame). f.nodes) s.frames (fresh_frame ∷ []))))
      (ap (λ (x : List Status). x ++ Running ∷ []) h.statuses_are ∙ sym (map-append (λ (f : Frame). f.status) s.frames (fresh_frame ∷ [])))
      (omega (arith, longer, stand, same))

  module _ (i : ℕ) (inside : i < length columns) where
    pub advanced : (kind : Kind) (number : ℤ) → get_or before i Running ≡ Running → kind ≢ Zero
        → (node_at (nodes_at (node_columns columns) i) (length (nodes_at (node_columns columns) i) - 1)).number <ℤ number
        → IsPlayed limit (events ++ Advance i kind number ∷ []) columns (set before i (Pending kind number))
    advanced kind number runs named up =
        let here = has_frame h i inside in
        let stand = length-set before i (Pending kind number) in
        let same = h.same_length in
        played_on h (Advance i kind number) refl
        (record {
          running = record { frame = here.frame; is = here.is; runs = here.has_status ∙ runs };
          kind = named;
          above = subst (λ (x : List Node). (node_at x (length x - 1)).number <ℤ number) (sym here.has_nodes) up;
        })
        refl columns (set before i (Pending kind number))
        (h.columns_are ∙ sym (columns-action s.frames i (Staged kind number) (Pending kind number)))
        (ap (λ (x : List Status). set x i (Pending kind number)) h.statuses_are
        ∙ sym (statuses-action s.frames i (Staged kind number) (Pending kind number)))
        (omega (arith, stand, same))

    pub iteration_ended : (end : ColumnEnd) (more : List Column) → get_or before i Running ≡ Running
        → (end ≡ Closed → length (nodes_at (node_columns columns) i) ≡ 1)
        → node_columns more ≡ node_columns columns → length more ≡ length columns
        → IsPlayed limit (events ++ Finish i end ∷ []) more (set before i (Completed end))
    iteration_ended end more runs first nodes long =
        let here = has_frame h i inside in
        let stand = length-set before i (Completed end) in
        let same = h.same_length in
        played_on h (Finish i end) refl
        (record {
          running = record { frame = here.frame; is = here.is; runs = here.has_status ∙ runs };
          first = subst (λ (x : List Node). end ≡ Closed → length x ≡ 1) (sym here.has_nodes) first;
        })
        refl more (set before i (Completed end))
        (nodes ∙ (h.columns_are ∙ sym (columns-action s.frames i (Ended end) (Completed end))))
        (ap (λ (x : List Status). set x i (Completed end)) h.statuses_are ∙ sym (statuses-action s.frames i (Ended end) (Completed end)))
        (omega (arith, stand, same, long))

    -- the left neighbour has passed a number
    pub left_passed : (j : ℕ) (number : ℤ) → i ≡ suc j
        → HasPassed (get_or before j Running) (nodes_at (node_columns columns) j) number → LeftHasPassed s.frames i number
    left_passed j number e passed =
        subst (λ n. LeftHasPassed s.frames n number) (sym e) (λ f is. (
        let here = has_frame h j (omega (arith, inside, e)) in
        let frame : f ≡ here.frame = (let both : Some f ≡ Some here.frame = sym is ∙ here.is in cc) in
        subst (λ (g : Frame). HasPassed g.status g.nodes number) (sym frame)
        (subst (λ w. HasPassed w here.frame.nodes number) (sym here.has_status)
        (subst (λ (x : List Node). HasPassed (get_or before j Running) x number) (sym here.has_nodes) passed))))

    pub entered : (kind : Kind) (number : ℤ) (more : List Column) → get_or before i Running ≡ Pending kind number
        → (kind ≡ Wait → LeftHasPassed s.frames i number)
        → node_columns more ≡ set (node_columns columns) i (nodes_at (node_columns columns) i ++ node_of kind number ∷ [])
        → length more ≡ length columns
        → IsPlayed limit (events ++ Enter i ∷ []) more (set before i Running)
    entered kind number more named free nodes long =
        let here = has_frame h i inside in
        let stand = length-set before i Running in
        let same = h.same_length in
        let status = here.has_status ∙ named in
        played_on h (Enter i) refl
        (record { frame = here.frame; kind = kind; number = number; is = here.is; named = status; free = free })
        refl more (set before i Running)
        (nodes ∙ (ap (λ (x : List (List Node)). set x i (nodes_at x i ++ node_of kind number ∷ [])) h.columns_are
        ∙ sym (columns-entered s.frames i here.frame kind number here.is status)))
        (ap (λ (x : List Status). set x i Running) h.statuses_are ∙ sym (statuses-entered s.frames i here.frame kind number here.is status))
        (omega (arith, stand, same, long))

-- ---- the beginning and the end

pub nothing_played : (limit : ℕ) (events : List Event) (columns : List Column) (before : List Status) → events ≡ [] → columns ≡ []
    → before ≡ []
    → IsPlayed limit events columns before
nothing_played limit events columns before none no_columns no_statuses =
    subst (λ es. IsPlayed limit es columns before) (sym none)
    (subst (λ cs. IsPlayed limit [] cs before) (sym no_columns)
    (subst (λ ss. IsPlayed limit [] [] ss) (sym no_statuses)
    (record {
      run = EmptyControlRun;
      no_accesses = refl;
      not_stopped = refl;
      columns_are = refl;
      statuses_are = refl;
      same_length =
          refl;
    })))
