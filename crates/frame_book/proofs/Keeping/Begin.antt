-- The beginning of an iteration keeps the tables.
use Rattle.std.proofs.Common.{◌≡◌, ◌≢◌, ℕ, ℤ, zero, suc, pos, ◌+◌, ◌-◌, ◌*◌, ◌^◌, ◌<◌, ◌≤◌, ◌↔◌, max, List, [], ◌∷◌, ◌++◌, length, map}
use Rattle.std.proofs.Common.{get_or, refl, ap, sym, ◌∙◌, arith, subst, Bool, true, false, not, Option, Some, None, inl, inr, append-nil}
use Rattle.std.proofs.Common.{All}
use Rattle.std.proofs.lemmas.Bool.{cases_eq, cases_lt}
use Rattle.std.proofs.lemmas.List.{map-append, length_push, length-map, get_or_append_left, get_or_push, get_or_past, length-append}
use Rattle.std.proofs.lemmas.List.Elements.{All-pop}
use Rattle.order_2d.specs.OrderPairs.{OrderPair, with_start, marks_after, down_taken, right_taken, HasRoom, AreInserted}
use Rattle.pipe_model.specs.declared.event.Event.{Event}
use Rattle.pipe_model.specs.declared.event.Event.TheVariants.{Begin}
use Rattle.pipe_model.specs.declared.marks.Marks.{Marks}
use Rattle.pipe_model.specs.declared.node.Node.{Node}
use Rattle.pipe_model.specs.declared.node.NodeId.{NodeId}
use Rattle.pipe_model.specs.declared.ticket.Entry.{Entry}
use Rattle.pipe_model.specs.Runs.Allowed.{MayBegin, LeftHasPassed, ClosesLoop, IsClosed, LastEndedFirstInstance}
use Rattle.pipe_model.specs.Pipelines.Behaviour.{Performs}
use Rattle.pipe_model.specs.Races.Columns.{nodes_at, at}
use Rattle.pipe_model.specs.Runs.ControlRun.{ControlRunThen}
use Rattle.pipe_model.specs.Pipelines.Pipeline.{Pipeline}
use Rattle.pipe_model.specs.Language.Programs.{pipeline_of}
use Rattle.pipe_model.specs.Runs.RunLogs.{state_after}
use Rattle.pipe_model.specs.Orders.OrderMarks.{instance_marks}
use Rattle.pipe_model.specs.Orders.Starts.{starts_of, start_number}
use Rattle.pipe_model.specs.Runs.State.{State, Frame, fresh_frame, frame_at, next_state, own_columns, alive_in}
use Rattle.pipe_model.specs.declared.status.Status.TheVariants.{Running}
use Rattle.pipe_model.specs.Language.SyntaxTree.{SyntaxTree, tree_of}
use Rattle.pipe_model.specs.Runs.TicketLogs.{end_actions, laid_traces}
use Rattle.pipe_model.specs.Orders.TwoOrders.{down_first_taken, right_first_taken}
use Rattle.pipe_frame.specs.RunningTokens.{left_joined}
use Rattle.pipe_frame.specs.Ties.{Tie, BelongsTo, KnowsMarks}
use Rattle.pipe_frame.specs.TokenFields.{fields_of}
use Rattle.pipe_frame.specs.declared.token.FrameToken.{FrameToken}
use Rattle.run_laws.proofs.ListOrders.StartsOfRuns.{Grew, grew_begin}
use Rattle.run_laws.proofs.RunStates.FrameMoves.{frame_at_begun}
use Rattle.run_laws.proofs.RunStates.Frames.{frame_at_push, frame_at_last, frame_at_within, frame_at_exists, nodes_at_frame, nodes_at_past}
use Rattle.run_laws.proofs.RunStates.GrowingColumns.{nodes_at_begun}
use Rattle.run_laws.proofs.RunStates.LaterEdges.{columns_of_frames}
use Rattle.run_laws.proofs.RunStates.LoopEnds.{goes_on_by}
use Rattle.order_2d.proofs.ListsSoFar.{length-log_entries}
use Rattle.frame_book.specs.BookStates.{events_of, last_ticket, with_events, timed_access, made, Out}
use Rattle.pipe_frame.specs.Replies.{replies_of}
use Rattle.frame_book.specs.Rooms.{IsPlanned, rooms_of, IsFresh, room_in}
use Rattle.frame_book.specs.Invariant.{IsBook, HasActions, MatchesFrame, actions_in}
use Rattle.frame_rows.specs.RowsOfFrames.{IsRowOf, AreRows, token_at, no_marks}
use Rattle.frame_book.specs.KeptTokens.{IsKeptToken, IsAtHome}
use Rattle.pipe_model.specs.Runs.Schedules.{running_in_frames}
use Rattle.frame_rows.specs.IterationRows.{IterationRow, row_at, head_marks, with_instance}
use Rattle.frame_book.specs.CallEffects.{identities_of_orders, seen_whole}
use Rattle.frame_book.specs.Tables.{Tables, book_state, token_state_of}
use Rattle.frame_book.specs.TicketLog.{Ledger}
use Rattle.frame_book.specs.GivenTokens.{IsGivenBy}
use Rattle.frame_book.proofs.Actions.TraceActions.{laid_same}
use Rattle.frame_book.proofs.BookLogs.AtEvents.{after_event}
use Rattle.frame_rows.proofs.Totals.{rows_fit}
use Rattle.frame_book.proofs.BookLogs.LogEntries.{last_ticket_with, length_with, entry_of, end_actions-push, rise_with, events_of_with}
use Rattle.frame_book.proofs.BookLogs.LogEntries.{starts_of-push, state_after-push}
use Rattle.frame_rows.proofs.FrameRows.{row_of_frame, rows_length}
use Rattle.frame_rows.proofs.ChangedRows.{map_at}
use Rattle.frame_book.proofs.Iterations.SpareRows.{sized_pop, fresh_pop, room_of_spare, few_rows, spare_room, spare_left}
use Rattle.frame_rows.proofs.Totals.{total_append}
use Rattle.frame_book.proofs.StartedInstances.GrownMarks.{down_grows, right_grows, marks_grow, marks_same, kept_grows, names_seen}
use Rattle.frame_book.proofs.StartedInstances.GrownMarks.{knows_new}
use Rattle.frame_book.proofs.BookLogs.TokensOfStates.{token_at_events}
use Rattle.frame_rows.proofs.StartRows.{head_marks_is, head_marks_none}

-- rows and frames with one more of each
pub rows_push : {M : Type 0} → (going : Bool) (fs : List Frame) (rs : List (IterationRow M)) (f : Frame) (y : IterationRow M)
    → AreRows going fs rs → IsRowOf going f y → AreRows going (fs ++ f ∷ []) (rs ++ y ∷ [])
rows_push going [] [] f y h q = (q, tt)
rows_push going [] (r ∷ rs) f y h q = absurd h
rows_push going (x ∷ fs) [] f y h q = absurd h
rows_push going (x ∷ fs) (r ∷ rs) f y h q = (h.0, rows_push going fs rs f y h.1 q)

-- the token of a row before the last
pub token_at_push : {M : Type 0} → (rs : List (IterationRow M)) (y : IterationRow M) (j : ℕ) → y.token ≡ None
    → token_at (rs ++ y ∷ []) j ≡ token_at rs j
token_at_push [] y zero e = e
token_at_push [] y (suc j) e = refl
token_at_push (r ∷ rs) y zero e = refl
token_at_push (r ∷ rs) y (suc j) e = token_at_push rs y j e

-- past the rows there is no token
pub token_at_past : {M : Type 0} → (rs : List (IterationRow M)) (j : ℕ) → length rs ≤ j → token_at rs j ≡ None
token_at_past [] j l = refl
token_at_past (r ∷ rs) zero l = absurd (omega (arith, l))
token_at_past (r ∷ rs) (suc j) l = token_at_past rs j (omega (arith, l))

-- an empty item more changes no item
pub get_or_empty : {X : Type 0} → (xs : List (List X)) (j : ℕ) → get_or (xs ++ [] ∷ []) j [] ≡ get_or xs j []
get_or_empty [] zero = refl
get_or_empty [] (suc j) = refl
get_or_empty (x ∷ xs) zero = refl
get_or_empty (x ∷ xs) (suc j) = get_or_empty xs j

-- one running instance more
running_push : (fs : List Frame) → running_in_frames (fs ++ fresh_frame ∷ []) ≡ suc (running_in_frames fs)
running_push [] = refl
running_push (f ∷ fs) = let h = running_push fs in omega (arith, h)

alive_push : (fs : List Frame) → alive_in (fs ++ fresh_frame ∷ []) ≡ suc (alive_in fs)
alive_push [] = refl
alive_push (f ∷ fs) = let h = alive_push fs in omega (arith, h)

-- a beginning closes no loop
closed_push : (fs : List Frame) → IsClosed fs ↔ IsClosed (fs ++ fresh_frame ∷ [])
closed_push fs = (
  (λ q. record {
    iteration = q.iteration;
    frame = q.frame;
    is = frame_at_push fs fresh_frame q.iteration
        (frame_at_within fs q.iteration q.frame q.is) ∙ q.is;
    closes = q.closes;
  }),
  (λ q. elim (frame_at_begun fs q.iteration q.frame q.is) [
    | inl new ↦ absurd (subst (λ (f : Frame). ClosesLoop f.status f.nodes) new.1 q.closes)
    | inr old ↦ record { iteration = q.iteration; frame = q.frame; is = old.1; closes = q.closes }
  ]),
)

-- what the left neighbour of an iteration has passed stays
pub passed_push : (fs : List Frame) (i : ℕ) (f : Frame) → frame_at fs i ≡ Some f → (m : ℤ) → LeftHasPassed fs i m
    → LeftHasPassed (fs ++ fresh_frame ∷ []) i m
passed_push fs zero f e m l = tt
passed_push fs (suc j) f e m l = λ g is. (let w = frame_at_within fs (suc j) f e in
    l g (sym (frame_at_push fs fresh_frame j (omega (arith, w))) ∙ is))

-- the marks of the head before
abbrev pub head_of : List (List Node) → List NodeId → ℕ → Option Marks
head_of columns starts zero = None
head_of columns starts (suc j) = Some (instance_marks columns starts j 0)

head_down : (columns : List (List Node)) (starts : List NodeId) (n : ℕ) → down_taken None (head_of columns starts n) ≡ down_first_taken
    (start_number starts) n 0
head_down columns starts zero = refl
head_down columns starts (suc j) = refl

head_right : (columns columns' : List (List Node)) (starts : List NodeId) (n : ℕ) → right_taken None
    (head_of columns starts n) ≡ right_first_taken columns' (start_number starts) n 0
head_right columns columns' starts zero = refl
head_right columns columns' starts (suc j) = refl

-- the last head has started
head_below : (columns : List (List Node)) (starts : List NodeId) (n : ℕ) → ((j : ℕ) → n ≡ suc j → start_number starts j 0 < length starts)
    → (down_taken None (head_of columns starts n) ≤ 2 * length starts) × (right_taken None (head_of columns starts n) ≤ 2 * length starts)
head_below columns starts zero h = (omega arith, omega arith)
head_below columns starts (suc j) h = let l = h j refl in (omega (arith, l), omega (arith, l))

-- an iteration that begins is joined with nothing
joined_head : (columns : List (List Node)) (n : ℕ) → 0 ≡ left_joined columns n 0
joined_head columns zero = refl
joined_head columns (suc n) = refl

-- a run that goes on, an iteration that may begin, and its payload
pub record Begins {M : Type 0} (b : Tables M) (home : List M) (m : M) : Type 0 where
  pub going : b.stopped ≡ false
  pub unclosed : b.closed ≡ false
  pub ended : LastEndedFirstInstance (state_after (events_of b.ledger.log)).frames
  pub taken : b.pool.home ≡ home ++ m ∷ []

module _ {M : Type 0} {Whole : SyntaxTree → M → Type 0} {ReadyAt : SyntaxTree → List ℤ → M → ℕ → List (List ℤ) → Type 0} {tie : M → Tie}
    {b : Tables M} (h : IsBook Whole ReadyAt tie b) {home : List M} {m : M} (begins : Begins b home m) where
  open begins use {going, unclosed, ended, taken}

  abbrev pub c : State
  c = state_after (events_of b.ledger.log)

  abbrev pub starts : List NodeId
  starts = starts_of (events_of b.ledger.log)

  abbrev pub n : ℕ
  n = length b.rows

  same_length : length c.frames ≡ length b.rows
  same_length = rows_length (not c.stopped) c.frames b.rows h.rows.each

  running : c.stopped ≡ false
  running = sym h.stopped ∙ going

  not_closed : IsClosed c.frames → ⊥
  not_closed q = (let e : true ≡ false = sym (h.closed.1 q) ∙ unclosed in absurd (cc))

  filled : (i : ℕ) (f : Frame) → frame_at c.frames i ≡ Some f → 0 < length f.nodes
  filled i f e = (h.logged.sound.sound.well i f e).filled

  -- the control part allows the event
  pub may : MayBegin b.limit c n
  may = record {
    number = sym same_length;
    room = (let a = h.alive in let s = h.size in let w = ap length taken ∙ length_push home m in omega (arith, a, s, w));
    follows = λ j f e is. goes_on_by f.status f.nodes (filled j f is) (ended j f (same_length ∙ e) is)
        (λ x. not_closed (record { iteration = j; frame = f; is = is; closes = x }));
  }

  -- there is a spare row
  pub spare_some : length b.spare ≡ 0 → ⊥
  spare_some e = spare_left (pipeline_of (tree_of b.program) b.input) b.rows b.spare c.frames _ _ _
      (actions_in b.ledger.log (map (λ r. r.traces) b.rows)) h.sized same_length h.actions.performs h.actions.matches filled
      (λ j f q is. may.follows j f (sym same_length ∙ q) is) e

  -- iterations are few
  pub few : length b.rows < 2 ^ 31
  few = let a = few_rows (pipeline_of (tree_of b.program) b.input) b.rows b.spare _ _ _ h.sized in let z = h.sized.bounded in
      omega (arith, a, z)

  -- the number of entries of the lists
  down_length : length b.orders.down.log ≡ 2 * length starts
  down_length = ap length h.down ∙ length-log_entries (down_first_taken (start_number starts)) 0 starts

  right_length : length b.orders.right.log ≡ 2 * length starts
  right_length = ap length h.right ∙ length-log_entries (right_first_taken (own_columns c) (start_number starts)) 0 starts

  -- the head of the last row has marks
  pub there : (r : IterationRow M) → row_at b.rows (length b.rows - 1) ≡ Some r → 0 < length r.marks
  there r at =
      let q = Rattle.frame_rows.proofs.FrameRows.frame_of_row (not c.stopped) c.frames b.rows
      (length b.rows - 1) r h.rows.each at in
      let a = q.matches.marks in
      let z = filled (length b.rows - 1) q.frame q.is in
      omega (arith, a, z)

  head_marks_are : (k : ℕ) → length b.rows ≡ k → head_marks b.rows ≡ head_of (own_columns c) starts k
  head_marks_are zero e = head_marks_none b.rows e
  head_marks_are (suc j) e =
      let it = frame_at_exists c.frames j (omega (arith, same_length, e)) in
      let q = row_of_frame (not c.stopped) c.frames b.rows j it.0 h.rows.each it.1 in
      let p : length b.rows - 1 ≡ j = omega (arith, e) in
      let some = filled j it.0 it.1 in
      let wide : 0 < length (nodes_at (own_columns c) j) =
      (let z = ap length (nodes_at_frame c.frames j it.0 it.1) in omega (arith, z, some)) in
      head_marks_is b.rows q.row (subst (λ k. row_at b.rows k ≡ Some q.row) (sym p) q.is)
      ∙ ap Some (ap (λ ms. get_or ms 0 no_marks) (sym (map_at (λ (z : IterationRow M). z.marks) b.rows j q.row [] q.is))
      ∙ h.rows.marks j 0 wide)

  pub head_is : head_marks b.rows ≡ head_of (own_columns c) starts n
  head_is = head_marks_are n refl

  started_before : (j : ℕ) → n ≡ suc j → start_number starts j 0 < length starts
  started_before j e =
      let it = frame_at_exists c.frames j (omega (arith, same_length, e)) in
      let some = filled j it.0 it.1 in
      h.logged.sound.all j 0 (let z = ap length (nodes_at_frame c.frames j it.0 it.1) in omega (arith, z, some))

  below : (down_taken None (head_of (own_columns c) starts n) ≤ 2 * length starts)
      × (right_taken None (head_of (own_columns c) starts n) ≤ 2 * length starts)
  below = head_below (own_columns c) starts n started_before

  -- the elements are in the lists
  pub placed : AreInserted (length b.orders.down.log) None (head_marks b.rows)
  placed = subst (AreInserted (length b.orders.down.log) None) (sym head_is) (record {
    down = (let a = below.0 in omega (arith, a, down_length));
    right = (let a = below.1 in omega (arith, a, down_length));
  })

  grew : Grew c.frames (c.frames ++ fresh_frame ∷ []) starts (at n 0)
  grew = grew_begin b.limit c n starts may h.logged.sound

  abbrev pub cols : List (List Node)
  cols = columns_of_frames (c.frames ++ fresh_frame ∷ [])

  abbrev pub down_at : ℕ
  down_at = down_taken None (head_marks b.rows)

  abbrev pub right_at : ℕ
  right_at = right_taken None (head_marks b.rows)

  down_is : down_at ≡ down_first_taken (start_number starts) n 0
  down_is = ap (down_taken None) head_is ∙ head_down (own_columns c) starts n

  right_is : right_at ≡ right_first_taken cols (start_number starts) n 0
  right_is = ap (right_taken None) head_is ∙ head_right (own_columns c) cols starts n

  abbrev pub marks : Marks
  marks = marks_after (length b.orders.down.log) down_at right_at

  marks_are : marks ≡ instance_marks cols (starts ++ at n 0 ∷ []) n 0
  marks_are = marks_grow c.frames (c.frames ++ fresh_frame ∷ []) starts (at n 0) h.logged.sound grew
      (length b.orders.down.log) down_at right_at down_length down_is right_is

  -- the lists have room
  pub room : HasRoom b.orders
  room =
      let fit = rows_fit (not c.stopped) c.frames b.rows h.rows.each in
      let s = h.rows.started in
      let z = spare_room (pipeline_of (tree_of b.program) b.input) b.rows b.spare _ _ _ h.sized in
      let more : length starts < room_in b.rows b.spare = elim (cases_eq (length b.spare) 0) [
        | inl e ↦ absurd (spare_some e)
        | inr k ↦ omega (arith, fit, s, z, k)
      ] in
      let d = h.sized.down_room in
      let r = h.sized.right_room in
      record { down = omega (arith, more, d, down_length); right = omega (arith, more, r, right_length) }

  -- the lists after the start
  abbrev pub orders : Rattle.order_2d.specs.OrderPairs.OrderPair
  orders = with_start b.orders down_at right_at

  -- the payload that was at home
  pub was_home : IsAtHome (Whole (tree_of b.program)) tie (identities_of_orders b.orders) m
  was_home = (All-pop (IsAtHome (Whole (tree_of b.program)) tie (identities_of_orders b.orders)) b.pool.home home
      (Some m) taken h.tokens.at_home).1

  stay_home : All (IsAtHome (Whole (tree_of b.program)) tie (identities_of_orders b.orders)) home
  stay_home = (All-pop (IsAtHome (Whole (tree_of b.program)) tie (identities_of_orders b.orders)) b.pool.home home
      (Some m) taken h.tokens.at_home).0

-- a list without length
pub nil_of_length : {X : Type 0} → (xs : List X) → length xs ≡ 0 → xs ≡ []
nil_of_length [] e = refl
nil_of_length (x ∷ xs) e = absurd (omega (arith, e))

module _ {M : Type 0} {Whole : SyntaxTree → M → Type 0} {ReadyAt : SyntaxTree → List ℤ → M → ℕ → List (List ℤ) → Type 0} {tie : M → Tie}
    {b : Tables M} (h : IsBook Whole ReadyAt tie b) {home : List M} {m : M} (begins : Begins b home m)
    (spare : List (IterationRow M)) (r : IterationRow M) (popped : b.spare ≡ spare ++ r ∷ []) where
  open begins use {going, unclosed, ended, taken}

  abbrev pub q_marks : Marks
  q_marks = marks h begins

  abbrev pub y : IterationRow M
  y = with_instance (pos 0) q_marks r

  abbrev pub e : Event
  e = Begin (length b.rows)

  abbrev pub s : State
  s = state_after (events_of b.ledger.log)

  abbrev pub fs : List Frame
  fs = s.frames ++ fresh_frame ∷ []

  abbrev pub news : List NodeId
  news = starts_of (events_of b.ledger.log) ++ at (length b.rows) 0 ∷ []

  abbrev pub log : List Rattle.pipe_model.specs.declared.ticket.BookEntry.BookEntry
  log = with_events b.ledger.log 0 (e ∷ [])

  abbrev pub traces : List (List (List Entry))
  traces = map (λ (z : IterationRow M). z.traces) b.rows

  -- the tables with the iteration begun
  abbrev pub with_begin : Tables M
  with_begin = record b {
    rows = b.rows ++ y ∷ [];
    spare = spare;
    pool = record { home = home; size = b.pool.size };
    orders = orders h begins;
    ledger = record { log = log; room = b.ledger.room };
  }

  -- tables with its parts are these tables
  pub begun : {rows' seen : List (IterationRow M)} {room' size' i : ℕ} {y' : IterationRow M} {marks' : Marks} {orders' : OrderPair}
      {ledger' : Ledger} → rows' ≡ b.rows ++ y' ∷ [] → room' ≡ b.room → y' ≡ with_instance (pos 0) marks' r → seen ≡ b.rows
      → marks' ≡ marks_after (length b.orders.down.log) (down_taken None (head_marks seen)) (right_taken None (head_marks seen))
      → orders' ≡ with_start b.orders (down_taken None (head_marks seen)) (right_taken None (head_marks seen))
      → ledger' ≡ record { log = with_events b.ledger.log 0 (Begin i ∷ []); room = b.ledger.room } → i ≡ length b.rows
      → size' ≡ b.pool.size
      → record b {
        rows = rows';
        room = room';
        spare = spare;
        pool = record { home = home; size = size' };
        orders = orders';
        ledger = ledger';
      } ≡ with_begin
  begun er em ey es ek eo el ei ez = rw (er, em, ey, ek, eo, es, el, ei, ez) refl

  p : Pipeline
  p = pipeline_of (tree_of b.program) b.input

  fresh : IsFresh r
  fresh = (fresh_pop b.rows spare r y refl (subst (All IsFresh) popped h.sized.fresh)).1

  numbers : r.numbers ≡ []
  numbers = ap (λ (z : IterationRow M). z.numbers) fresh

  marks_none : r.marks ≡ []
  marks_none = ap (λ (z : IterationRow M). z.marks) fresh

  traces_none : r.traces ≡ []
  traces_none = ap (λ (z : IterationRow M). z.traces) fresh

  token_none : r.token ≡ None
  token_none = ap (λ (z : IterationRow M). z.token) fresh

  has_room : 0 < r.room
  has_room = room_of_spare b.rows spare r y refl (pipeline_of (tree_of b.program) b.input)
      (subst (λ l. IsPlanned (pipeline_of (tree_of b.program) b.input) (rooms_of b.rows l)) popped h.sized.planned)

  -- there is room for the instance
  pub row_room : (length r.numbers < r.room) × (length r.marks < r.room)
  row_room = let a = ap length numbers in let d = ap length marks_none in let z = has_room in (omega (arith, a, z), omega (arith, d, z))

  same : length s.frames ≡ length b.rows
  same = rows_length (not s.stopped) s.frames b.rows h.rows.each

  new_row_matches : IsRowOf (not s.stopped) fresh_frame y
  new_row_matches = record {
    numbers = ap (λ l. l ++ pos 0 ∷ []) numbers;
    status = refl;
    marks = ap (λ l. length (l ++ q_marks ∷ [])) marks_none;
    fits = has_room;
    traces = λ u. ap (λ l. suc (length l)) traces_none;
    home = λ u. tt;
  }

  traces_are : map (λ (z : IterationRow M). z.traces) (b.rows ++ y ∷ []) ≡ traces ++ [] ∷ []
  traces_are = map-append (λ (z : IterationRow M). z.traces) b.rows (y ∷ []) ∙ ap (λ l. traces ++ l ∷ []) traces_none

  places_are : map token_state_of (b.rows ++ y ∷ []) ≡ map token_state_of b.rows ++ Out ∷ []
  places_are = map-append token_state_of b.rows (y ∷ [])
      ∙ ap (λ o. map token_state_of b.rows ++ Rattle.frame_book.specs.Tables.token_state_by o Running ∷ []) token_none

  grown : Grew s.frames fs (starts_of (events_of b.ledger.log)) (at (length b.rows) 0)
  grown = grew h begins

  at_new : get_or (map (λ (z : IterationRow M). z.marks) (b.rows ++ y ∷ [])) (length b.rows) [] ≡ q_marks ∷ []
  at_new = ap (λ l. get_or l (length b.rows) []) (map-append (λ (z : IterationRow M). z.marks) b.rows (y ∷ []))
      ∙ (get_or_push (map (λ (z : IterationRow M). z.marks) b.rows) y.marks [] (length b.rows)
      (length-map b.rows (λ (z : IterationRow M). z.marks)) ∙ ap (λ l. l ++ q_marks ∷ []) marks_none)

  marks_of_new : (k : ℕ) → k < length (nodes_at (columns_of_frames fs) (length b.rows)) → get_or
      (get_or (map (λ (z : IterationRow M). z.marks) (b.rows ++ y ∷ [])) (length b.rows) []) k no_marks ≡ instance_marks
      (columns_of_frames fs) news (length b.rows) k
  marks_of_new k l =
      let here : frame_at fs (length b.rows) ≡ Some fresh_frame = ap (frame_at fs) (sym same) ∙ frame_at_last s.frames fresh_frame in
      let w : length (nodes_at (columns_of_frames fs) (length b.rows)) ≡ 1 = ap length (nodes_at_frame fs (length b.rows) fresh_frame here)
      in
      let z : k ≡ 0 = omega (arith, l, w) in
      ap (λ ms. get_or ms k no_marks) at_new ∙ (ap (λ i. get_or (q_marks ∷ []) i no_marks) z
      ∙ (marks_are h begins
      ∙ ap (instance_marks (columns_of_frames fs) news (length b.rows)) (sym z)))

  marks_of_old : (j k : ℕ) → j ≢ length b.rows → k < length (nodes_at (columns_of_frames fs) j)
      → get_or (get_or (map (λ (z : IterationRow M). z.marks) (b.rows ++ y ∷ [])) j []) k no_marks ≡ instance_marks
      (columns_of_frames fs) news j k
  marks_of_old j k o l =
      let other = nodes_at_begun s.frames fresh_frame j (λ x. o (x ∙ same)) in
      let l' : k < length (nodes_at (own_columns s) j) = subst (λ ns. k < length ns) other l in
      let w : j < length b.rows = elim (cases_lt j (length b.rows)) [
        | inl less ↦ less
        | inr ge ↦ (let z = ap length (nodes_at_past s.frames j (omega (arith, ge, same))) in absurd (omega (arith, z, l')))
      ] in
      let wide = length-map b.rows (λ (z : IterationRow M). z.marks) in
      ap (λ ms. get_or (get_or ms j []) k no_marks) (map-append (λ (z : IterationRow M). z.marks) b.rows (y ∷ []))
      ∙ (ap (λ ms. get_or ms k no_marks) (get_or_append_left (map (λ (z : IterationRow M). z.marks) b.rows) (y.marks ∷ []) [] j
      (omega (arith, w, wide)))
      ∙ (h.rows.marks j k l' ∙ sym (marks_same s.frames fs (starts_of (events_of b.ledger.log))
      (at (length b.rows) 0) h.logged.sound grown j k l')))

  actions_same : (j : ℕ) → actions_in log (traces ++ [] ∷ []) j ≡ actions_in b.ledger.log traces j
  actions_same j =
      ap (λ es. map (λ (a : Rattle.pipe_model.specs.Runs.TicketLogs.TimedAction). a.action)
      (laid_traces (made (traces ++ [] ∷ []) j) 0 es)) (end_actions-push j b.ledger.log (entry_of b.ledger.log 0 e)
      ∙ append-nil (end_actions j b.ledger.log))
      ∙ ap (map (λ (a : Rattle.pipe_model.specs.Runs.TicketLogs.TimedAction). a.action))
      (laid_same (made traces j) (made (traces ++ [] ∷ []) j) 0 (end_actions j b.ledger.log)
      (λ q. ap (λ ts. map timed_access (get_or ts q [])) (get_or_empty traces j)))

  counted_same : (j : ℕ) → length (end_actions j log) ≡ length (get_or (traces ++ [] ∷ []) j [])
  counted_same j =
      ap length (end_actions-push j b.ledger.log (entry_of b.ledger.log 0 e) ∙ append-nil (end_actions j b.ledger.log))
      ∙ (h.counted j (inl (sym h.stopped ∙ going)) ∙ ap length (sym (get_or_empty traces j)))

  actions_none : actions_in b.ledger.log traces (length b.rows) ≡ []
  actions_none =
      let past : get_or traces (length b.rows) [] ≡ [] = get_or_past traces (length b.rows) []
      (let w = length-map b.rows (λ (z : IterationRow M). z.traces) in omega (arith, w)) in
      let ends : end_actions (length b.rows) b.ledger.log ≡ [] = nil_of_length (end_actions (length b.rows) b.ledger.log)
      (h.counted (length b.rows) (inl (sym h.stopped ∙ going)) ∙ ap length past) in
      ap (λ es. map (λ (a : Rattle.pipe_model.specs.Runs.TicketLogs.TimedAction). a.action)
      (laid_traces (made traces (length b.rows)) 0 es)) ends
      ∙ ap (λ ts. map (λ (a : Rattle.pipe_model.specs.Runs.TicketLogs.TimedAction). a.action) (map timed_access (get_or ts 0 []))) past

  actions_keep : HasActions p log (traces ++ [] ∷ []) (next_state s e)
  unfolding p
  actions_keep = record {
    performs = λ j. subst (Performs (p.behaviour j)) (sym (actions_same j)) (h.actions.performs j);
    matches = λ j f is. elim (frame_at_begun s.frames j f is) [
      | inl new ↦ (
          let z : j ≡ length b.rows = new.0 ∙ same in
          let none : actions_in log (traces ++ [] ∷ []) j ≡ [] = actions_same j ∙ (ap (actions_in b.ledger.log traces) z ∙ actions_none) in
          subst (MatchesFrame f) (sym none) (subst (λ g. MatchesFrame g []) (sym new.1) (record { nodes = refl; end = refl })))
      | inr old ↦ subst (MatchesFrame f) (sym (actions_same j)) (h.actions.matches j f old.1)
    ];
  }

  tokens_keep : (j : ℕ) (f : Frame) (t : FrameToken M) → frame_at fs j ≡ Some f → token_at (b.rows ++ y ∷ []) j ≡ Some t
      → IsKeptToken (ReadyAt (tree_of b.program) b.input) tie (identities_of_orders b.orders) (traces ++ [] ∷ []) news
      (next_state s e) j f t
  tokens_keep j f t is q =
      let w : token_at b.rows j ≡ Some t = sym (token_at_push b.rows y j token_none) ∙ q in
      elim (frame_at_begun s.frames j f is) [
        | inl new ↦ (let z = new.0 in let x : None ≡ Some t = sym (token_at_past b.rows j (omega (arith, z, same))) ∙ w in absurd (cc))
        | inr old ↦ kept_grows s.frames fs (starts_of (events_of b.ledger.log)) (at (length b.rows) 0) h.logged.sound grown
            (ReadyAt (tree_of b.program) b.input) tie (identities_of_orders b.orders) traces (traces ++ [] ∷ []) s
            (next_state s e) j f t refl refl old.1
            (get_or_empty traces j) (passed_push s.frames j f old.1) (h.tokens.tokens (sym h.stopped ∙ going) j f t old.1 w)
      ]

  pub begin_keeps : IsBook Whole ReadyAt tie with_begin
  unfolding p
  begin_keeps =
      let long = length_with b.ledger.log 0 e in
      let may' = may h begins in
      let running' : s.stopped ≡ false = sym h.stopped ∙ going in
      after_event Whole ReadyAt tie with_begin b.ledger.log 0 e news refl refl record {
        sized = sized_pop b.rows spare r y refl p b.orders.down.capacity b.orders.right.capacity b.ledger.room
            (subst (λ l. Rattle.frame_book.specs.Rooms.IsSized p b.rows l b.orders.down.capacity b.orders.right.capacity b.ledger.room)
            popped h.sized);
        logged = record {
          run = ControlRunThen h.logged.run e refl running' may';
          sound = grown.sound;
          entries = (
              let w = length_push (events_of b.ledger.log) e in
              let q = running_push s.frames in
              let z = h.logged.entries in
              let v = length_push (starts_of (events_of b.ledger.log)) (at (length b.rows) 0) in
              omega (arith, w, q, z, v));
        };
        rows = record {
          each = rows_push (not s.stopped) s.frames b.rows fresh_frame y h.rows.each new_row_matches;
          marks = λ j k l. elim (cases_eq j (length b.rows)) [
            | inl z ↦ subst (λ i. get_or (get_or (map (λ (x : IterationRow M). x.marks) (b.rows ++ y ∷ [])) i []) k no_marks
                ≡ instance_marks (columns_of_frames fs) news i k) (sym z)
                (marks_of_new k (subst (λ i. k < length (nodes_at (columns_of_frames fs) i)) z l))
            | inr o ↦ marks_of_old j k o l
          ];
          started = (
              let v = length_push (starts_of (events_of b.ledger.log)) (at (length b.rows) 0) in
              let t = total_append (λ (z : IterationRow M). length z.numbers) b.rows (y ∷ []) in
              let z = h.rows.started in
              let one : length y.numbers ≡ 1 = ap (λ l. length (l ++ pos 0 ∷ [])) numbers in
              omega (arith, v, t, z, one));
        };
        actions = subst (λ ts. HasActions p log ts (next_state s e)) (sym traces_are) actions_keep;
        counted = λ j u. counted_same j ∙ ap (λ ts. length (get_or ts j [])) (sym traces_are);
        tokens = record {
          tokens = λ go j f t is q. subst (λ ts. IsKeptToken (ReadyAt (tree_of b.program) b.input) tie
              (identities_of_orders b.orders) ts news (next_state s e) j f t) (sym traces_are) (tokens_keep j f t is q);
          nows = λ j t q. (let a = h.tokens.nows j t (sym (token_at_push b.rows y j token_none) ∙ q) in omega (arith, a, long));
          at_home = stay_home h begins;
        };
        down = down_grows s.frames fs (starts_of (events_of b.ledger.log)) (at (length b.rows) 0) h.logged.sound grown b.orders.down.log _
            h.down (down_is h begins);
        right = right_grows s.frames fs (starts_of (events_of b.ledger.log)) (at (length b.rows) 0) h.logged.sound grown b.orders.right.log
            _ h.right (right_is h begins);
        stopped = h.stopped;
        closed = (let q = closed_push s.frames in ((λ x. q.0 (h.closed.0 x)), (λ x. h.closed.1 (q.1 x))));
        alive = (let a = alive_push s.frames in let z = h.alive in let w = ap length taken ∙ length_push home m in omega (arith, a, z, w));
        size = h.size;
        some = h.some;
        last = (let q = last_ticket_with b.ledger.log 0 e in let l = h.last in omega (arith, q, long, l));
        reads = (let z = h.reads in omega (arith, z, long));
        reserve = (let a = length_push b.rows y in let z = h.reserve in let w = ap length popped ∙ length_push spare r in
            omega (arith, a, z, w));
        rise = rise_with b.ledger.log 0 e h.rise;
      }

  -- what contracts see
  pub begin_view : book_state with_begin ≡ record (book_state b)
      { log = log; traces = traces ++ [] ∷ []; tokens = map token_state_of b.rows ++ Out ∷ [] }
  begin_view = rw (traces_are, places_are) refl

  -- the token
  pub begin_given : (m' : M) → ReadyAt (tree_of b.program) b.input m' (length b.rows) [] → tie m'
      ≡ record { lists = seen_whole (tie m).lists with_begin.orders; seat = (tie m).seat }
      → IsGivenBy ReadyAt tie (book_state with_begin) (record {
        iteration = length b.rows;
        index = 0;
        now =
            1 + max (last_ticket b.ledger.log) 0;
        joined = 0;
        folded = None;
        marks = q_marks;
        payload = m';
      })
  begin_given m' ready tied =
      let t : FrameToken M = record {
        iteration = length b.rows;
        index = 0;
        now = 1 + max (last_ticket b.ledger.log) 0;
        joined =
            0;
        folded = None;
        marks = q_marks;
        payload = m';
      } in
      let long = length_with b.ledger.log 0 e in
      let last = h.last in
      let at_place = placed h begins in
      let ld = length-append b.orders.down.log (down_at h begins ∷ (1 + length b.orders.down.log) ∷ []) in
      let lr = length-append b.orders.right.log (right_at h begins ∷ (1 + length b.orders.right.log) ∷ []) in
      let dl = down_length h begins in
      let rl = right_length h begins in
      let was = was_home h begins in
      record {
        out = record {
          out = ap (λ ps. get_or ps (length b.rows) Rattle.frame_book.specs.BookStates.Spent) places_are
              ∙ get_or_push (map token_state_of b.rows) Out Rattle.frame_book.specs.BookStates.Spent (length b.rows)
              (length-map b.rows token_state_of);
          token = token_at_events (events_of log) (next_state s e) news (fields_of t)
              (ap state_after (events_of_with b.ledger.log 0 e) ∙ state_after-push (events_of b.ledger.log) e)
              (ap starts_of (events_of_with b.ledger.log 0 e) ∙ starts_of-push (events_of b.ledger.log) e) record {
                running = record {
                  frame = fresh_frame;
                  is = ap (frame_at fs) (sym same) ∙ frame_at_last s.frames fresh_frame;
                  runs =
                      refl;
                };
                index = refl;
                marks = marks_are h begins;
                joined = joined_head (columns_of_frames fs) (length b.rows);
                folded = λ k x. absurd x;
              };
          now = omega (arith, long, last);
        };
        payload = record {
          belongs = subst (λ z. BelongsTo z (identities_of_orders b.orders)) (sym tied)
              (names_seen (tie m).lists with_begin.orders (identities_of_orders b.orders) was.belongs);
          ready = subst (λ ts. ReadyAt (tree_of b.program) b.input m' (length b.rows) (map replies_of ts))
              (sym (ap (λ ts. get_or ts (length b.rows) []) traces_are
              ∙ (get_or_push traces [] [] (length b.rows) (length-map b.rows (λ (z : IterationRow M). z.traces))))) ready;
        };
        knows = subst (λ z. KnowsMarks z q_marks) (sym tied)
            (knows_new (tie m).lists with_begin.orders (length b.orders.down.log)
            (down_at h begins) (right_at h begins) (omega (arith, ld))
            (omega (arith, lr, dl, rl)) at_place.down at_place.right);
        parts = ap (λ ts. length (map replies_of (get_or ts (length b.rows) []))) traces_are
            ∙ ap (λ ts. length (map replies_of ts)) (get_or_push traces [] [] (length b.rows)
            (length-map b.rows (λ (z : IterationRow M). z.traces)));
      }
