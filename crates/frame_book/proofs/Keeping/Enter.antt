-- The entering of a stage keeps the tables.
use Rattle.std.proofs.Common.{◌≡◌, ◌≢◌, ℕ, ℤ, zero, suc, pos, ◌+◌, ◌-◌, ◌*◌, ◌^◌, ◌<◌, ◌≤◌, ◌<ℤ◌, ◌≤ℤ◌, max, List, [], ◌∷◌, ◌++◌, length}
use Rattle.std.proofs.Common.{map, set, get_or, refl, ap, ap₂, sym, ◌∙◌, arith, subst, false, not, Option, Some, None, inl, inr, append-nil}
use Rattle.std.proofs.Common.{reverse, IfSome, IfNone}
use Rattle.std.proofs.lemmas.Bool.{cases_eq, cases_lt}
use Rattle.std.proofs.lemmas.Int.{ints}
use Rattle.std.proofs.lemmas.List.{map-append, map-set, length_push, length-map, length-set, get_or_append_left, get_or_push}
use Rattle.std.proofs.lemmas.List.{get_or-set_same, get_or-set_other, length-append}
use Rattle.std.specs.Option.{unwrap_or}
use Rattle.left_parent.specs.LastNumber.{IsLastUpTo}
use Rattle.order_2d.specs.OrderPairs.{OrderPair, with_start, marks_after, down_taken, right_taken, HasRoom, AreInserted}
use Rattle.pipe_model.specs.declared.event.Event.{Event}
use Rattle.pipe_model.specs.declared.event.Event.TheVariants.{Enter}
use Rattle.pipe_model.specs.declared.marks.Marks.{Marks}
use Rattle.pipe_model.specs.declared.node.Kind.{Kind}
use Rattle.pipe_model.specs.declared.node.Kind.TheVariants.{Wait}
use Rattle.pipe_model.specs.declared.node.Node.{Node}
use Rattle.pipe_model.specs.declared.node.NodeId.{NodeId}
use Rattle.pipe_model.specs.declared.ticket.BookEntry.{BookEntry}
use Rattle.pipe_model.specs.declared.ticket.Entry.{Entry}
use Rattle.pipe_model.specs.Runs.Allowed.{MayEnter, ClosesLoop}
use Rattle.pipe_model.specs.Pipelines.Behaviour.{Action, Performs, node_of, column_of}
use Rattle.pipe_model.specs.Races.Columns.{nodes_at, node_at, at}
use Rattle.pipe_model.specs.Runs.ControlRun.{ControlRunThen}
use Rattle.pipe_model.specs.Language.Programs.{pipeline_of}
use Rattle.pipe_model.specs.Runs.RunLogs.{state_after}
use Rattle.pipe_model.specs.Orders.OrderMarks.{instance_marks}
use Rattle.pipe_model.specs.Orders.Starts.{starts_of, start_number}
use Rattle.pipe_model.specs.Runs.State.{State, Frame, frame_at, update_frame, enter_pending, next_state, own_columns, alive_one}
use Rattle.pipe_model.specs.declared.status.Status.TheVariants.{Pending}
use Rattle.pipe_model.specs.Language.SyntaxTree.{SyntaxTree, tree_of}
use Rattle.pipe_model.specs.Runs.TicketLogs.{end_actions, laid_traces, TimedAction}
use Rattle.pipe_model.specs.Orders.TwoOrders.{down_first_taken, right_first_taken}
use Rattle.pipe_frame.specs.Ties.{Tie, BelongsTo, KnowsMarks}
use Rattle.pipe_frame.specs.TokenFields.{fields_of}
use Rattle.pipe_frame.specs.declared.token.FrameToken.{FrameToken}
use Rattle.run_laws.proofs.ListOrders.StartsOfRuns.{Grew, grew_enter}
use Rattle.run_laws.proofs.RunStates.FrameMoves.{IsMove, moves_entered, entered_frame, enter_pending_is, frame_at_moved}
use Rattle.run_laws.proofs.RunStates.Frames.{frame_at_updated, frame_at_exists, frame_at_within, nodes_at_frame}
use Rattle.run_laws.proofs.RunStates.GrowingColumns.{nodes_at_other, nodes_at_moved}
use Rattle.run_laws.proofs.RunStates.LaterEdges.{columns_of_frames}
use Rattle.order_2d.proofs.ListsSoFar.{length-log_entries}
use Rattle.frame_book.specs.BookStates.{BookState, events_of, last_ticket, state_of, with_events, Out, Spent, Kept}
use Rattle.pipe_frame.specs.Replies.{replies_of}
use Rattle.frame_book.specs.Invariant.{IsBook, HasActions, MatchesFrame, actions_in, pending_nodes}
use Rattle.frame_rows.specs.RowsOfFrames.{IsRowOf, HasTraceCount, TokenFits, token_at, no_marks}
use Rattle.frame_book.specs.KeptTokens.{IsKeptToken}
use Rattle.frame_book.specs.Rooms.{rooms_of}
use Rattle.pipe_model.specs.Runs.Schedules.{running_of_status}
use Rattle.frame_rows.specs.IterationRows.{IterationRow, row_at, with_instance, marks_at, marks_of_row, HasMarks, left_numbers, left_marks}
use Rattle.frame_rows.specs.IterationRows.{IsSearchable, WaitsAt}
use Rattle.frame_book.specs.CallEffects.{identities_of_orders, seen_whole, with_entered, kept_folded}
use Rattle.frame_book.specs.Tables.{Tables, book_state, token_state_of, token_state_by}
use Rattle.frame_book.specs.TicketLog.{Ledger}
use Rattle.frame_book.specs.GivenTokens.{IsGivenBy}
use Rattle.frame_book.proofs.BookLogs.AtEvents.{after_event}
use Rattle.frame_book.proofs.Conditions.MayEnter.{may_as}
use Rattle.frame_book.proofs.Conditions.EnteredRows.{marks_at_map, marks_row_map, numbers_row_map, names_few, rows_fit_more, total_at}
use Rattle.frame_book.proofs.Conditions.EnteredRows.{total_set_more, running_more, first_is_zero, named_above, taken_below}
use Rattle.frame_book.proofs.StartedInstances.LeftParents.{IsLeft, left_found, last_at_is}
use Rattle.frame_book.proofs.BookLogs.LogEntries.{last_ticket_with, length_with, entry_of, end_actions-push, rise_with, events_of_with}
use Rattle.frame_book.proofs.BookLogs.LogEntries.{starts_of-push, state_after-push}
use Rattle.frame_book.proofs.Keeping.Name.{alive_set, closed_moved, left_passed_moved}
use Rattle.frame_book.proofs.Keeping.LeaveReady.{sized_set}
use Rattle.frame_rows.proofs.FrameRows.{row_of_frame, row_at_read, rows_length, row_at_within, token_of_row}
use Rattle.frame_rows.proofs.ChangedRows.{rows_set, token_at_set, token_at_other, map_set_same, map_at, traces_of_row}
use Rattle.frame_book.proofs.StartedInstances.StartMarks.{parent_marks, takes_right_below}
use Rattle.frame_book.proofs.StartedInstances.GrownMarks.{down_grows, right_grows, marks_grow, marks_same, kept_grows, names_seen}
use Rattle.frame_book.proofs.StartedInstances.GrownMarks.{knows_new}
use Rattle.frame_book.proofs.BookLogs.TokensOfStates.{token_at_events}

-- a run that goes on, and the row of an iteration that may enter the stage that it has named
pub record Enters {M : Type 0} (b : Tables M) (i : ℕ) (r : IterationRow M) : Type 0 where
  pub going : (state_after (events_of b.ledger.log)).stopped ≡ false
  pub may : MayEnter (state_after (events_of b.ledger.log)) i
  pub at_row : row_at b.rows i ≡ Some r

module _ {M : Type 0} {Whole : SyntaxTree → M → Type 0} {ReadyAt : SyntaxTree → List ℤ → M → ℕ → List (List ℤ) → Type 0} {tie : M → Tie}
    {b : Tables M} (h : IsBook Whole ReadyAt tie b) {v : BookState} (seen : book_state b ≡ v) {i : ℕ} (may : MayEnter (state_of v) i) where
  may_here : MayEnter (state_after (events_of b.ledger.log)) i
  may_here = subst (λ w. MayEnter (state_of w) i) (sym seen) may

  pub may_within : i < length b.rows
  may_within =
      let s = state_after (events_of b.ledger.log) in
      let a = frame_at_within s.frames i may_here.frame may_here.is in
      let e = rows_length (not s.stopped) s.frames b.rows h.rows.each in
      omega (arith, a, e)

  -- and was read
  pub enters : (state_of v).stopped ≡ false → {r : IterationRow M} → r ≡ get_or b.rows i r → Enters b i r
  enters going {r = r} read = record {
    going = subst (λ w. (state_of w).stopped ≡ false) (sym seen) going;
    may = may_here;
    at_row = row_at_read b.rows i r may_within read;
  }

-- what the search to the left finds
pub record Finds (i : ℕ) (kind : Kind) (number : ℤ) (numbers : List ℤ) (joined : ℕ) (left : Option ℕ) : Type 0 where
  pub none : (WaitsAt kind i → ⊥) → left ≡ None
  pub some : WaitsAt kind i → IfSome left (λ j. (joined < j) × IsLastUpTo numbers j number)
  pub nothing : WaitsAt kind i → IfNone left ((j : ℕ) → IsLastUpTo numbers j number → j ≤ joined)

module _ {M : Type 0} {Whole : SyntaxTree → M → Type 0} {ReadyAt : SyntaxTree → List ℤ → M → ℕ → List (List ℤ) → Type 0} {tie : M → Tie}
    {b : Tables M} (h : IsBook Whole ReadyAt tie b) {i : ℕ} {r : IterationRow M} (entry : Enters b i r) where
  open entry use {going, may, at_row}

  abbrev pub c : State
  c = state_after (events_of b.ledger.log)

  abbrev pub starts : List NodeId
  starts = starts_of (events_of b.ledger.log)

  abbrev pub u : Frame → Frame
  u = λ g. enter_pending g.status g

  abbrev pub f : Frame
  f = may.frame

  abbrev pub fs : List Frame
  fs = update_frame c.frames i u

  abbrev pub cols : List (List Node)
  cols = columns_of_frames fs

  abbrev pub traces : List (List (List Entry))
  traces = map (λ (z : IterationRow M). z.traces) b.rows

  abbrev pub acts : List Action
  acts = actions_in b.ledger.log traces i

  abbrev pub r0 : IterationRow M
  r0 = record r { token = None }

  -- the rows without the token
  abbrev pub rows : List (IterationRow M)
  rows = set b.rows i r0

  same : length c.frames ≡ length b.rows
  same = rows_length (not c.stopped) c.frames b.rows h.rows.each

  pub within : i < length b.rows
  within = row_at_within b.rows i r at_row

  -- the row matches the frame
  pub row_matches : IsRowOf (not c.stopped) f r
  row_matches =
      let old = row_of_frame (not c.stopped) c.frames b.rows i f h.rows.each may.is in
      let z : old.row ≡ r = (let y : Some old.row ≡ Some r = sym old.is ∙ at_row in cc) in
      subst (IsRowOf (not c.stopped) f) z old.matches

  -- its status
  pub status_is : r.status ≡ Pending may.kind may.number
  status_is = row_matches.status ∙ may.named

  -- its token is at home
  pub at_home : (t : FrameToken M) × (r.token ≡ Some t)
  at_home = subst (λ w. TokenFits w r.token) may.named (row_matches.home (ap not going))

  acts_match : MatchesFrame f acts
  acts_match = h.actions.matches i f may.is

  entered : u f ≡ entered_frame may.kind may.number f
  entered = enter_pending_is f may.kind may.number may.named

  move : IsMove c.frames i f (u f)
  move = subst (λ g. IsMove c.frames i f g) (sym entered) (moves_entered c.frames i f may.kind may.number may.named may.free)

  nodes_are : nodes_at (own_columns c) i ≡ f.nodes
  nodes_are = nodes_at_frame c.frames i f may.is

  nodes_new : nodes_at cols i ≡ f.nodes ++ node_of may.kind may.number ∷ []
  nodes_new = nodes_at_moved c.frames i f u may.is ∙ ap (λ (g : Frame). g.nodes) entered

  filled : (j : ℕ) (g : Frame) → frame_at c.frames j ≡ Some g → 0 < length g.nodes
  filled j g e = (h.logged.sound.sound.well j g e).filled

  -- there is room for the instance
  pub row_room : length r.numbers < r.room
  row_room =
      let p = pipeline_of (tree_of b.program) b.input in
      let g : IterationRow M → ℕ = λ z. z.room in
      let wide = length-map (b.rows ++ reverse b.spare) g in
      let long = length-append b.rows (reverse b.spare) in
      let l : i < length (rooms_of b.rows b.spare) = (let w = within in omega (arith, w, wide, long)) in
      let q = h.sized.planned.room i l in
      let here : get_or (rooms_of b.rows b.spare) i 0 ≡ r.room = ap (λ ns. get_or ns i 0) (map-append g b.rows (reverse b.spare))
      ∙ (get_or_append_left (map g b.rows) (map g (reverse b.spare)) 0 i
      (let w = within in let v = length-map b.rows g in omega (arith, w, v)) ∙ map_at g b.rows i r 0 at_row) in
      let few = names_few q.0 (p.behaviour i) acts q.2 (h.actions.performs i) in
      let n : length (column_of acts) ≡ length f.nodes + 1 = ap length (acts_match.nodes ∙ ap (λ w. f.nodes ++ pending_nodes w) may.named)
      ∙ length_push f.nodes (node_of may.kind may.number) in
      let e = q.1 in
      let k : length r.numbers ≡ length f.nodes = ap length row_matches.numbers ∙ length-map f.nodes (λ (z : Node). z.number) in
      omega (arith, here, few, n, e, k)

  -- the iteration has started fewer than 2^31 instances
  pub few : length f.nodes < 2 ^ 31
  few =
      let a = total_at (λ (z : IterationRow M). z.room) b.rows i r at_row in
      let z = h.sized.bounded in
      let l = row_matches.fits in
      omega (arith, a, z, l)

  -- the number of entries of the lists
  down_length : length b.orders.down.log ≡ 2 * length starts
  down_length = ap length h.down ∙ length-log_entries (down_first_taken (start_number starts)) 0 starts

  right_length : length b.orders.right.log ≡ 2 * length starts
  right_length = ap length h.right ∙ length-log_entries (right_first_taken (own_columns c) (start_number starts)) 0 starts

  -- the lists have room
  pub room : HasRoom b.orders
  room =
      let l = rows_fit_more (not c.stopped) c.frames b.rows i r h.rows.each at_row row_room in
      let s = h.rows.started in
      let d = h.sized.down_room in
      let e = h.sized.right_room in
      record { down = omega (arith, l, s, d, down_length); right = omega (arith, l, s, e, right_length) }

  marks_kept : map (λ (z : IterationRow M). z.marks) rows ≡ map (λ (z : IterationRow M). z.marks) b.rows
  marks_kept = map_set_same (λ z. z.marks) b.rows i r r0 at_row refl

  -- the marks of an instance that has started
  marks_known : (j k : ℕ) → k < length (nodes_at (own_columns c) j) → marks_at rows j k ≡ instance_marks (own_columns c) starts j k
  marks_known j k l = marks_at_map rows j k ∙ (ap (λ ms. get_or (get_or ms j []) k no_marks) marks_kept ∙ h.rows.marks j k l)

  -- the rows have marks for the instances of a frame
  has_marks : (j k : ℕ) (g : Frame) → frame_at c.frames j ≡ Some g → k < length g.nodes → HasMarks rows j k
  has_marks j k g e l =
      let q = row_of_frame (not c.stopped) c.frames b.rows j g h.rows.each e in
      let m : marks_of_row (row_at rows j) ≡ q.row.marks = marks_row_map rows j
      ∙ (ap (λ ms. get_or ms j []) marks_kept ∙ map_at (λ (z : IterationRow M). z.marks) b.rows j q.row [] q.is) in
      let n = q.matches.marks in
      subst (λ ms. k < length ms) (sym m) (omega (arith, n, l))

  -- the frame to the left
  left_frame : (a : ℕ) → i ≡ suc a → (g : Frame) × (frame_at c.frames a ≡ Some g)
  left_frame a e = frame_at_exists c.frames a (let w = within in omega (arith, w, same, e))

  left_matches : (a : ℕ) → i ≡ suc a → (left_numbers rows i ≡ map (λ n. n.number) (nodes_at (own_columns c) a))
      × (0 < length (nodes_at (own_columns c) a)) × ((node_at (nodes_at (own_columns c) a) 0).number ≤ℤ may.number)
  left_matches a e =
      let g = left_frame a e in
      let q = row_of_frame (not c.stopped) c.frames b.rows a g.0 h.rows.each g.1 in
      let ns = nodes_at_frame c.frames a g.0 g.1 in
      let nums : map (λ (z : IterationRow M). z.numbers) rows ≡ map (λ (z : IterationRow M). z.numbers) b.rows =
      map_set_same (λ z. z.numbers) b.rows i r r0 at_row refl in
      let some = filled a g.0 g.1 in
      let zero_is = first_is_zero g.0 (actions_in b.ledger.log traces a) (h.actions.matches a g.0 g.1) some in
      let up = named_above f acts may.kind may.number (h.logged.sound.sound.well i f may.is) acts_match may.named in (
        ap (left_numbers rows) e ∙ (numbers_row_map rows a
            ∙ (ap (λ ms. get_or ms a []) nums ∙ (map_at (λ (z : IterationRow M). z.numbers) b.rows a q.row [] q.is
            ∙ (q.matches.numbers ∙ ap (map (λ (n : Node). n.number)) (sym ns))))),
        subst (λ l. 0 < length l) (sym ns) some,
        subst (λ l. (node_at l 0).number ≤ℤ may.number) (sym ns) (omega (arith, ints, zero_is, up)),
      )

  -- the column to the left can be searched
  pub searchable : WaitsAt may.kind i → IsSearchable (left_numbers rows i)
  searchable w = by i refl
    where
      by : (k : ℕ) → i ≡ k → IsSearchable (left_numbers rows i)
      by zero e = absurd (let l = w.1 in omega (arith, l, e))
      by (suc a) e =
          let t = left_matches a e in
          let g = left_frame a e in
          let ns = nodes_at_frame c.frames a g.0 g.1 in
          let well = h.logged.sound.sound.well a g.0 g.1 in
          let q = row_of_frame (not c.stopped) c.frames b.rows a g.0 h.rows.each g.1 in
          let room' = total_at (λ (z : IterationRow M). z.room) b.rows a q.row q.is in
          let fits = q.matches.fits in
          let small = h.sized.bounded in
          let wide = length-map g.0.nodes (λ (n : Node). n.number) in
          subst IsSearchable (sym (t.0 ∙ ap (map (λ (n : Node). n.number)) ns)) (record {
            rises = λ j k l v. (
                let x = well.rising.rises j k l (omega (arith, wide, v)) in
                subst (λ z. z <ℤ get_or (map (λ n. n.number) g.0.nodes) k (pos 0))
                (sym (Rattle.frame_rows.proofs.FrameRows.number_at g.0.nodes j))
                (subst (λ z. (node_at g.0.nodes j).number <ℤ z) (sym (Rattle.frame_rows.proofs.FrameRows.number_at g.0.nodes
                k)) x));
            bounded = omega (arith, wide, fits, room', small);
          })

  module _ {t : FrameToken M} (held : r.token ≡ Some t) where
    -- the token as it was kept
    pub kept : IsKeptToken (ReadyAt (tree_of b.program) b.input) tie (identities_of_orders b.orders) traces starts c i f t
    kept = h.tokens.tokens going i f t may.is (token_of_row b.rows i r at_row ∙ held)

    pub index_is : length (nodes_at (own_columns c) i) ≡ suc t.index
    index_is = ap length nodes_are ∙ kept.index

    -- the row has as many instances
    pub index_here : t.index + 1 ≡ length r.numbers
    index_here =
        let k : length r.numbers ≡ length f.nodes = ap length row_matches.numbers ∙ length-map f.nodes (λ (z : Node). z.number) in
        let e = kept.index in
        omega (arith, k, e)

    -- tickets do not wrap
    pub now_below : t.now < 2 ^ 63
    now_below =
        let a = h.tokens.nows i t (token_of_row b.rows i r at_row ∙ held) in
        let l = Rattle.frame_book.proofs.Keeping.Stop.log_room Whole ReadyAt tie b h (h.stopped ∙ going) in
        let s = h.sized.log_room in
        let z = h.sized.bounded in
        omega (arith, a, l, s, z)

    grew : Grew c.frames fs starts (at i (suc t.index))
    grew = subst (λ k. Grew c.frames fs starts (at i k)) index_is (grew_enter c i starts may h.logged.sound)

    -- the instance above has marks
    pub up_marks : HasMarks rows i t.index
    up_marks = has_marks i t.index f may.is (let e = kept.index in omega (arith, e))

    node_new : node_at (nodes_at cols i) (suc t.index) ≡ node_of may.kind may.number
    node_new = ap (λ ns. node_at ns (suc t.index)) nodes_new ∙ get_or_push f.nodes (node_of may.kind may.number)
        Rattle.pipe_model.specs.Races.Columns.no_node (suc t.index) kept.index

    module _ {left : Option ℕ} (found : Finds i may.kind may.number (left_numbers rows i) t.joined left) where
      open found use {none, some, nothing}

      -- what the search finds is the left parent
      is_left : IsLeft cols i t.index t.joined left
      is_left =
          let l : t.index < length (nodes_at (own_columns c) i) = (let e = index_is in omega (arith, e)) in
          left_found cols i t.index t.joined may.kind may.number left (left_numbers rows i) node_new
          (kept.joined ∙ sym (Rattle.frame_book.proofs.StartedInstances.GrownMarks.left_joined_same c.frames fs starts
          (at i (suc t.index)) h.logged.sound grew i t.index l))
          (λ a e. (let q = left_matches a e in let o = nodes_at_other c.frames i a u (λ z. (omega (arith, z, e))) in (
            q.0 ∙ ap (map (λ (n : Node). n.number)) (sym o),
            subst (λ ns. 0 < length ns) (sym o) q.1,
            (λ w. subst (λ ns. (node_at ns 0).number ≤ℤ may.number) (sym o) q.2),
          )))
          none some nothing

      -- a left parent is there, and waits
      left_there : (j : ℕ) → left ≡ Some j → (a : ℕ) × (i ≡ suc a) × (j < length (nodes_at (own_columns c) a))
      left_there j e = by i refl may.kind refl
        where
          waits_not : (WaitsAt may.kind i → ⊥) → ⊥
          waits_not n = (let z : Some j ≡ None = sym e ∙ none n in absurd (cc))

          by : (k : ℕ) → i ≡ k → (q : _) → may.kind ≡ q → (a : ℕ) × (i ≡ suc a) × (j < length (nodes_at (own_columns c) a))
          by zero s q x = absurd (waits_not (λ w. (let l = w.1 in omega (arith, l, s))))
          by (suc a) s Rattle.pipe_model.specs.declared.node.Kind.TheVariants.Zero x =
              absurd (waits_not (λ w. (let z : Rattle.pipe_model.specs.declared.node.Kind.TheVariants.Zero ≡ Wait = sym x ∙ w.0 in
              absurd (cc))))
          by (suc a) s Rattle.pipe_model.specs.declared.node.Kind.TheVariants.Continue x =
              absurd (waits_not (λ w. (let z : Rattle.pipe_model.specs.declared.node.Kind.TheVariants.Continue ≡ Wait = sym x ∙ w.0 in
              absurd (cc))))
          by (suc a) s Wait x =
              let w : WaitsAt may.kind i = (x, (omega (arith, s))) in
              let q : (t.joined < j) × IsLastUpTo (left_numbers rows i) j may.number =
              subst (λ o. IfSome o (λ k. (t.joined < k) × IsLastUpTo (left_numbers rows i) k may.number)) e (some w) in
              let l = (last_at_is (nodes_at (own_columns c) a) j may.number
              (subst (λ ns. IsLastUpTo ns j may.number) (left_matches a s).0 q.1)).within in
              (a, s, l)

      -- its marks are there
      pub left_has_marks : (j : ℕ) → left ≡ Some j → (0 < i) × HasMarks rows (i - 1) j
      left_has_marks j e =
          let q = left_there j e in
          let g = left_frame q.0 q.1 in
          let s = q.1 in
          let l = q.2 in
          let n = ap length (nodes_at_frame c.frames q.0 g.0 g.1) in
          let p : i - 1 ≡ q.0 = omega (arith, s) in
          (omega (arith, s), subst (λ k. HasMarks rows k j) (sym p) (has_marks q.0 j g.0 g.1 (omega (arith, l, n))))

      up_is : marks_at rows i t.index ≡ instance_marks (own_columns c) starts i t.index
      up_is = marks_known i t.index (let e = index_is in omega (arith, e))

      left_is : left_marks rows i left ≡ parent_marks (own_columns c) starts i left
      left_is = by i left refl refl
        where
          by : (k : ℕ) (o : Option ℕ) → i ≡ k → left ≡ o → left_marks rows k o ≡ parent_marks (own_columns c) starts k o
          by k None s e = refl
          by zero (Some j) s e = refl
          by (suc a) (Some j) s e =
              let q = left_there j e in
              let v = q.1 in
              let z : q.0 ≡ a = omega (arith, v, s) in
              ap Some (marks_known a j (subst (λ d. j < length (nodes_at (own_columns c) d)) z q.2))

      abbrev pub down_at : ℕ
      down_at = down_taken (Some (marks_at rows i t.index)) (left_marks rows i left)

      abbrev pub right_at : ℕ
      right_at = right_taken (Some (marks_at rows i t.index)) (left_marks rows i left)

      down_is : down_at ≡ down_first_taken (start_number starts) i (suc t.index)
      down_is = ap₂ (λ p q. down_taken (Some p) q) up_is left_is

      right_is : right_at ≡ right_first_taken cols (start_number starts) i (suc t.index)
      right_is =
          ap₂ (λ p q. right_taken (Some p) q) up_is left_is
          ∙ (takes_right_below (own_columns c) starts i t.index left (λ e. none (λ w. (let l = w.1 in omega (arith, l, e))))
          ∙ ap (Rattle.pipe_model.specs.Orders.TwoOrders.right_taken_from (start_number starts) i (suc t.index)) is_left.parent)

      -- the elements are in the lists
      pub placed : AreInserted (length b.orders.down.log) (Some (marks_at rows i t.index)) (left_marks rows i left)
      placed =
          let q = taken_below (own_columns c) starts i t.index left (h.logged.sound.all i t.index (let e = index_is in omega (arith, e)))
          (λ a j e o. (let z = left_there j o in let v = z.1 in let s : z.0 ≡ a = omega (arith, v, e) in
          h.logged.sound.all a j (subst (λ d. j < length (nodes_at (own_columns c) d)) s z.2))) in
          let down : down_at ≤ 2 * length starts = subst (λ n. n ≤ 2 * length starts)
          (sym (ap₂ (λ p q. down_taken (Some p) q) up_is left_is)) q.0 in
          let right : right_at ≤ 2 * length starts = subst (λ n. n ≤ 2 * length starts)
          (sym (ap₂ (λ p q. right_taken (Some p) q) up_is left_is)) q.1 in
          record { down = omega (arith, down, down_length); right = omega (arith, right, down_length) }

      abbrev pub marks : Marks
      marks = marks_after (length b.orders.down.log) down_at right_at

      marks_are : marks ≡ instance_marks cols (starts ++ at i (suc t.index) ∷ []) i (suc t.index)
      marks_are = marks_grow c.frames fs starts (at i (suc t.index)) h.logged.sound grew (length b.orders.down.log) down_at right_at
          down_length down_is right_is

      abbrev pub y : IterationRow M
      y = with_instance may.number marks r0

      abbrev pub e : Event
      e = Enter i

      abbrev pub news : List NodeId
      news = starts ++ at i (suc t.index) ∷ []

      abbrev pub log : List BookEntry
      log = with_events b.ledger.log t.now (e ∷ [])

      -- the tables with the stage entered
      abbrev pub with_enter : Tables M
      with_enter = record b {
        rows = set b.rows i y;
        orders = with_start b.orders down_at right_at;
        ledger =
            record { log = log; room = b.ledger.room };
      }

      -- tables with its parts are these tables
      pub entered_tables : {rows' seen : List (IterationRow M)} {again y' : IterationRow M} {marks' : Marks} {number' : ℤ}
          {orders' : OrderPair} {ledger' : Ledger}
          {spare' : List (IterationRow M)} → spare' ≡ b.spare → rows' ≡ set b.rows i y'
          → y' ≡ with_instance number' marks' again → again ≡ r0
          → number' ≡ may.number → seen ≡ rows
          → marks' ≡ marks_after (length b.orders.down.log) (down_taken (Some (marks_at seen i t.index)) (left_marks seen i left))
          (right_taken (Some (marks_at seen i t.index)) (left_marks seen i left))
          → orders' ≡ with_start b.orders (down_taken (Some (marks_at seen i t.index)) (left_marks seen i left))
          (right_taken (Some (marks_at seen i t.index)) (left_marks seen i left))
          → ledger' ≡ record { log = with_events b.ledger.log t.now (Enter i ∷ []); room = b.ledger.room }
          → record b { rows = rows'; spare = spare'; orders = orders'; ledger = ledger' } ≡ with_enter
      entered_tables ep er ey ea en es ek eo el = rw (ep, er, ey, ek, ea, en, es, eo, es, el) refl

      new_row_matches : IsRowOf (not c.stopped) (u f) y
      new_row_matches = subst (λ g. IsRowOf (not c.stopped) g y) (sym entered) (record {
        numbers = ap (λ l. l ++ may.number ∷ []) row_matches.numbers
            ∙ sym (map-append (λ (n : Node). n.number) f.nodes (node_of may.kind may.number ∷ []));
        status = refl;
        marks = length_push r.marks marks ∙ (ap (λ n. n + 1) row_matches.marks ∙ sym (length_push f.nodes (node_of may.kind may.number)));
        fits = (
            let l = row_room in
            let k : length r.numbers ≡ length f.nodes = ap length row_matches.numbers ∙ length-map f.nodes (λ (z : Node). z.number) in
            let w = length_push f.nodes (node_of may.kind may.number) in
            omega (arith, l, k, w));
        traces = λ q. (
            let old : length r.traces ≡ length f.nodes = subst (λ w. HasTraceCount w (length r.traces) (length f.nodes)) may.named
            (row_matches.traces (inl (ap (λ s. not (not s)) going))) in
            let w = length_push f.nodes (node_of may.kind may.number) in
            omega (arith, old, w));
        home = λ q. tt;
      })

      traces_are : map (λ (z : IterationRow M). z.traces) (set b.rows i y) ≡ traces
      traces_are = map_set_same (λ z. z.traces) b.rows i r y at_row refl

      marks_set : map (λ (z : IterationRow M). z.marks) (set b.rows i y) ≡ set (map (λ (z : IterationRow M). z.marks) b.rows) i
          (r.marks ++ marks ∷ [])
      marks_set = map-set (λ (z : IterationRow M). z.marks) b.rows i y

      marks_of_here : (k : ℕ) → k < length (nodes_at cols i)
          → get_or (get_or (map (λ (z : IterationRow M). z.marks) (set b.rows i y)) i []) k no_marks ≡ instance_marks cols news i k
      marks_of_here k l =
          let wide = length-map b.rows (λ (z : IterationRow M). z.marks) in
          let w = within in
          let here : get_or (map (λ (z : IterationRow M). z.marks) (set b.rows i y)) i [] ≡ r.marks ++ marks ∷ [] =
          ap (λ ms. get_or ms i []) marks_set ∙ get_or-set_same (map (λ (z : IterationRow M). z.marks) b.rows) i (r.marks ++ marks ∷ []) []
          (omega (arith, w, wide)) in
          let n = ap length nodes_new in
          let m = length_push f.nodes (node_of may.kind may.number) in
          let rm = row_matches.marks in
          let ix = kept.index in
          ap (λ ms. get_or ms k no_marks) here ∙ elim (cases_lt k (length r.marks)) [
            | inl less ↦ (
                let l' : k < length (nodes_at (own_columns c) i) = (let z = ap length nodes_are in omega (arith, z, less, rm)) in
                get_or_append_left r.marks (marks ∷ []) no_marks k less
                ∙ (ap (λ ms. get_or ms k no_marks) (sym (map_at (λ (z : IterationRow M). z.marks) b.rows i r [] at_row))
                ∙ (h.rows.marks i k l' ∙ sym (marks_same c.frames fs starts (at i (suc t.index)) h.logged.sound grew i k l'))))
            | inr ge ↦ (
                let z : k ≡ suc t.index = omega (arith, l, n, m, rm, ge, ix) in
                get_or_push r.marks marks no_marks k (omega (arith, z, rm, ix)) ∙ (marks_are ∙ ap (instance_marks cols news i) (sym z)))
          ]

      marks_of_other : (j k : ℕ) → j ≢ i → k < length (nodes_at cols j)
          → get_or (get_or (map (λ (z : IterationRow M). z.marks) (set b.rows i y)) j []) k no_marks ≡ instance_marks cols news j k
      marks_of_other j k o l =
          let l' : k < length (nodes_at (own_columns c) j) = subst (λ ns. k < length ns) (nodes_at_other c.frames i j u o) l in
          ap (λ ms. get_or (get_or ms j []) k no_marks) marks_set
          ∙ (ap (λ ms. get_or ms k no_marks) (get_or-set_other (map (λ (z : IterationRow M). z.marks) b.rows) i j
          (r.marks ++ marks ∷ []) [] o)
          ∙ (h.rows.marks j k l' ∙ sym (marks_same c.frames fs starts (at i (suc t.index)) h.logged.sound grew j k l')))

      ends_same : (j : ℕ) → end_actions j log ≡ end_actions j b.ledger.log
      ends_same j = end_actions-push j b.ledger.log (entry_of b.ledger.log t.now e) ∙ append-nil (end_actions j b.ledger.log)

      actions_same : (j : ℕ) → actions_in log traces j ≡ actions_in b.ledger.log traces j
      actions_same j = ap (λ es. map (λ (a : TimedAction). a.action) (laid_traces (Rattle.frame_book.specs.BookStates.made traces j) 0 es))
          (ends_same j)

      actions_keep : HasActions (pipeline_of (tree_of b.program) b.input) log traces (next_state c e)
      actions_keep = record {
        performs = λ j. subst (Performs ((pipeline_of (tree_of b.program) b.input).behaviour j)) (sym (actions_same j))
            (h.actions.performs j);
        matches = λ j g is. elim (frame_at_moved c.frames i j f u g may.is is) [
          | inl here ↦ subst (λ k. MatchesFrame g (actions_in log traces k)) (sym here.0)
              (subst (λ z. MatchesFrame z (actions_in log traces i)) (sym (here.1 ∙ entered))
              (subst (MatchesFrame (entered_frame may.kind may.number f)) (sym (actions_same i)) (record {
                nodes = acts_match.nodes ∙ (ap (λ w. f.nodes ++ pending_nodes w) may.named
                    ∙ sym (append-nil (f.nodes ++ node_of may.kind may.number ∷ [])));
                end = acts_match.end ∙ ap Rattle.pipe_model.specs.Runs.State.end_of_status may.named;
              })))
          | inr there ↦ subst (MatchesFrame g) (sym (actions_same j)) (h.actions.matches j g there.1)
        ];
      }

      tokens_keep : (j : ℕ) (g : Frame) (t' : FrameToken M) → frame_at fs j ≡ Some g → token_at (set b.rows i y) j ≡ Some t'
          → IsKeptToken (ReadyAt (tree_of b.program) b.input) tie (identities_of_orders b.orders) traces news (next_state c e) j g t'
      tokens_keep j g t' is q = elim (frame_at_moved c.frames i j f u g may.is is) [
        | inl here ↦ (let z : None ≡ Some t' = sym (token_at_set b.rows i y within) ∙ (ap (token_at (set b.rows i y)) (sym here.0) ∙ q) in
            absurd (cc))
        | inr there ↦ kept_grows c.frames fs starts (at i (suc t.index)) h.logged.sound grew (ReadyAt (tree_of b.program) b.input) tie
            (identities_of_orders b.orders) traces traces c (next_state c e) j g t' refl refl there.1 refl
            (λ m l. left_passed_moved c.frames i f u may.is move j m l)
            (h.tokens.tokens going j g t' there.1 (sym (token_at_other b.rows i j y there.0) ∙ q))
      ]

      pub enter_keeps : IsBook Whole ReadyAt tie with_enter
      enter_keeps =
          let long = length_with b.ledger.log t.now e in
          let now = h.tokens.nows i t (token_of_row b.rows i r at_row ∙ held) in
          after_event Whole ReadyAt tie with_enter b.ledger.log t.now e news refl (ap (λ k. starts ++ at i k ∷ []) index_is) record {
            sized = sized_set (pipeline_of (tree_of b.program) b.input) b.rows b.spare i r y b.orders.down.capacity b.orders.right.capacity
                b.ledger.room at_row refl h.sized;
            logged = record {
              run = ControlRunThen h.logged.run e refl going may;
              sound = grew.sound;
              entries = (
                  let w = length_push (events_of b.ledger.log) e in
                  let q = running_more c.frames i f u may.is (ap running_of_status may.named)
                  (ap (λ (g : Frame). running_of_status g.status) entered) in
                  let z = h.logged.entries in
                  let v = length_push starts (at i (suc t.index)) in
                  omega (arith, w, q, z, v));
            };
            rows = record {
              each = rows_set (not c.stopped) c.frames b.rows i f u y h.rows.each may.is new_row_matches;
              marks = λ j k l. elim (cases_eq j i) [
                | inl z ↦ subst (λ d. get_or (get_or (map (λ (x : IterationRow M). x.marks) (set b.rows i y)) d []) k no_marks
                    ≡ instance_marks cols news d k) (sym z) (marks_of_here k (subst (λ d. k < length (nodes_at cols d)) z l))
                | inr o ↦ marks_of_other j k o l
              ];
              started = (
                  let v = length_push starts (at i (suc t.index)) in
                  let q = total_set_more (λ (z : IterationRow M). length z.numbers) b.rows i r y at_row
                  (let w = length_push r.numbers may.number in omega (arith, w)) in
                  let z = h.rows.started in
                  omega (arith, v, q, z));
            };
            actions = subst (λ ts. HasActions (pipeline_of (tree_of b.program) b.input) log ts (next_state c e))
                (sym traces_are) actions_keep;
            counted = λ j q. ap length (ends_same j) ∙ (h.counted j (inl going) ∙ ap (λ ts. length (get_or ts j [])) (sym traces_are));
            tokens = record {
              tokens = λ go j g t' is q. subst (λ ts. IsKeptToken (ReadyAt (tree_of b.program) b.input) tie
                  (identities_of_orders b.orders) ts news (next_state c e) j g t') (sym traces_are) (tokens_keep j g t' is q);
              nows = λ j t' q. elim (cases_eq j i) [
                | inl z ↦ (let x : None ≡ Some t' = sym (token_at_set b.rows i y within) ∙ (ap (token_at (set b.rows i y)) (sym z) ∙ q) in
                    absurd (cc))
                | inr m ↦ (let a = h.tokens.nows j t' (sym (token_at_other b.rows i j y m) ∙ q) in omega (arith, a, long))
              ];
              at_home = h.tokens.at_home;
            };
            down = down_grows c.frames fs starts (at i (suc t.index)) h.logged.sound grew b.orders.down.log down_at h.down down_is;
            right = right_grows c.frames fs starts (at i (suc t.index)) h.logged.sound grew b.orders.right.log right_at h.right right_is;
            stopped = h.stopped;
            closed = (let q = closed_moved c.frames i f u may.is (λ x. subst (λ w. ClosesLoop w f.nodes) may.named x)
                (λ x. subst (λ (g : Frame). ClosesLoop g.status g.nodes) entered x) in
                ((λ x. q.0 (h.closed.0 x)), (λ x. h.closed.1 (q.1 x))));
            alive = (let a = alive_set c.frames i f u may.is (ap (λ (g : Frame). alive_one g.status) entered
                ∙ sym (ap alive_one may.named)) in let z = h.alive in omega (arith, a, z));
            size = h.size;
            some = h.some;
            last = (let q = last_ticket_with b.ledger.log t.now e in let l = h.last in omega (arith, q, long, l, now));
            reads = (let z = h.reads in omega (arith, z, long));
            reserve = (let q = length-set b.rows i y in let z = h.reserve in omega (arith, q, z));
            rise = rise_with b.ledger.log t.now e h.rise;
          }

      place_was : get_or (map token_state_of b.rows) i Spent ≡ Kept (fields_of t)
      place_was = map_at token_state_of b.rows i r Spent at_row ∙ ap (λ o. token_state_by o r.status) held

      -- what contracts see
      pub enter_view : book_state with_enter ≡ with_entered (book_state b) i
      enter_view =
          let places : map token_state_of (set b.rows i y) ≡ set (map token_state_of b.rows) i Out = map-set token_state_of b.rows i y in
          rw (traces_are, places, place_was) refl

      pub folded_was : t.folded ≡ kept_folded (get_or (map token_state_of b.rows) i Spent)
      folded_was = ap kept_folded (sym place_was)

      -- the token
      pub enter_given : (m' : M) → ((replies : List (List ℤ)) → ReadyAt (tree_of b.program) b.input t.payload i replies
          → ReadyAt (tree_of b.program) b.input m' i replies)
          → tie m' ≡ record { lists = seen_whole (tie t.payload).lists with_enter.orders; seat = (tie t.payload).seat }
          → IsGivenBy ReadyAt tie (book_state with_enter) (record {
            iteration = t.iteration;
            index = t.index + 1;
            now =
                1 + max (last_ticket b.ledger.log) t.now;
            joined = unwrap_or left t.joined;
            folded = t.folded;
            marks = marks;
            payload = m';
          })
      enter_given m' ready tied =
          let one : t.index + 1 ≡ suc t.index = omega arith in
          let long = length_with b.ledger.log t.now e in
          let last = h.last in
          let now = h.tokens.nows i t (token_of_row b.rows i r at_row ∙ held) in
          let ld = length-append b.orders.down.log (down_at ∷ (1 + length b.orders.down.log) ∷ []) in
          let lr = length-append b.orders.right.log (right_at ∷ (1 + length b.orders.right.log) ∷ []) in
          let wide = length-map b.rows token_state_of in
          let w = within in
          subst (λ d. IsGivenBy ReadyAt tie (book_state with_enter)
          (record {
            iteration = d;
            index = t.index + 1;
            now = 1 + max (last_ticket b.ledger.log) t.now;
            joined =
                unwrap_or left t.joined;
            folded = t.folded;
            marks = marks;
            payload = m';
          })) (sym kept.iteration)
          (subst (λ n. IsGivenBy ReadyAt tie (book_state with_enter)
          (record {
            iteration = i;
            index = n;
            now = 1 + max (last_ticket b.ledger.log) t.now;
            joined =
                unwrap_or left t.joined;
            folded = t.folded;
            marks = marks;
            payload = m';
          })) (sym one) (record {
            out = record {
              out = ap (λ ps. get_or ps i Spent) (map-set token_state_of b.rows i y) ∙ get_or-set_same
                  (map token_state_of b.rows) i Out Spent (omega (arith, w, wide));
              token = token_at_events (events_of log) (next_state c e) news _
                  (ap state_after (events_of_with b.ledger.log t.now e) ∙ state_after-push (events_of b.ledger.log) e)
                  (ap starts_of (events_of_with b.ledger.log t.now e)
                  ∙ (starts_of-push (events_of b.ledger.log) e ∙ ap (λ k. starts ++ at i k ∷ []) index_is)) record {
                    running = record {
                      frame = u f;
                      is = frame_at_updated c.frames i f u may.is;
                      runs =
                          ap (λ (g : Frame). g.status) entered;
                    };
                    index = ap (λ (g : Frame). length g.nodes) entered
                        ∙ (length_push f.nodes (node_of may.kind may.number) ∙ (let ix = kept.index in omega (arith, ix)));
                    marks = marks_are;
                    joined = is_left.joins;
                    folded = λ m x. left_passed_moved c.frames i f u may.is move i m (kept.folded m x);
                  };
              now = omega (arith, long, last, now);
            };
            payload = record {
              belongs = subst (λ z. BelongsTo z (identities_of_orders b.orders)) (sym tied)
                  (names_seen (tie t.payload).lists with_enter.orders (identities_of_orders b.orders) kept.belongs);
              ready = subst (λ ts. ReadyAt (tree_of b.program) b.input m' i (map replies_of (get_or ts i []))) (sym traces_are)
                  (ready (map replies_of (get_or traces i [])) kept.ready);
            };
            knows = subst (λ z. KnowsMarks z marks) (sym tied)
                (knows_new (tie t.payload).lists with_enter.orders (length b.orders.down.log) down_at right_at (omega (arith, ld))
                (omega (arith, lr, down_length, right_length)) placed.down placed.right);
            parts = (
                let same = ap (λ ts. length (map replies_of (get_or ts i []))) traces_are in
                let row = ap (λ ts. length (map replies_of ts)) (traces_of_row b.rows i r at_row) in
                let long = length-map r.traces replies_of in
                let counted : length r.traces ≡ length f.nodes = subst (λ w. HasTraceCount w (length r.traces) (length f.nodes)) may.named
                (row_matches.traces (inl (ap (λ s. not (not s)) going))) in
                let index = kept.index in
                omega (arith, same, row, long, counted, index));
          }))

-- with the kind and the number that were read
abbrev pub named : {M : Type 0} {Whole : SyntaxTree → M → Type 0} {ReadyAt : SyntaxTree → List ℤ → M → ℕ → List (List ℤ) → Type 0}
    {tie : M → Tie} {b : Tables M} → IsBook Whole ReadyAt tie b → {i : ℕ} {r : IterationRow M} → Enters b i r → {kind : Kind} {number : ℤ}
    → r.status ≡ Pending kind number → Enters b i r
named {b = b} h {i = i} entry {kind = kind} {number = number} is = record entry {
  may = may_as (state_after (events_of b.ledger.log)) i entry.may kind number (entry.may.named ∙ (sym (status_is h entry) ∙ is));
}
