-- A book after each of its calls, by the result of the call.
use Rattle.std.specs.Prelude.{◌≡◌, ℕ, ℤ, List, [], ◌∷◌, ◌++◌, ◌+◌, Option, Some, None, Bool, cond, ◌&&◌, not, max, slice_set}
use Rattle.order_2d.specs.OrderPairs.{OrderPair}
use Rattle.pipe_model.specs.declared.event.Event.{Event}
use Rattle.pipe_model.specs.declared.event.Event.TheVariants as events
use Rattle.pipe_model.specs.declared.node.Kind.{Kind}
use Rattle.pipe_model.specs.declared.stage.Counter.{Counter}
use Rattle.pipe_model.specs.declared.stage.StageEnd.{StageEnd}
use Rattle.pipe_model.specs.declared.ticket.Entry.{Entry}
use Rattle.pipe_model.specs.Runs.Allowed.{IsRunning}
use Rattle.pipe_model.specs.Runs.StageEnds.{stage_end_events}
use Rattle.pipe_model.specs.Runs.State.{frame_at}
use Rattle.pipe_frame.specs.CallResults.{begin_events, advance_events, resume_events}
use Rattle.pipe_frame.specs.LeftCounters.{must_read_left, left_counter}
use Rattle.pipe_frame.specs.Ties.{Tie, ListIdentities, SeenLists}
use Rattle.pipe_frame.specs.TokenFields.{TokenFields}
use Rattle.pipe_frame.specs.declared.token.FrameToken.{FrameToken}
use Rattle.pipe_frame.specs.declared.results.Begun.{Begun}
use Rattle.pipe_frame.specs.declared.results.Begun.TheVariants as begun
use Rattle.pipe_frame.specs.declared.results.Named.{Named}
use Rattle.pipe_frame.specs.declared.results.Named.TheVariants as named
use Rattle.pipe_frame.specs.declared.results.Rescue.{Rescue}
use Rattle.pipe_frame.specs.declared.results.Rescue.TheVariants as rescue
use Rattle.pipe_frame.specs.declared.results.Next.{Next}
use Rattle.pipe_frame.specs.declared.results.Next.TheVariants as next
use Rattle.frame_book.specs.BookStates.{BookState, TokenState, Out, Kept, Spent, state_of, last_ticket, with_events, item_or}

-- ---- order lists

abbrev pub identities_of_orders : OrderPair → ListIdentities
identities_of_orders o = record { down = o.down.identity; right = o.right.identity }

-- the lists as seen to their ends
abbrev pub seen_whole : Option SeenLists → OrderPair → Option SeenLists
seen_whole None o = None
seen_whole (Some l) o = Some (record { down = l.down; right = l.right; down_log = o.down.log; right_log = o.right.log })

-- the tie is the same, but its lists have been seen to their ends
abbrev pub SameTieButLogs : Tie → Tie → OrderPair → Type 0
SameTieButLogs new old o = new ≡ record { lists = seen_whole old.lists o; seat = old.seat }

-- ---- `begin`

abbrev pub after_begin : {M : Type 0} → BookState → Begun M → BookState
after_begin v begun.Stopped = v
after_begin v begun.Closed = v
after_begin v begun.NotYet = v
after_begin v begun.Throttled = v
after_begin v (begun.Started t) = record v {
  log = with_events v.log 0 (begin_events (begun.Started t));
  traces = v.traces ++ [] ∷ [];
  tokens = v.tokens ++ Out ∷ [];
}

-- ---- `advance`

-- the left counter is read
abbrev pub reads_left : BookState → TokenFields → StageEnd → Bool
reads_left v t end = not (state_of v).stopped && must_read_left t.iteration t.folded end

-- the counter that is kept afterwards: the left neighbour's if it was read
abbrev pub folded_after : BookState → TokenFields → StageEnd → Option Counter
folded_after v t end = cond (reads_left v t end) (left_counter (state_of v).frames t.iteration) t.folded

-- where the token is afterwards; if the iteration waits, its token has the ticket of its last event
abbrev pub token_after : {M : Type 0} → BookState → TokenFields → StageEnd → Next M → TokenState
token_after v t end next.Stopped = Kept t
token_after v t end next.Ended = Spent
token_after v t end next.Suspended = Kept (record t { now = 1 + max (last_ticket v.log) t.now; folded = folded_after v t end })
token_after v t end (next.Go u) = Out

abbrev pub after_advance : {M : Type 0} → BookState → TokenFields → StageEnd → List Entry → Next M → BookState
after_advance v t end trace result = record v {
  log = with_events v.log t.now (advance_events t.iteration end result);
  traces = slice_set v.traces t.iteration (item_or [] v.traces t.iteration ++ trace ∷ []);
  tokens = slice_set v.tokens t.iteration (token_after v t end result);
  reads = v.reads + cond (reads_left v t end) 1 0;
}

-- ---- `enter` and `check_right`

-- the ticket of a kept token
abbrev pub kept_now : TokenState → ℕ
kept_now Out = 0
kept_now (Kept t) = t.now
kept_now Spent = 0

-- the counter of the left neighbour in a kept token
abbrev pub kept_folded : TokenState → Option Counter
kept_folded Out = None
kept_folded (Kept t) = t.folded
kept_folded Spent = None

-- iteration i has entered the stage that it had named, and its token is out
abbrev pub with_entered : BookState → ℕ → BookState
with_entered v i = record v {
  log = with_events v.log (kept_now (item_or Spent v.tokens i)) (events.Enter i ∷ []);
  tokens =
      slice_set v.tokens i Out;
}

abbrev pub after_enter : {M : Type 0} → BookState → Option (FrameToken M) → BookState
after_enter v None = v
after_enter v (Some t) = with_entered v t.iteration

-- ---- `rescue`

-- the token of iteration i is out; if the iteration had named a stage, it has entered it
abbrev pub with_resumed : BookState → ℕ → BookState
with_resumed v i = record v {
  log = with_events v.log (kept_now (item_or Spent v.tokens i))
      (resume_events (frame_at (state_of v).frames i) i);
  tokens = slice_set v.tokens i Out;
}

abbrev pub after_rescue : {M : Type 0} → BookState → Rescue M → BookState
after_rescue v rescue.Stopped = v
after_rescue v rescue.Finished = v
after_rescue v (rescue.Token t) = with_resumed v t.iteration
after_rescue v rescue.MayBegin = v
after_rescue v rescue.Nothing = v

-- ---- `leave_ready`

-- an instance of iteration i runs, and the book keeps its token
pub record IsReady (v : BookState) (i : ℕ) : Type 0 where
  pub fields : TokenFields
  pub kept : item_or Spent v.tokens i ≡ Kept fields
  pub runs : IsRunning (state_of v) i

abbrev pub after_leave_ready : BookState → TokenFields → BookState
after_leave_ready v t = record v { tokens = slice_set v.tokens t.iteration (Kept t) }

-- ---- `stop`

-- one that is stopped already stays as it is
abbrev pub after_stop : BookState → BookState
after_stop v = record v { log = with_events v.log 0 (cond (state_of v).stopped [] (events.Stop ∷ [])) }

-- ---- `name_next`

-- the instance of the token has ended by this event, and its iteration goes on; the token is kept
abbrev pub with_named : BookState → TokenFields → Event → List Entry → BookState
with_named v t e trace = record v {
  log = with_events v.log t.now (e ∷ []);
  traces = slice_set v.traces t.iteration (item_or [] v.traces t.iteration ++ trace ∷ []);
  tokens = slice_set v.tokens t.iteration (Kept (record t { now = 1 + max (last_ticket v.log) t.now }));
}

-- the instance of the token has ended, its iteration has entered the next stage at once, and its token is out; the left counter was
-- read or not
abbrev pub with_passed : BookState → TokenFields → Kind → ℤ → List Entry → Bool → BookState
with_passed v t kind number trace read = record v {
  log = with_events v.log t.now (events.Advance t.iteration kind number ∷ events.Enter t.iteration ∷ []);
  traces = slice_set v.traces t.iteration (item_or [] v.traces t.iteration ++ trace ∷ []);
  tokens = slice_set v.tokens t.iteration Out;
  reads = v.reads + cond read 1 0;
}

-- it has ended by this event, and its iteration with it
abbrev pub with_finished : BookState → TokenFields → Event → List Entry → BookState
with_finished v t e trace = record v {
  log = with_events v.log t.now (e ∷ []);
  traces = slice_set v.traces t.iteration (item_or [] v.traces t.iteration ++ trace ∷ []);
  tokens = slice_set v.tokens t.iteration Spent;
}

-- it was stopped; a stopped book keeps its token and its trace
abbrev pub with_held : BookState → TokenFields → List Entry → BookState
with_held v t trace = record v {
  traces = slice_set v.traces t.iteration (item_or [] v.traces t.iteration ++ trace ∷ []);
  tokens = slice_set v.tokens t.iteration (Kept t);
}

abbrev pub after_name_next : BookState → TokenFields → StageEnd → List Entry → Named → BookState
after_name_next v t end trace named.Stopped = with_held v t trace
after_name_next v t end trace named.Ended = record v {
  log = with_events v.log t.now (stage_end_events t.iteration end);
  traces = slice_set v.traces t.iteration (item_or [] v.traces t.iteration ++ trace ∷ []);
  tokens = slice_set v.tokens t.iteration Spent;
}
after_name_next v t end trace named.Waits = record v {
  log = with_events v.log t.now (stage_end_events t.iteration end);
  traces = slice_set v.traces t.iteration (item_or [] v.traces t.iteration ++ trace ∷ []);
  tokens = slice_set v.tokens t.iteration (Kept (record t { now = 1 + max (last_ticket v.log) t.now }));
}
