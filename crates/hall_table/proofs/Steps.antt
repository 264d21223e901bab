-- Each kind of step on the table of a hall keeps its rule.
use Rattle.std.proofs.Common.{◌≡◌, ◌≢◌, ℕ, zero, suc, ◌<◌, List, [], ◌∷◌, ◌++◌, length, get_or, set, drop, refl, sym, ap, ◌∙◌, subst, arith}
use Rattle.std.proofs.Common.{⊎_elim, ◌⊎◌, eqb, Option, Some, None}
use mathlib.Core.Option.{none, some}
use mathlib.Core.Logic.{dite}
use native.Mathlib.Decide.{ℕ_discrete}
use lib.ListN.{get_elem?}
use prog.Atomic.{either}
use Rattle.atomic_table.specs.Table.{State, step, keeps, takes, gives, stepped, Allows, Splits, Joins}
use Rattle.atomic_table.proofs.Lists.{exchanged, set_else, set_here}
use Rattle.pipe_model.specs.declared.event.Event.{Event}
use Rattle.pipe_model.specs.declared.ticket.ShardEntry.{ShardEntry}
use Rattle.pipe_model.specs.Language.Programs.{store_of}
use Rattle.pipe_model.specs.Language.SyntaxTree.{tree_of}
use Rattle.pipe_model.specs.Orders.Starts.{IsStarted, starts_of}
use Rattle.pipe_model.specs.Races.Columns.{at as node, nodes_at}
use Rattle.pipe_model.specs.Runs.ControlRun.{ControlRun}
use Rattle.pipe_model.specs.Runs.RunLogs.{state_after}
use Rattle.pipe_model.specs.Runs.State.{own_columns}
use Rattle.pipe_model.specs.declared.ticket.BookEntry.{BookEntry}
use Rattle.pipe_frame.specs.HallViews.{BeginsWith}
use Rattle.std.proofs.lemmas.List.{map-append}
use Rattle.std.proofs.Math.Nat.{le-max_left, le-max_right}
use Rattle.pipe_model.specs.Races.DeterminacyRaces.{Among, Here}
use Rattle.pipe_frame.specs.TokenFields.{fields_of}
use Rattle.pipe_frame.specs.declared.token.FrameToken.{FrameToken}
use Rattle.run_laws.proofs.ListOrders.SoundStarts.{control_starts_sound}
use Rattle.run_laws.proofs.RunStates.Frames.{nodes_at_frame}
use Rattle.access_history.specs.declared.history.MarkedNode.{MarkedNode}
use Rattle.frame_book.specs.BookStates.{BookState, IsOut, events_of, state_of}
use Rattle.hall_table.specs.SeatViews.{HallConstants, HallStart, InstanceData, SlotValue, TheBook, TheShard, constants_of}
use Rattle.hall_shards.specs.ShardValues.{ShardValue}
use Rattle.hall_table.specs.SeatViews.{nothing_known}
use Rattle.hall_table.specs.Logs.{with_at}
use Rattle.hall_table.specs.SeatAccesses.{MadeBy}
use Rattle.hall_shards.specs.Accesses.{next_ticket}
use Rattle.hall_table.specs.BookParts.{HasSeats, KnowsInstance, joined_in, marks_in}
use Rattle.hall_table.specs.ShardParts.{HasShard}
use Rattle.hall_table.specs.HallRule.{Board, IsHall, place, slot_of, value_at, view_of, width}
use Rattle.hall_table.specs.Steps.{ViewAndSlots, IsSnapshot, holding, takes_slot, takes_value, after_book, new_instance, returns_book}
use Rattle.hall_table.specs.Steps.{returns_book_and_token, after_shard, after_entries, after_log, returns_shard, meets, with_longer}
use Rattle.hall_table.specs.Steps.{HoldsAll, ClosedHall, without_run, run_seat, worker_seat, with_run, joined}
use Rattle.hall_table.specs.BookCalls.{IsBookCall}
use Rattle.hall_table.specs.declared.view.View.{View}
use Rattle.hall_table.specs.declared.slot.Slot.{Slot}
use Rattle.hall_table.specs.declared.slot.Slot.TheVariants as slots
use Rattle.hall_table.proofs.Boards.{at_within, begins_all, in_width, with_here, with_else, same_at, take_board, look_board, give_board}
use Rattle.hall_table.proofs.Boards.{longer_begins, begins_none, begins_with_first, begins_with_second, split_instance, split_worker}
use Rattle.hall_table.proofs.Boards.{join_run_board, join_workers}
use Rattle.hall_table.proofs.ControlPrefixes.{control_prefix}
use Rattle.hall_table.proofs.CallEffects.{seats_after_call, shard_after_call}
use Rattle.hall_table.proofs.Sharding.{run_accessed, shard_met, shard_accessed, seats_accessed, other_shard, own_shard}

module _ (M : Type 0) (start : HallStart) where
  abbrev St : Type 0
  St = State (Slot M) View

  abbrev Rule : St → Type 0
  Rule = IsHall start

  -- the seats of the rule are named by their iterations
  named : (s : St) (h : Rule s) (k : ℕ) (d : InstanceData) → h.seats k ≡ Some d → d.fields.iteration ≡ k
  named s h k d e = (h.has_seats.run k d e).0

  -- ---- kinds 1, 3 and 5

  snapshot_at : (s : St) (h : Rule s) (id : ℕ) (v : View) → get_elem? s.views id ≡ some v → (i : ℕ) → i < 17
      → IsSnapshot v.it i (value_at h.book h.shard i)
  snapshot_at s h id v at zero l =
      let r = h.board.right id v at in
      record {
        slot = refl;
        seen = r.seen;
        constants = r.constants;
        control = h.has_seats.control;
        run =
            λ d e. (h.has_seats.run d.fields.iteration d (r.run d e).0).1;
        tokens = h.has_seats.tokens;
        traces = h.has_seats.traces;
      }
  snapshot_at s h id v at (suc k) l =
      let r = h.board.right id v at in
      record {
        before = start.before;
        book = h.book;
        seats = h.seats;
        number = k;
        slot = refl;
        has_seats = h.has_seats;
        has_shard = h.has_shards k (omega (arith, l));
        constants = r.constants;
        run = λ d e. (r.run d e).0;
      }

  -- the rule where nothing but a word is set to what it was
  stays : (s : St) (h : Rule s) (i id n : ℕ) (v : View) → i < width → get_elem? s.views id ≡ some v → get_or s.words i 0 ≡ n
      → Rule (record { words = set s.words i n; homes = s.homes; views = set s.views id v })
  stays s h i id n v l at z = record {
    book = h.book;
    shard = h.shard;
    seats = h.seats;
    constants = h.constants;
    board = (let r = h.board.right id v at in look_board M s h.book h.shard h.seats h.board i id v n l at z v refl refl refl r.seen r.met);
    has_seats = h.has_seats;
    has_shards = h.has_shards;
  }

  -- what was said of one lock at an index is said of each
  of_each : (n i : ℕ) (m k : ViewAndSlots M) (r : ℕ) → takes_value i m r k → takes_slot (step n (place i) 1 0 none) m r k
  of_each n i m k r t j e = (let same : i ≡ j = omega (arith, e) in subst (λ (l : ℕ). takes_value l m r k) same t)

  pub may_take : (n id : ℕ) (m : ViewAndSlots M) (i : ℕ) → i < 17 → Allows Rule n id m (place i) (λ _. 1)
      (takes_slot (step n (place i) 1 0 none) m)
  may_take n id m i l s h _ at _ = dite (ℕ_discrete (get_or s.words (place i) 0) 0)
      (λ z. (
        view_of (holding m.0.it i (value_at h.book h.shard i)),
        takes i (slot_of (value_at h.book h.shard i)),
        (h.board.places i l).home z,
        record {
          book = h.book;
          shard = h.shard;
          seats = h.seats;
          constants = h.constants;
          board = take_board M s h.book h.shard h.seats h.board i id m.0 l at z;
          has_seats = h.has_seats;
          has_shards = h.has_shards;
        },
        of_each n i m _ _ ((λ _. (value_at h.book h.shard i, refl, snapshot_at s h id m.0 at i l)), λ nz. absurd (nz z)),
      ))
      (λ nz. (
        m.0,
        keeps,
        tt,
        stays s h (place i) id 1 m.0 (in_width i width refl l) at ((h.board.places i l).away nz).0,
        of_each n i m _ _ ((λ z. absurd (nz z)), λ _. refl),
      ))

  -- ---- kind 2

  -- the book's holder knows the book
  holds_book : (s : St) (h : Rule s) (id : ℕ) (v : View) (b : BookState) → get_elem? s.views id ≡ some v → v.it.held ≡ (0, TheBook b) ∷ []
      → b ≡ h.book
  holds_book s h id v b at held =
      let q = (h.board.right id v at).held 0 (TheBook b) (subst (λ hs. Among (0, TheBook b) hs) (sym held) Here) in
      let e = q.3 in
      cc

  holds_shard : (s : St) (h : Rule s) (id k : ℕ) (v : View) (x : ShardValue) → get_elem? s.views id ≡ some v
      → v.it.held ≡ (suc k, TheShard x) ∷ [] → (k < 16) × (x ≡ h.shard k)
  holds_shard s h id k v x at held =
      let q = (h.board.right id v at).held (suc k) (TheShard x) (subst (λ hs. Among (suc k, TheShard x) hs) (sym held) Here) in
      let e = q.3 in
      let l = q.0 in
      (omega (arith, l), (cc))

  -- the seat of the iteration before a call
  seat_before : (s : St) (h : Rule s) (id : ℕ) (v : View) (c : BookState) (back given : Option InstanceData)
      → get_elem? s.views id ≡ some v → v.it.run ≡ back → (t : IsBookCall h.book back c given) → h.seats t.iteration ≡ back
  seat_before s h id v c None given at run t = by (h.seats t.iteration) refl
    where
      by : (o : Option InstanceData) → h.seats t.iteration ≡ o → h.seats t.iteration ≡ None
      by None e = e
      by (Some d) e = absurd (let q = h.has_seats.run t.iteration d e in t.free h.seats h.has_seats refl
          (subst (λ n. IsOut h.book n) q.0 q.1.out.out))
  seat_before s h id v c (Some d) given at run t = ap h.seats (sym (t.own d refl)) ∙ ((h.board.right id v at).run d run).0

  abbrev turned_state : (s : St) (id : ℕ) (v : View) (c : BookState) (given : Option InstanceData) → St
  turned_state s id v c given = record {
    words = set s.words 0 0;
    homes = set s.homes 0 (some (slots.Book c));
    views =
        set s.views id (view_of (after_book v.it c given));
  }

  turned : (s : St) (h : Rule s) (id : ℕ) (v : View) (c : BookState) (back given : Option InstanceData) → get_elem? s.views id ≡ some v
      → v.it.held ≡ (0, TheBook h.book) ∷ []
      → v.it.run ≡ back → IsBookCall h.book back c given → Rule (turned_state s id v c given)
  turned s h id v c back given at held run t =
      let i = t.iteration in
      let w : View = view_of (after_book v.it c given) in
      let before_it = seat_before s h id v c back given at run t in
      let seats' = with_at h.seats i given in
      let number' = with_at h.board.number i id in
      let kept = seats_after_call h.book c back given h.seats t h.has_seats before_it in
      -- another seat stands for another iteration
      let apart : (j : ℕ) (u : View) (d : InstanceData) → j ≢ id → get_elem? s.views j ≡ some u → u.it.run ≡ Some d
      → d.fields.iteration ≢ i = λ j u d ne q r same. (
      let p = (h.board.right j u q).run d r in
      let e : back ≡ Some d = sym before_it ∙ (ap h.seats (sym same) ∙ p.0) in
      let mine = (h.board.right id v at).run d (run ∙ e) in
      ne (sym p.1 ∙ mine.1)) in
      record {
        book = c;
        shard = h.shard;
        seats = seats';
        constants = t.moves.constants ∙ h.constants;
        board = give_board M s h.book h.shard h.seats h.board 0 id v w (TheBook h.book) at held c h.shard seats' number'
            (others c) t.moves.constants (let g = t.moves.log in (grown t.moves.added, ap events_of g ∙ grown_is t.moves.added)) refl refl
            (begins_all (events_of c.log)) refl
            (λ d e. (
            let z = t_here d e in
            (ap seats' z ∙ (with_here h.seats i given ∙ e), ap number' z ∙ with_here h.board.number i id)))
            (λ j u d ne q r. (let p = (h.board.right j u q).run d r in let far = apart j u d ne q r in
            (with_else h.seats i given d.fields.iteration far ∙ p.0, with_else h.board.number i id d.fields.iteration far ∙ p.1)))
            (λ k d e. dite (ℕ_discrete k i)
            (λ z. (
            let g : given ≡ Some d = sym (with_here h.seats i given) ∙ (ap seats' (sym z) ∙ e) in (
              w,
              ap (λ n. get_elem? (set s.views id w) n) (ap number' z ∙ with_here h.board.number i id)
                  ∙ set_here s.views id w (at_within s.views id v at),
              g,
            )))
            (λ ne. (
            let old : h.seats k ≡ Some d = sym (with_else h.seats i given k ne) ∙ e in
            let p = h.board.each_seat k d old in
            let far : h.board.number k ≢ id = λ z. (
            let same : p.0 ≡ v = same_at s.views id p.0 v (subst (λ n. get_elem? s.views n ≡ some p.0) z p.1) at in
            let r : back ≡ Some d = sym run ∙ (sym (ap (λ (u : View). u.it.run) same) ∙ p.2) in
            ne (sym (named s h k d old) ∙ t.own d r)) in (
              p.0,
              ap (λ n. get_elem? (set s.views id w) n) (with_else h.board.number i id k ne)
                  ∙ (set_else s.views id (h.board.number k) w far ∙ p.1),
              p.2,
            ))));
        has_seats = kept;
        has_shards = λ k l. shard_after_call h.book c back given h.seats t h.has_seats before_it start.before k (h.shard k)
            (h.has_shards k l);
      }
    where
      others : (c : BookState) (j : ℕ) → j ≢ 0 → value_at c h.shard j ≡ value_at h.book h.shard j
      others c zero ne = absurd (ne refl)
      others c (suc k) ne = refl

      grown : (added : List BookEntry) → List Event
      grown added = events_of added

      grown_is : (added : List BookEntry) → events_of (h.book.log ++ added) ≡ events_of h.book.log ++ events_of added
      grown_is added = map-append (λ (b : BookEntry). b.event) h.book.log added

      t_here : (d : InstanceData) → given ≡ Some d → d.fields.iteration ≡ t.iteration
      t_here d e = ((t.here h.seats h.has_seats (seat_before s h id v c back given at run t)).run d e).0

  book_in : BookState → List (ℕ × Slot M) → BookState
  book_in b [] = b
  book_in b ((k, slots.Book c) ∷ xs) = c
  book_in b ((k, slots.Shard x) ∷ xs) = b
  book_in b ((k, slots.Token t) ∷ xs) = b
  book_in b ((k, slots.Out) ∷ xs) = b

  same_book : (b c : BookState) → ◌≡◌ {A = List (ℕ × Slot M)} ((0, slots.Book b) ∷ []) ((0, slots.Book c) ∷ []) → b ≡ c
  unfolding book_in
  same_book b c e = ap (book_in b) e

  -- the book goes back, by a store or by an exchange that finds the lock taken
  back_by_store : (n id : ℕ) (v : View) (b c : BookState) (back : Option InstanceData) → v.it.held ≡ (0, TheBook b) ∷ [] → v.it.run ≡ back
      → IsBookCall b back c None
      → Allows Rule n id (v, (0, slots.Book c) ∷ []) 0 (λ _. 0) (λ _. returns_book (step n 0 0 0 none) (v, (0, slots.Book c) ∷ []) 0)
  back_by_store n id v b c back held run t s h _ at _ =
      let same = holds_book s h id v b at held in (
        view_of (after_book v.it c None),
        gives,
        tt,
        turned s h id v c back None at (held ∙ ap (λ (z : BookState). (0, TheBook z) ∷ []) same) run
            (subst (λ z. IsBookCall z back c None) same t),
        λ z e. ap (λ (k : BookState). (view_of (after_book v.it k None), [])) (same_book c z e),
      )

  pub may_return_book : (n id : ℕ) (m : ViewAndSlots M) (v : View) (b c : BookState) (back : Option InstanceData)
      → m ≡ (v, (0, slots.Book c) ∷ []) → v.it.held ≡ (0, TheBook b) ∷ [] → v.it.run ≡ back → IsBookCall b back c None
      → Allows Rule n id m 0 (λ _. 0) (λ _. returns_book (step n 0 0 0 none) m 0)
  may_return_book n id m v b c back e held run t = subst (λ (k : ViewAndSlots M). Allows Rule n id k 0 (λ _. 0)
      (λ _. returns_book (step n 0 0 0 none) k 0)) (sym e) (back_by_store n id v b c back held run t)

  same_token : (t u : FrameToken M) → some (slots.Token t) ≡ some (slots.Token u) → t ≡ u
  same_token t u e = cc

  back_by_exchange : (n id : ℕ) (v : View) (b c : BookState) (back : Option InstanceData) (f : FrameToken M)
      → v.it.held ≡ (0, TheBook b) ∷ [] → v.it.run ≡ back → IsBookCall b back c (Some (new_instance c (fields_of f)))
      → Allows Rule n id (v, (0, slots.Book c) ∷ []) 0 (λ k. either (eqb k 1) 0 k)
      (returns_book_and_token (step n 0 1 0 (some (slots.Token f))) (v, (0, slots.Book c) ∷ []))
  back_by_exchange n id v b c back f held run t s h _ at _ =
      let same = holds_book s h id v b at held in
      let given = Some (new_instance c (fields_of f)) in
      let w : View = view_of (after_book v.it c given) in
      let one : get_or s.words 0 0 ≡ 1 = ((h.board.right id v at).held 0 (TheBook b)
      (subst (λ hs. Among (0, TheBook b) hs) (sym held) Here)).2 in
      let q = turned s h id v c back given at (held ∙ ap (λ (z : BookState). (0, TheBook z) ∷ []) same) run
      (subst (λ z. IsBookCall z back c given) same t) in (
        w,
        gives,
        tt,
        exchanged (get_or s.words 0 0) 1 0 (λ k. Rule (stepped s 0 k id ((0, slots.Book c) ∷ []) w gives)) (λ _. q) (λ ne. absurd (ne one)),
        λ z u e g. (let x = same_book c z e in let y = same_token f u g in
            ap (λ (k : BookState). (view_of (after_book v.it k (Some (new_instance k (fields_of f)))), [])) x
            ∙ ap (λ (k : FrameToken M). (view_of (after_book v.it z (Some (new_instance z (fields_of k)))), [])) y),
      )

  pub may_return_book_and_token : (n id : ℕ) (m : ViewAndSlots M) (v : View) (b c : BookState) (back : Option InstanceData)
      (f : FrameToken M) → m ≡ (v, (0, slots.Book c) ∷ []) → v.it.held ≡ (0, TheBook b) ∷ [] → v.it.run ≡ back
      → IsBookCall b back c (Some (new_instance c (fields_of f)))
      → Allows Rule n id m 0 (λ k. either (eqb k 1) 0 k) (returns_book_and_token (step n 0 1 0 (some (slots.Token f))) m)
  may_return_book_and_token n id m v b c back f e held run t =
      subst (λ (k : ViewAndSlots M). Allows Rule n id k 0 (λ j. either (eqb j 1) 0 j)
      (returns_book_and_token (step n 0 1 0 (some (slots.Token f))) k)) (sym e) (back_by_exchange n id v b c back f held run t)

  -- ---- kind 4

  shard_in : ShardValue → List (ℕ × Slot M) → ShardValue
  shard_in b [] = b
  shard_in b ((k, slots.Book c) ∷ xs) = b
  shard_in b ((k, slots.Shard x) ∷ xs) = x
  shard_in b ((k, slots.Token t) ∷ xs) = b
  shard_in b ((k, slots.Out) ∷ xs) = b

  held_shard_in : ShardValue → List (ℕ × SlotValue) → ShardValue
  held_shard_in b [] = b
  held_shard_in b ((k, TheBook c) ∷ xs) = b
  held_shard_in b ((k, TheShard x) ∷ xs) = x

  drop_more : {A : Type 0} (xs : List A) (e : A) → drop (length xs) (xs ++ e ∷ []) ≡ e ∷ []
  drop_more [] e = refl
  drop_more (x ∷ xs) e = drop_more xs e

  drop_all : {A : Type 0} (xs : List A) → drop (length xs) xs ≡ []
  drop_all [] = refl
  drop_all (x ∷ xs) = drop_all xs

  abbrev shard_state : (s : St) (id k : ℕ) (w : View) (y : ShardValue) → St
  shard_state s id k w y = record {
    words = set s.words (place (suc k)) 0;
    homes = set s.homes (suc k)
        (some (slots.Shard y));
    views = set s.views id w;
  }

  -- the shard comes back as it was
  unchanged : (s : St) (h : Rule s) (id k : ℕ) (v : View) → get_elem? s.views id ≡ some v → v.it.held ≡ (suc k, TheShard (h.shard k)) ∷ []
      → Rule (shard_state s id k (view_of (record v.it { held = [] })) (h.shard k))
  unchanged s h id k v at held =
      let w : View = view_of (record v.it { held = [] }) in
      let r = h.board.right id v at in
      record {
        book = h.book;
        shard = h.shard;
        seats = h.seats;
        constants = h.constants;
        board = give_board M s h.book h.shard h.seats h.board (suc k) id v w (TheShard (h.shard k)) at held h.book h.shard h.seats
            h.board.number
            (λ j ne. refl) refl (begins_all (events_of h.book.log)) refl refl r.seen refl
            (λ d e. r.run d e)
            (λ j u d ne q e. (h.board.right j u q).run d e)
            (λ j d e. (
            let p = h.board.each_seat j d e in
            dite (ℕ_discrete (h.board.number j) id)
            (λ z. (
              w,
              subst (λ n. get_elem? (set s.views id w) n ≡ some w) (sym z) (set_here s.views id w (at_within s.views id v at)),
              (let same : p.0 ≡ v = same_at s.views id p.0 v (subst (λ n. get_elem? s.views n ≡ some p.0) z p.1) at in
                  sym (ap (λ (u : View). u.it.run) same) ∙ p.2),
            ))
            (λ ne. (p.0, set_else s.views id (h.board.number j) w ne ∙ p.1, p.2))));
        has_seats = h.has_seats;
        has_shards = h.has_shards;
      }

  -- an instance that runs has started
  run_started : (b : BookState) (seats : ℕ → Option InstanceData) (d : InstanceData) → HasSeats b seats → KnowsInstance b d
      → IsStarted (starts_of (events_of b.log)) (node d.fields.iteration d.fields.index)
  run_started b seats d h r =
      let t = r.out.token in
      let l : d.fields.index < length (nodes_at (own_columns (state_of b)) d.fields.iteration) =
      (let w = t.index in let z = ap length (nodes_at_frame (state_of b).frames d.fields.iteration t.running.frame t.running.is) in
      omega (arith, w, z)) in
      (control_starts_sound h.control).all d.fields.iteration d.fields.index l

  next_after_shard : (last now ticket : ℕ) → ticket ≡ next_ticket last now → last < ticket
  next_after_shard last now ticket e = (let l = le-max_left last now in omega (arith, e, l))

  next_after_now : (last now ticket : ℕ) → ticket ≡ next_ticket last now → now < ticket
  next_after_now last now ticket e = (let l = le-max_right last now in omega (arith, e, l))

  made_state : (s : St) (h : Rule s) (id k : ℕ) (v : View) (d : InstanceData) (y : ShardValue) → get_elem? s.views id ≡ some v
      → v.it.held ≡ (suc k, TheShard (h.shard k)) ∷ [] → v.it.run ≡ Some d → k < 16
      → MadeBy d k (h.shard k) y → Rule (shard_state s id k (view_of (after_shard v.it (h.shard k) y)) y)
  made_state s h id k v d y at held run l g =
      let i = d.fields.iteration in
      let r = h.board.right id v at in
      let here = (r.run d run).0 in
      let ir = (h.has_seats.run i d here).1 in
      let who : MarkedNode = record { node = node i d.fields.index; marks = d.fields.marks } in
      let x = h.shard k in
      let past_shard = next_after_shard x.last d.fields.now g.ticket g.next in
      let past_now = next_after_now x.last d.fields.now g.ticket g.next in
      let x1 : ShardValue = record x { lists = g.made.met } in
      let q = g.made.accessed in
      let hs = h.has_shards k l in
      let old1 = shard_met start.before (store_of (tree_of h.book.program)) (marks_in h.book)
      (joined_in h.book) k x g.made.met g.made.grown hs.shard in
      let new = shard_accessed start.before (store_of (tree_of h.book.program)) (marks_in h.book)
      (joined_in h.book) k x1 y who d.fields.joined g.ticket g.access old1 q g.own g.there ir.out.token.marks ir.out.token.joined
      g.made.known past_shard g.bound in
      let e : ShardEntry = record { ticket = g.ticket; node = who.node; access = g.access } in
      let d' = run_accessed d g.ticket g.access in
      let w : View = view_of (after_shard v.it x y) in
      let run' : w.it.run ≡ Some d' = ap (λ o. after_log o x.log y.log) run ∙ ap (λ es. Some (after_entries d es))
      (ap (drop (length x.log)) q.log ∙ drop_more x.log e) in
      let seats' = with_at h.seats i (Some d') in
      let shard' = with_at h.shard k y in
      let kept = seats_accessed start.before h.book h.seats d g.ticket g.access h.has_seats here past_now g.bound in
      let apart : (j : ℕ) (u : View) (f : InstanceData) → j ≢ id → get_elem? s.views j ≡ some u → u.it.run ≡ Some f
      → f.fields.iteration ≢ i = λ j u f ne z p same. (
      let a = ((h.board.right j u z).run f p).1 in
      let c = (r.run d run).1 in
      ne (sym a ∙ (ap h.board.number same ∙ c))) in
      let b : Board (shard_state s id k w y) h.book shard' seats' =
      subst (λ (z : ShardValue). Board (shard_state s id k w z) h.book shard' seats') (with_here h.shard k y)
      (give_board M s h.book h.shard h.seats h.board (suc k) id v w (TheShard x) at held h.book shard' seats' h.board.number
      (others k y) refl (begins_all (events_of h.book.log)) refl refl r.seen refl
      (λ f p. (
      let o : Some d' ≡ Some f = sym run' ∙ p in
      let z : d' ≡ f = cc in
      subst (λ (t : InstanceData). (seats' t.fields.iteration ≡ Some t) × (h.board.number t.fields.iteration ≡ id)) z
      (with_here h.seats i (Some d'), (r.run d run).1)))
      (λ j u f ne z p. (let a = (h.board.right j u z).run f p in
      (with_else h.seats i (Some d') f.fields.iteration (apart j u f ne z p) ∙ a.0, a.1)))
      (λ j f p. dite (ℕ_discrete j i)
      (λ z. (
      let o : Some d' ≡ Some f = sym (with_here h.seats i (Some d')) ∙ (ap seats' (sym z) ∙ p) in (
        w,
        ap (λ n. get_elem? (set s.views id w) n) (ap h.board.number z ∙ (r.run d run).1)
            ∙ set_here s.views id w (at_within s.views id v at),
        run' ∙ o,
      )))
      (λ ne. (
      let old : h.seats j ≡ Some f = sym (with_else h.seats i (Some d') j ne) ∙ p in
      let t = h.board.each_seat j f old in
      let far : h.board.number j ≢ id = λ z. (
      let same : t.0 ≡ v = same_at s.views id t.0 v (subst (λ n. get_elem? s.views n ≡ some t.0) z t.1) at in
      let o : Some d ≡ Some f = sym run ∙ (sym (ap (λ (u : View). u.it.run) same) ∙ t.2) in
      let y' : d ≡ f = cc in
      ne (sym (named s h j f old) ∙ ap (λ (u : InstanceData). u.fields.iteration) (sym y'))) in
      (t.0, set_else s.views id (h.board.number j) w far ∙ t.1, t.2))))) in
      record {
        book = h.book;
        shard = shard';
        seats = seats';
        constants = h.constants;
        board = b;
        has_seats = kept;
        has_shards = λ j lj. dite (ℕ_discrete j k)
            (λ z. subst (λ n. HasShard start.before h.book seats' n (shard' n)) (sym z)
            (subst (λ t. HasShard start.before h.book seats' k t) (sym (with_here h.shard k y))
            (own_shard start.before h.book h.seats d g.ticket g.access h.has_seats here past_now g.bound k x y g.own hs q.log
            (let a = g.made.grown.identities in let c = q.noted.lists.identities in (c.0 ∙ a.0, c.1 ∙ a.1))
            (run_started h.book h.seats d h.has_seats ir) new)))
            (λ ne. subst (λ t. HasShard start.before h.book seats' j t) (sym (with_else h.shard k y j ne))
            (other_shard start.before h.book h.seats d g.ticket g.access h.has_seats here past_now g.bound j (h.shard j)
            (λ z. ne (sym z ∙ g.own)) (h.has_shards j lj)));
      }
    where
      others : (k : ℕ) (y : ShardValue) (j : ℕ) → j ≢ suc k → value_at h.book (with_at h.shard k y) j ≡ value_at h.book h.shard j
      others k y zero ne = refl
      others k y (suc j) ne = ap TheShard (with_else h.shard k y j (λ z. ne (ap suc z)))

  module _ (n id k : ℕ) (v : View) (x y : ShardValue) (held : v.it.held ≡ (suc k, TheShard x) ∷ []) where
    abbrev shard_sat : ViewAndSlots M
    shard_sat = (v, (suc k, slots.Shard y) ∷ [])

    shard_returned : returns_shard {M = M} (step n (place (suc k)) 0 0 none) shard_sat 0 (view_of (after_shard v.it x y), [])
    unfolding held_shard_in shard_in
    shard_returned j a b e f =
        let p : x ≡ a = ap (held_shard_in x) (sym held ∙ e) in
        let q : y ≡ b = ap (shard_in y) f in
        ap (λ (z : ShardValue). (view_of (after_shard v.it z y), [])) p ∙ ap (λ (z : ShardValue). (view_of (after_shard v.it a z), [])) q

    shard_back : (y ≡ x) ⊎ ((d : InstanceData) × (v.it.run ≡ Some d) × MadeBy d k x y) → Allows Rule n id shard_sat (place (suc k))
        (λ _. 0) (λ _. returns_shard (step n (place (suc k)) 0 0 none) shard_sat 0)
    shard_back how s h _ at _ =
        let p = holds_shard s h id k v x at held in
        let held' : v.it.held ≡ (suc k, TheShard (h.shard k)) ∷ [] = held ∙ ap (λ (z : ShardValue). (suc k, TheShard z) ∷ []) p.1 in
        let w : View = view_of (after_shard v.it x y) in (
          w,
          gives,
          tt,
          ⊎_elim
              (λ (e : y ≡ x). (
              let u = unchanged s h id k v at held' in
              let z : h.shard k ≡ y = sym p.1 ∙ sym e in
              let run : v.it.run ≡ after_log v.it.run x.log y.log = still v.it.run (ap (λ (t : ShardValue). t.log) e) in
              subst (λ (t : View). Rule (shard_state s id k t y)) (ap (λ o. view_of (record v.it { run = o; held = [] })) run)
              (subst (λ (t : ShardValue). Rule (shard_state s id k (view_of (record v.it { held = [] })) t)) z u)))
              (λ (t : (d : InstanceData) × (v.it.run ≡ Some d) × MadeBy d k x y). (
              let g = subst (λ (z : ShardValue). MadeBy t.0 k z y) p.1 t.2 in
              subst (λ (z : ShardValue). Rule (shard_state s id k (view_of (after_shard v.it z y)) y)) (sym p.1)
              (made_state s h id k v t.0 y at held' t.1 p.0 g)))
              how,
          shard_returned,
        )
      where
        still : (o : Option InstanceData) → y.log ≡ x.log → o ≡ after_log o x.log y.log
        still None e = refl
        still (Some d) e = sym (ap (λ es. Some (after_entries d es)) (ap (drop (length x.log)) e ∙ drop_all x.log))

  pub may_return_shard : (n id k : ℕ) (m : ViewAndSlots M) (v : View) (x y : ShardValue) → m ≡ (v, (suc k, slots.Shard y) ∷ [])
      → v.it.held ≡ (suc k, TheShard x) ∷ []
      → (y ≡ x) ⊎ ((d : InstanceData) × (v.it.run ≡ Some d) × MadeBy d k x y) → Allows Rule n id m (place (suc k)) (λ _. 0)
      (λ _. returns_shard (step n (place (suc k)) 0 0 none) m 0)
  may_return_shard n id k m v x y e held how = subst (λ (z : ViewAndSlots M). Allows Rule n id z (place (suc k)) (λ _. 0)
      (λ _. returns_shard (step n (place (suc k)) 0 0 none) z 0)) (sym e) (shard_back n id k v x y held how)

  pub may_return_shard_at : (n id i k : ℕ) (m : ViewAndSlots M) (v : View) (x y : ShardValue) → i ≡ suc k
      → m ≡ (v, (i, slots.Shard y) ∷ []) → v.it.held ≡ (i, TheShard x) ∷ []
      → (y ≡ x) ⊎ ((d : InstanceData) × (v.it.run ≡ Some d) × MadeBy d k x y) → Allows Rule n id m (place i) (λ _. 0)
      (λ _. returns_shard (step n (place i) 0 0 none) m 0)
  may_return_shard_at n id i k m v x y e me held how =
      subst (λ (j : ℕ). m ≡ (v, (j, slots.Shard y) ∷ []) → v.it.held ≡ (j, TheShard x) ∷ []
      → Allows Rule n id m (place j) (λ _. 0) (λ _. returns_shard (step n (place j) 0 0 none) m 0)) (sym e)
      (λ p q. may_return_shard n id k m v x y p q how) me held

  -- ---- kinds 6 and 7

  pub splits_instance : (id : ℕ) (v : View) (d : InstanceData) → v.it.run ≡ Some d → Splits Rule id v (view_of (without_run v.it))
      (view_of (run_seat v.it))
  splits_instance id v d run s h at = record {
    book = h.book;
    shard = h.shard;
    seats = h.seats;
    constants = h.constants;
    board = split_instance M s h.book h.shard h.seats h.board id v at d run ((h.board.right id v at).run d run).0 (named s h);
    has_seats = h.has_seats;
    has_shards = h.has_shards;
  }

  pub splits_worker : (id : ℕ) (v : View) → Splits Rule id v v (view_of (worker_seat v.it))
  splits_worker id v s h at = record {
    book = h.book;
    shard = h.shard;
    seats = h.seats;
    constants = h.constants;
    board = split_worker M s h.book h.shard h.seats h.board id v at;
    has_seats = h.has_seats;
    has_shards = h.has_shards;
  }

  pub joins_instance : (id : ℕ) (v : View) (other : ℕ) (w : View) (d : InstanceData) → v.it.run ≡ None → w.it.run ≡ Some d
      → Joins Rule id v other w (view_of (with_run v.it w.it)) (view_of nothing_known)
  joins_instance id v other w d idle run s h at apart there =
      let there' : get_elem? s.views other ≡ some w = sym (set_else s.views id other (view_of (with_run v.it w.it)) apart) ∙ there in
      record {
        book = h.book;
        shard = h.shard;
        seats = h.seats;
        constants = h.constants;
        board = join_run_board M s h.book h.shard h.seats h.board id v other w at apart there' idle d run (named s h);
        has_seats = h.has_seats;
        has_shards = h.has_shards;
      }

  pub joins_worker : (id : ℕ) (v : View) (other : ℕ) (w : View) → w.it.run ≡ None → Joins Rule id v other w (view_of (joined v.it w.it))
      (view_of nothing_known)
  joins_worker id v other w idle s h at apart there =
      let there' : get_elem? s.views other ≡ some w = sym (set_else s.views id other (view_of (joined v.it w.it)) apart) ∙ there in
      record {
        book = h.book;
        shard = h.shard;
        seats = h.seats;
        constants = h.constants;
        board = join_workers M s h.book h.shard h.seats h.board id v other w at apart there' idle;
        has_seats = h.has_seats;
        has_shards = h.has_shards;
      }

  -- ---- a look at what a joined seat had seen

  pub may_meet : (n id : ℕ) (m : ViewAndSlots M) → Allows Rule n id m 0 (λ k. k) (meets (step n 0 0 0 none) m)
  may_meet n id m s h _ at _ =
      let r = h.board.right id m.0 at in
      let w : View = view_of (with_longer m.0.it) in
      let es = events_of h.book.log in
      let more = longer_begins es m.0.it.seen m.0.it.met r.seen r.met in (
        w,
        keeps,
        tt,
        record {
          book = h.book;
          shard = h.shard;
          seats = h.seats;
          constants = h.constants;
          board = look_board M s h.book h.shard h.seats h.board 0 id m.0 (get_or s.words 0 0) (omega arith) at refl w refl refl refl more
              (begins_none es);
          has_seats = h.has_seats;
          has_shards = h.has_shards;
        },
        (
          refl,
          begins_with_first m.0.it.seen m.0.it.met,
          begins_with_second es m.0.it.seen m.0.it.met r.seen r.met,
          λ a knows. subst (λ (k : HallConstants). ControlRun k.limit w.it.seen (state_after w.it.seen)) (sym (r.constants a knows))
              (control_prefix h.has_seats.control w.it.seen more.0 more.1),
        ),
      )

  -- ---- the end

  -- who has taken everything has the book and the shards of the rule
  pub closed_hall : (s : St) (h : Rule s) (id : ℕ) (v : View) → get_elem? s.views id ≡ some v → (b : BookState) (shard : ℕ → ShardValue)
      → HoldsAll v.it.held b shard
      → ClosedHall start v.it.seen b shard
  closed_hall s h id v at b shard all =
      let r = h.board.right id v at in
      let p = (r.held 0 (TheBook b) all.book).3 in
      let book : h.book ≡ b = cc in
      record {
        seats = h.seats;
        constants = subst (λ z. constants_of z ≡ start.constants) book h.constants;
        has_seats = subst (λ z. HasSeats z h.seats) book h.has_seats;
        has_shards = λ k l. (
            let q = (r.held (suc k) (TheShard (shard k)) (all.shards k l)).3 in
            let same : h.shard k ≡ shard k = cc in
            subst (λ z. HasShard start.before b h.seats k z) same
            (subst (λ z. HasShard start.before z h.seats k (h.shard k)) book (h.has_shards k l)));
        seen = subst (λ (z : BookState). BeginsWith (events_of z.log) v.it.seen) book r.seen;
      }
