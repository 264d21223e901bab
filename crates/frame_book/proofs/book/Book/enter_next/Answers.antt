-- The instance ends and its iteration enters the next stage: what holds of the tables in between gives what each step asks for.
use Rattle.std.proofs.Common.{◌≡◌, ℕ, List, [], ◌∷◌, ◌<◌, ◌≤◌, ◌+◌, ◌^◌, arith, length, max, cond, set, refl, ap, ap₂, sym, subst, ◌∙◌}
use Rattle.std.proofs.Common.{false, Option, Some, None}
use Rattle.std.proofs.Common.{w64, to_z, of_z}
use Rattle.std.proofs.lemmas.Grind.{common_steps}
use Rattle.std.proofs.lemmas.Int.{to_z-of_z}
use Rattle.std.proofs.lemmas.List.{length-set, set-set, get_or-set_same}
use Rattle.order_2d.specs.OrderPairs.{OrderPair, marks_after, with_start, down_taken, right_taken}
use Rattle.pipe_model.specs.declared.status.Status.TheVariants.{Pending}
use Rattle.pipe_model.specs.Language.SyntaxTree.{tree_of}
use Rattle.frame_book.specs.BookStates.{last_ticket, state_of, with_events}
use Rattle.pipe_frame.specs.Ties.{BelongsTo}
use Rattle.pipe_model.specs.declared.event.Event.TheVariants.{Advance, Enter}
use Rattle.pipe_model.specs.declared.marks.Marks.{Marks}
use Rattle.frame_book.specs.CallEffects.{seen_whole}
use Rattle.frame_book.specs.GivenTokens.{IsGivenBy, IsOutOf}
use Rattle.pipe_frame.specs.TokenFields.{fields_of}
use Rattle.frame_book.specs.Invariant.{IsBook}
use Rattle.frame_book.specs.Tables.{Tables, book_state}
use Rattle.frame_book.specs.BookTables.{tables_of}
use Rattle.frame_book.specs.TicketLog.{Ledger}
use Rattle.frame_rows.specs.IterationRows.{IterationRow, row_at, with_instance, with_trace, left_numbers, marks_at, left_marks}
use Rattle.frame_rows.specs.Places.{PlaceTable, spare_rows}
use Rattle.frame_book.proofs.BookLogs.LogEntries.{last_ticket_with}
use Rattle.frame_book.proofs.Iterations.OutRows.{alive_out}
use Rattle.frame_book.proofs.Conditions.AdvancedStates.{count_small}
use Rattle.frame_book.proofs.Keeping.Enter.{Enters, Finds, kept, rows, row_room, few, room, searchable, index_here, now_below, up_marks}
use Rattle.frame_book.proofs.Keeping.Enter.{left_has_marks, placed, enter_keeps, enter_view, entered_tables, enter_given, with_enter}
use Rattle.frame_book.proofs.Keeping.LeaveReady.{out_within}
use Rattle.frame_book.proofs.Keeping.Pass as pass
use Rattle.frame_book.proofs.Keeping.Pass.{places_started}
use Rattle.frame_book.proofs.Keeping.Stop.{log_room, last_below}
use Rattle.frame_rows.proofs.PlacedRows.{place_free, places_same}
use Rattle.frame_book.proofs.book.Book.enter_next.Given.{Over}
use Rattle.frame_book.proofs.book.Book.enter_next.Goals.{After-end, After-index_mut-row-2}
use Rattle.frame_book.proofs.book.Book.enter_next.Goals as goal

-- the tables in between
module _ (g : Over) (c : After-end g) where
  abbrev between : Tables g.row.M.Denot
  between = pass.between c.self.invariant.0 c.self.view_is c.args.token c.args.kind c.args.number c.args.trace c.args.read c.requires.going
      c.requires.out c.requires.performs c.requires.payload c.requires.free c.index_mut-row.ensures.value

  abbrev keeps : IsBook g.M.Stands.whole g.M.Stands.ready_at g.M.Stands.tie between
  keeps = pass.keeps c.self.invariant.0 c.self.view_is c.args.token c.args.kind c.args.number c.args.trace c.args.read c.requires.going
      c.requires.out c.requires.performs c.requires.payload c.requires.free c.index_mut-row.ensures.value

  abbrev row : IterationRow g.row.M.Denot
  row = pass.row c.self.invariant.0 c.self.view_is c.args.token c.args.kind c.args.number c.args.trace c.args.read c.requires.going
      c.requires.out c.requires.performs c.requires.payload c.requires.free c.index_mut-row.ensures.value

  abbrev entry : Enters between c.args.token.iteration row
  entry = pass.entry c.self.invariant.0 c.self.view_is c.args.token c.args.kind c.args.number c.args.trace c.args.read c.requires.going
      c.requires.out c.requires.performs c.requires.payload c.requires.free c.index_mut-row.ensures.value

  at : row_at c.self.inside.rows.items c.args.token.iteration ≡ Some c.index_mut-row.result.now
  at = pass.at c.self.invariant.0 c.self.view_is c.args.token c.args.kind c.args.number c.args.trace c.args.read c.requires.going
      c.requires.out c.requires.performs c.requires.payload c.requires.free c.index_mut-row.ensures.value

  within : c.args.token.iteration < length c.self.inside.rows.items
  within = out_within c.self.inside.rows.items c.args.token.iteration
      (pass.out_here c.self.invariant.0 c.self.view_is c.args.token c.args.kind c.args.number c.args.trace c.args.read c.requires.going
      c.requires.out c.requires.performs c.requires.payload c.requires.free c.index_mut-row.ensures.value).out

  number_is : to_z w64 (of_z w64 c.args.number) ≡ c.args.number
  number_is = to_z-of_z w64 c.args.number c.ranges.number

  -- the row with the trace
  ended : c.end.new.self ≡ with_trace c.args.trace (Pending c.args.kind c.args.number) c.index_mut-row.result.now
  ended = c.end.ensures ∙ ap (λ z. with_trace c.args.trace (Pending c.args.kind z) c.index_mut-row.result.now) number_is

  -- the rows while the stage is entered
  rows_are : set c.self.inside.rows.items c.args.token.iteration c.end.new.self ≡ rows keeps entry
  rows_are = pass.rows_between c.self.invariant.0 c.self.view_is c.args.token c.args.kind c.args.number c.args.trace c.args.read
      c.requires.going c.requires.out c.requires.performs c.requires.payload c.requires.free c.index_mut-row.ensures.value ended

  -- what was found to the left
  finds : {seen : List (IterationRow g.row.M.Denot)} {left : Option ℕ} → seen ≡ set c.self.inside.rows.items c.args.token.iteration
      c.end.new.self → Finds c.args.token.iteration c.args.kind (to_z w64 (of_z w64 c.args.number))
      (left_numbers seen c.args.token.iteration) c.args.token.joined left
      → Finds c.args.token.iteration c.args.kind c.args.number (left_numbers (rows keeps entry) c.args.token.iteration)
      c.args.token.joined left
  finds {seen = seen} {left = left} e f = subst (λ rs. Finds c.args.token.iteration c.args.kind c.args.number
      (left_numbers rs c.args.token.iteration) c.args.token.joined left) (e ∙ rows_are)
      (subst (λ z. Finds c.args.token.iteration c.args.kind z (left_numbers seen c.args.token.iteration) c.args.token.joined left)
      number_is f)

  -- the log between the two events
  stamped : {ledger : Ledger} → ledger ≡ record {
    log = with_events c.self.inside.ledger.log c.args.token.now
        (Advance c.args.token.iteration c.args.kind (to_z w64 (of_z w64 c.args.number)) ∷ []);
    room = c.self.inside.ledger.room;
  } → ledger ≡ between.ledger
  stamped e = e ∙ ap (λ z. record {
    log = with_events c.self.inside.ledger.log c.args.token.now (Advance c.args.token.iteration c.args.kind z ∷ []);
    room = c.self.inside.ledger.room;
  }) number_is

  -- the place of the instance
  place_is : c.args.token.index + 1 ≡ length c.index_mut-row.result.now.numbers
  place_is = index_here keeps entry refl

  going : (state_of (book_state between)).stopped ≡ false
  going = entry.going

pub index_mut-row-requires : goal.index_mut-row-requires
index_mut-row-requires g c =
    let w = out_within c.self.inside.rows.items c.args.token.iteration
    (subst (λ v. IsOutOf v (fields_of c.args.token)) (sym c.self.view_is) c.requires.out).out in
    grind (arith, common_steps)

pub left_place-left-requires-clause-holds : goal.left_place-left-requires-clause-holds
left_place-left-requires-clause-holds g c =
    let k = (goal.at.left_place-left-requires-clause-holds g c).After-end in
    rw c.as_slice-rows.ensures.value
    (places_same _ _ c.args.token.iteration c.index_mut-row.result.now _ _ (at g k) c.end.ensures refl refl refl c.self.invariant.2)

pub left_place-left-requires-clause-within : goal.left_place-left-requires-clause-within
left_place-left-requires-clause-within g c =
    let l = within g (goal.at.left_place-left-requires-clause-within g c).After-end in
    rw c.as_slice-rows.ensures.value
    (let w = length-set c.self.inside.rows.items c.args.token.iteration c.end.new.self in omega (arith, w, l))

pub left_place-left-requires-clause-left : goal.left_place-left-requires-clause-left
left_place-left-requires-clause-left g c =
    let k = (goal.at.left_place-left-requires-clause-left g c).After-end in
    rw (c.as_slice-rows.ensures.value, rows_are g k) (searchable (keeps g k) (entry g k))

pub start_below-marks-requires-clause-holds : goal.start_below-marks-requires-clause-holds
start_below-marks-requires-clause-holds g c =
    let k = (goal.at.start_below-marks-requires-clause-holds g c).After-end in
    rw c.as_slice-rows.ensures.value
    (places_same _ _ c.args.token.iteration c.index_mut-row.result.now _ _ (at g k) c.end.ensures refl refl refl c.self.invariant.2)

pub start_below-marks-requires-clause-up : goal.start_below-marks-requires-clause-up
start_below-marks-requires-clause-up g c =
    let k = (goal.at.start_below-marks-requires-clause-up g c).After-end in
    rw (c.as_slice-rows.ensures.value, rows_are g k) (up_marks (keeps g k) (entry g k) refl)

pub start_below-marks-requires-clause-left : goal.start_below-marks-requires-clause-left
start_below-marks-requires-clause-left g c =
    let k = (goal.at.start_below-marks-requires-clause-left g c).After-end in
    let e = c.left_place-left.ensures in
    let found = finds g k c.as_slice-rows.ensures.value (record { none = e.none; some = e.some; nothing = e.nothing }) in
    rw (c.as_slice-rows.ensures.value, rows_are g k) (left_has_marks (keeps g k) (entry g k) refl found)

pub start_below-marks-requires-clause-inserted : goal.start_below-marks-requires-clause-inserted
start_below-marks-requires-clause-inserted g c =
    let k = (goal.at.start_below-marks-requires-clause-inserted g c).After-end in
    let e = c.left_place-left.ensures in
    let found = finds g k c.as_slice-rows.ensures.value (record { none = e.none; some = e.some; nothing = e.nothing }) in
    rw (c.as_slice-rows.ensures.value, rows_are g k) (placed (keeps g k) (entry g k) refl found)

pub start_below-marks-requires-clause-room : goal.start_below-marks-requires-clause-room
start_below-marks-requires-clause-room g c =
    let k = (goal.at.start_below-marks-requires-clause-room g c).After-end in room (keeps g k) (entry g k)

pub start_below-marks-requires-clause-belongs : goal.start_below-marks-requires-clause-belongs
start_below-marks-requires-clause-belongs g c =
    subst (λ v. BelongsTo (g.M.Stands.tie c.args.token.payload) v.lists) (sym c.self.view_is) c.requires.payload.belongs

pub stamp-named-requires-clause-room : goal.stamp-named-requires-clause-room
stamp-named-requires-clause-room g c = log_room g.M.Stands.whole g.M.Stands.ready_at g.M.Stands.tie (tables_of c.self.inside)
    c.self.invariant.0 (c.self.invariant.0.stopped ∙ subst (λ v. (state_of v).stopped ≡ false) (sym c.self.view_is) c.requires.going)

pub stamp-named-requires-clause-last : goal.stamp-named-requires-clause-last
stamp-named-requires-clause-last g c = last_below g.M.Stands.whole g.M.Stands.ready_at g.M.Stands.tie (tables_of c.self.inside)
    c.self.invariant.0 (c.self.invariant.0.stopped ∙ subst (λ v. (state_of v).stopped ≡ false) (sym c.self.view_is) c.requires.going)

pub stamp-named-requires-clause-now : goal.stamp-named-requires-clause-now
stamp-named-requires-clause-now g c =
    let room = log_room g.M.Stands.whole g.M.Stands.ready_at g.M.Stands.tie (tables_of c.self.inside) c.self.invariant.0
    (c.self.invariant.0.stopped ∙ subst (λ v. (state_of v).stopped ≡ false) (sym c.self.view_is) c.requires.going) in
    let out = subst (λ v. IsOutOf v (fields_of c.args.token)) (sym c.self.view_is) c.requires.out in
    let size = c.self.invariant.0.sized.log_room in
    let few = c.self.invariant.0.sized.bounded in
    let now : c.args.token.now ≤ 2 ^ 62 + length c.self.inside.ledger.log = out.now in
    omega (arith, room, now, size, few)

pub stamp-requires-clause-room : goal.stamp-requires-clause-room
stamp-requires-clause-room g c =
    let k = (goal.at.stamp-requires-clause-room g c).After-end in
    rw (stamped g k c.stamp-named.ensures.log) (log_room g.M.Stands.whole g.M.Stands.ready_at g.M.Stands.tie (between g k) (keeps g k)
    ((keeps g k).stopped ∙ going g k))

pub stamp-requires-clause-last : goal.stamp-requires-clause-last
stamp-requires-clause-last g c =
    let k = (goal.at.stamp-requires-clause-last g c).After-end in
    rw (stamped g k c.stamp-named.ensures.log) (last_below g.M.Stands.whole g.M.Stands.ready_at g.M.Stands.tie (between g k) (keeps g k)
    ((keeps g k).stopped ∙ going g k))

pub stamp-requires-clause-now : goal.stamp-requires-clause-now
stamp-requires-clause-now g c =
    let k = (goal.at.stamp-requires-clause-now g c).After-end in
    rw c.stamp-named.ensures.ticket (now_below (keeps g k) (entry g k) refl)

pub overflow_add-index : goal.overflow_add-index
overflow_add-index g c =
    let k = (goal.at.overflow_add-index g c).After-end in
    let l = few (keeps g k) (entry g k) in
    let e = (kept (keeps g k) (entry g k) refl).index in
    let w : c.args.token.index + 1 < 2 ^ 32 = omega (arith, l, e) in
    grind (arith, common_steps)

pub index_mut-row-requires-2 : goal.index_mut-row-requires-2
index_mut-row-requires-2 g c =
    let w = within g (goal.at.index_mut-row-requires-2 g c).After-end in grind (arith, common_steps)

pub put-requires-clause-numbers : goal.put-requires-clause-numbers
put-requires-clause-numbers g c =
    let k = (goal.at.put-requires-clause-numbers g c).After-end in
    let room = row_room (keeps g k) (entry g k) in
    let e = place_is g k in
    (place_free c.self.inside.rows.items c.self.inside.places c.args.token.iteration (c.args.token.index + 1) c.index_mut-row.result.now
    c.self.invariant.2 (at g k) (omega (arith, room, e))).0

pub put-requires-clause-marks : goal.put-requires-clause-marks
put-requires-clause-marks g c =
    let k = (goal.at.put-requires-clause-marks g c).After-end in
    let room = row_room (keeps g k) (entry g k) in
    let e = place_is g k in
    (place_free c.self.inside.rows.items c.self.inside.places c.args.token.iteration (c.args.token.index + 1) c.index_mut-row.result.now
    c.self.invariant.2 (at g k) (omega (arith, room, e))).1

-- the row once more
row_is : (g : Over) (c : After-index_mut-row-2 g) → c.index_mut-row-2.result.now ≡ c.end.new.self
row_is g c = c.index_mut-row-2.ensures.value ∙ get_or-set_same c.self.inside.rows.items c.args.token.iteration c.end.new.self
    c.index_mut-row-2.result.now (out_within c.self.inside.rows.items c.args.token.iteration
    (subst (λ v. IsOutOf v (fields_of c.args.token)) (sym c.self.view_is) c.requires.out).out)

pub enter-requires : goal.enter-requires
enter-requires g c =
    let k = (goal.at.enter-requires g c).After-end in
    subst (λ (z : IterationRow _). length z.numbers < z.room)
    (sym (row_is g (goal.at.enter-requires g c).After-index_mut-row-2 ∙ ended g k))
    (row_room (keeps g k) (entry g k))

pub overflow_add-self : goal.overflow_add-self
overflow_add-self g c =
    let few = c.self.invariant.0.reads in
    let room = log_room g.M.Stands.whole g.M.Stands.ready_at g.M.Stands.tie (tables_of c.self.inside) c.self.invariant.0
    (c.self.invariant.0.stopped ∙ subst (λ v. (state_of v).stopped ≡ false) (sym c.self.view_is) c.requires.going) in
    let size = c.self.invariant.0.sized.log_room in
    let small = c.self.invariant.0.sized.bounded in
    let one = c.count_of-counted.ensures in
    let most = count_small c.args.read in
    let w : c.self.inside.reads + c.count_of-counted.result < 2 ^ 64 = omega (arith, few, room, size, small, one, most) in
    grind (arith, common_steps)

-- the tables once the stage is entered
module _ (g : Over) (c : After-end g) {left : Option ℕ} (found : Finds c.args.token.iteration c.args.kind c.args.number
    (left_numbers (rows (keeps g c) (entry g c)) c.args.token.iteration) c.args.token.joined left)
    {seen : List (IterationRow g.row.M.Denot)} {again y : IterationRow g.row.M.Denot} {marks : Marks} {orders : OrderPair}
    {ledger before : Ledger} {ticket one : ℕ} {spare : List (IterationRow g.row.M.Denot)}
    (rows_seen : seen ≡ set c.self.inside.rows.items c.args.token.iteration c.end.new.self) (again_is : again ≡ c.end.new.self)
    (row_entered : y ≡ with_instance (to_z w64 (of_z w64 c.args.number)) marks again)
    (marks_are : marks ≡ marks_after (length c.self.inside.orders.down.log)
    (down_taken (Some (marks_at seen c.args.token.iteration c.args.token.index)) (left_marks seen c.args.token.iteration left))
    (right_taken (Some (marks_at seen c.args.token.iteration c.args.token.index)) (left_marks seen c.args.token.iteration left)))
    (orders_are : orders ≡ with_start c.self.inside.orders
    (down_taken (Some (marks_at seen c.args.token.iteration c.args.token.index)) (left_marks seen c.args.token.iteration left))
    (right_taken (Some (marks_at seen c.args.token.iteration c.args.token.index)) (left_marks seen c.args.token.iteration left)))
    (before_is : before ≡ record {
      log = with_events c.self.inside.ledger.log c.args.token.now
          (Advance c.args.token.iteration c.args.kind (to_z w64 (of_z w64 c.args.number)) ∷ []);
      room = c.self.inside.ledger.room;
    }) (ticket_is : ticket ≡ 1 + max (last_ticket c.self.inside.ledger.log) c.args.token.now)
    (ledger_is : ledger ≡ record { log = with_events before.log ticket (Enter c.args.token.iteration ∷ []); room = before.room })
    (spare_is : spare ≡ spare_rows c.self.inside.places.spare) (one_is : one ≡ cond c.args.read 1 0)
  where
    row_before : again ≡ record (row g c) { token = None }
    row_before = again_is ∙ (ended g c ∙ pass.row_between c.self.invariant.0 c.self.view_is c.args.token c.args.kind c.args.number
        c.args.trace c.args.read c.requires.going c.requires.out c.requires.performs c.requires.payload c.requires.free
        c.index_mut-row.ensures.value)

    log_is : ledger ≡ record {
      log = with_events (between g c).ledger.log (1 + max (last_ticket c.self.inside.ledger.log) c.args.token.now)
          (Enter c.args.token.iteration ∷ []);
      room = (between g c).ledger.room;
    }
    log_is = ledger_is ∙ ap₂ (λ (l : Ledger) (n : ℕ). record {
      log = with_events l.log n (Enter c.args.token.iteration ∷ []);
      room = l.room;
    }) (stamped g c before_is) ticket_is

    rows_twice : set (set c.self.inside.rows.items c.args.token.iteration c.end.new.self) c.args.token.iteration y
        ≡ set (between g c).rows c.args.token.iteration y
    rows_twice = set-set c.self.inside.rows.items c.args.token.iteration c.end.new.self y
        ∙ sym (set-set c.self.inside.rows.items c.args.token.iteration (row g c) y)

    passed_tables : record (tables_of c.self.inside) {
      rows = set (set c.self.inside.rows.items c.args.token.iteration c.end.new.self) c.args.token.iteration y;
      spare = spare;
      orders = orders;
      ledger = ledger;
      reads = c.self.inside.reads + one;
    } ≡ with_enter (keeps g c) (entry g c) refl found
    passed_tables = rw one_is (entered_tables (keeps g c) (entry g c) refl found spare_is rows_twice row_entered row_before
        (number_is g c) (rows_seen ∙ rows_are g c) marks_are orders_are log_is)

pub invariant_of-self : goal.invariant_of-self
invariant_of-self g c =
    let k = (goal.at.invariant_of-self g c).After-end in
    let e = c.left_place-left.ensures in
    let found = finds g k c.as_slice-rows.ensures.value (record { none = e.none; some = e.some; nothing = e.nothing }) in
    let same = passed_tables g k found c.as_slice-rows.ensures.value
    (row_is g (goal.at.invariant_of-self g c).After-index_mut-row-2) c.enter.ensures c.start_below-marks.ensures.marks
    c.start_below-marks.ensures.lists c.stamp-named.ensures.log c.stamp-named.ensures.ticket c.stamp.ensures.log
    (ap (λ (p : PlaceTable). spare_rows p.spare) c.put.ensures) c.count_of-counted.ensures in
    let out = subst (λ v. IsOutOf v (fields_of c.args.token)) (sym c.self.view_is) c.requires.out in (
      subst (IsBook g.M.Stands.whole g.M.Stands.ready_at g.M.Stands.tie) (sym same) (enter_keeps (keeps g k) (entry g k) refl found),
      rw (
        set-set c.self.inside.rows.items c.args.token.iteration c.end.new.self c.enter.new.self,
        ap (λ (p : PlaceTable). spare_rows {M = g.row.M.Denot} p.spare) c.put.ensures,
      ) (alive_out c.self.inside.rows.items _ c.args.token.iteration c.index_mut-row.result.now _ _ _ (at g k) out.out c.self.invariant.1),
      places_started c.self.inside.rows.items c.self.inside.places c.put.new.self c.args.token.iteration (c.args.token.index + 1)
          c.index_mut-row.result.now c.end.new.self c.index_mut-row-2.result.now c.enter.new.self _ _ (at g k)
          (ap (λ (z : IterationRow _). z.numbers) c.end.ensures) (ap (λ (z : IterationRow _). z.marks) c.end.ensures)
          (ap (λ (z : IterationRow _). z.room) c.end.ensures) (row_is g (goal.at.invariant_of-self g c).After-index_mut-row-2)
          c.enter.ensures (place_is g k) (row_room (keeps g k) (entry g k)) c.put.ensures c.self.invariant.2,
    )

pub returns-clause-book : goal.returns-clause-book
returns-clause-book g c =
    let k = (goal.at.returns-clause-book g c).After-end in
    let e = c.left_place-left.ensures in
    let found = finds g k c.as_slice-rows.ensures.value (record { none = e.none; some = e.some; nothing = e.nothing }) in
    let same = passed_tables g k found c.as_slice-rows.ensures.value
    (row_is g (goal.at.returns-clause-book g c).After-index_mut-row-2) c.enter.ensures c.start_below-marks.ensures.marks
    c.start_below-marks.ensures.lists c.stamp-named.ensures.log c.stamp-named.ensures.ticket c.stamp.ensures.log
    (ap (λ (p : PlaceTable). spare_rows p.spare) c.put.ensures) c.count_of-counted.ensures in
    ap book_state same ∙ (enter_view (keeps g k) (entry g k) refl found
    ∙ pass.passed_view c.self.invariant.0 c.self.view_is c.args.token c.args.kind c.args.number c.args.trace c.args.read
    c.requires.going c.requires.out c.requires.performs c.requires.payload c.requires.free c.index_mut-row.ensures.value)

pub returns-clause-now : goal.returns-clause-now
returns-clause-now g c =
    let t = c.stamp.ensures.ticket in
    let q = ap (λ (l : Ledger). last_ticket l.log) c.stamp.ensures.log
    ∙ last_ticket_with c.stamp-named.new.self.log c.stamp-named.result _ in
    omega (arith, t, q)

pub returns-clause-token : goal.returns-clause-token
returns-clause-token g c =
    let k = (goal.at.returns-clause-token g c).After-end in
    let e = c.left_place-left.ensures in
    let found = finds g k c.as_slice-rows.ensures.value (record { none = e.none; some = e.some; nothing = e.nothing }) in
    let same = passed_tables g k found c.as_slice-rows.ensures.value
    (row_is g (goal.at.returns-clause-token g c).After-index_mut-row-2) c.enter.ensures c.start_below-marks.ensures.marks
    c.start_below-marks.ensures.lists c.stamp-named.ensures.log c.stamp-named.ensures.ticket c.stamp.ensures.log
    (ap (λ (p : PlaceTable). spare_rows p.spare) c.put.ensures) c.count_of-counted.ensures in
    subst (λ (b : Tables _). IsGivenBy g.M.Stands.ready_at g.M.Stands.tie (book_state b) (record {
      iteration = c.args.token.iteration;
      index = c.args.token.index + 1;
      now = c.stamp.result;
      joined = c.unwrap_or-joined.result;
      folded = c.args.token.folded;
      marks = c.start_below-marks.result;
      payload = c.start_below-marks.new.payload;
    })) (sym same)
    (rw (
      c.start_below-marks.ensures.marks,
      c.as_slice-rows.ensures.value,
      rows_are g k,
      c.stamp.ensures.ticket,
      stamped g k c.stamp-named.ensures.log,
      c.stamp-named.ensures.ticket,
      c.unwrap_or-joined.ensures,
    ) (enter_given (keeps g k) (entry g k) refl found c.start_below-marks.new.payload
    (λ replies q. c.start_below-marks.ensures.ready (tree_of c.self.inside.program) c.self.inside.input c.args.token.iteration replies q)
    (c.start_below-marks.ensures.tie ∙ ap (λ o. record {
      lists = seen_whole (g.M.Stands.tie c.args.token.payload).lists o;
      seat = (g.M.Stands.tie c.args.token.payload).seat;
    }) (c.start_below-marks.ensures.lists
    ∙ ap (λ rs. with_start c.self.inside.orders
    (down_taken (Some (marks_at rs c.args.token.iteration c.args.token.index)) (left_marks rs c.args.token.iteration
    c.left_place-left.result))
    (right_taken (Some (marks_at rs c.args.token.iteration c.args.token.index)) (left_marks rs c.args.token.iteration
    c.left_place-left.result))) (c.as_slice-rows.ensures.value ∙ rows_are g k)))))
