use mir.Val.{SFits}
use Rattle.std.proofs.Common.{◌≡◌, ℕ, ℤ, ◌<◌, ◌+◌, ◌^◌, arith, length, set, refl, ap, sym, subst, ◌∙◌, false, Some, None, w64, rules}
use Rattle.std.proofs.Common.{to_z, of_z}
use Rattle.std.proofs.lemmas.Grind.{common_steps}
use Rattle.std.proofs.lemmas.Int.{to_z-of_z}
use Rattle.std.proofs.lemmas.List.{length-set, set-set, get_or-set_same}
use Rattle.order_2d.specs.OrderPairs.{with_start, down_taken, right_taken}
use Rattle.pipe_model.specs.Runs.State.{is_completed, own_columns}
use Rattle.pipe_model.specs.Races.Columns.{nodes_at}
use Rattle.pipe_model.specs.Language.SyntaxTree.{tree_of}
use Rattle.frame_book.specs.BookStates.{BookState, last_ticket, state_of}
use Rattle.frame_book.specs.GivenTokens.{IsGivenBy}
use Rattle.frame_book.specs.Invariant.{IsBook}
use Rattle.frame_book.specs.Tables.{Tables, book_state}
use Rattle.frame_book.specs.BookTables.{tables_of}
use Rattle.pipe_model.specs.declared.marks.Marks.{Marks}
use Rattle.frame_rows.specs.Places.{PlaceTable, spare_rows, with_place}
use Rattle.frame_rows.specs.IterationRows.{IterationRow, left_numbers, marks_at, left_marks}
use Rattle.frame_book.specs.CallEffects.{seen_whole, with_entered}
use Rattle.frame_book.proofs.Keeping.Enter.{Enters, Finds, enters, may_within, named, rows, at_home, status_is, row_room}
use Rattle.frame_book.proofs.Keeping.Enter.{few, room, searchable, kept, index_is, now_below, up_marks, left_has_marks, placed}
use Rattle.frame_book.proofs.Keeping.Enter.{enter_keeps, enter_view, entered_tables, folded_was, enter_given, index_here}
use Rattle.frame_book.proofs.Keeping.Pass.{places_started}
use Rattle.frame_book.proofs.Keeping.Stop.{log_room, last_below}
use Rattle.frame_rows.proofs.AliveRows.{alive_set}
use Rattle.frame_rows.proofs.PlacedRows.{place_free, places_same}
use Rattle.frame_book.specs.TicketLog.{Ledger}
use Rattle.frame_book.proofs.BookLogs.LogEntries.{last_ticket_with}
use Rattle.frame_book.proofs.book.Book.enter_named.Given.{Over}
use Rattle.frame_book.proofs.book.Book.enter_named.Goals.{After-as_slice-2, After-index_mut-row-2}
use Rattle.frame_book.proofs.book.Book.enter_named.Goals as goal

none_is_not_some : {X : Type 0} {x : X} → None ≡ Some x → ⊥
none_is_not_some e = cc

-- the row's stage and token, and what was found to the left
module _ (g : Over) (c : After-as_slice-2 g) where
  abbrev entry : Enters (tables_of c.self.inside) c.args.iteration c.index_mut-row.result.now
  entry = named c.self.invariant.0 (enters c.self.invariant.0 c.self.view_is c.requires.may c.requires.going c.index_mut-row.ensures.value)
      (sym (ap (λ (z : IterationRow _). z.status) c.take_token.ensures.row) ∙ (sym c.status.ensures ∙ c.in-Pending.is))

  held : c.index_mut-row.result.now.token ≡ Some c.in-Some.token
  held = sym c.take_token.ensures.token ∙ c.in-Some.is

  number_is : to_z w64 (of_z w64 c.in-Pending.number) ≡ c.in-Pending.number
  number_is = let fits : SFits w64 c.in-Pending.number = search rules in to_z-of_z w64 c.in-Pending.number fits

  rows_are : c.as_slice-2.result.now ≡ rows c.self.invariant.0 entry
  rows_are = c.as_slice-2.ensures.value ∙ ap (set c.self.inside.rows.items c.args.iteration) c.take_token.ensures.row

  found : Finds c.args.iteration c.in-Pending.kind c.in-Pending.number (left_numbers (rows c.self.invariant.0 entry) c.args.iteration)
      c.in-Some.token.joined c.left_place-left.result
  found =
      let e = c.left_place-left.ensures in
      let same : c.as_slice.result.now ≡ rows c.self.invariant.0 entry = c.as_slice.ensures.value
      ∙ ap (set c.self.inside.rows.items c.args.iteration) c.take_token.ensures.row in
      subst (λ rs. Finds c.args.iteration c.in-Pending.kind c.in-Pending.number (left_numbers rs c.args.iteration) c.in-Some.token.joined
      c.left_place-left.result) same
      (subst (λ z. Finds c.args.iteration c.in-Pending.kind z (left_numbers c.as_slice.result.now c.args.iteration) c.in-Some.token.joined
      c.left_place-left.result) number_is (record { none = e.none; some = e.some; nothing = e.nothing }))

-- the row once more
row_is : (g : Over) (c : After-index_mut-row-2 g) → c.index_mut-row-2.result.now ≡ record (c.index_mut-row.result.now) { token = None }
row_is g c = c.index_mut-row-2.ensures.value ∙ (get_or-set_same c.self.inside.rows.items c.args.iteration c.take_token.new.self
    c.index_mut-row-2.result.now (may_within c.self.invariant.0 c.self.view_is c.requires.may) ∙ c.take_token.ensures.row)

pub index_mut-row-requires : goal.index_mut-row-requires
index_mut-row-requires g c = let l = may_within c.self.invariant.0 c.self.view_is c.requires.may in grind (arith, common_steps)

pub unreachable-requires : goal.unreachable-requires
unreachable-requires g c =
    let x = enters c.self.invariant.0 c.self.view_is c.requires.may c.requires.going c.index_mut-row.ensures.value in
    let q = at_home c.self.invariant.0 x in
    none_is_not_some (sym (sym c.take_token.ensures.token ∙ c.in_default.is) ∙ q.1)

pub unreachable-requires-in_default-status : goal.unreachable-requires-in_default-status
unreachable-requires-in_default-status g c =
    let x = enters c.self.invariant.0 c.self.view_is c.requires.may c.requires.going c.index_mut-row.ensures.value in
    c.in_default-status.not-Pending x.may.kind x.may.number (c.status.ensures
    ∙ (ap (λ (z : IterationRow _). z.status) c.take_token.ensures.row ∙ status_is c.self.invariant.0 x))

pub left_place-left-requires-clause-within : goal.left_place-left-requires-clause-within
left_place-left-requires-clause-within g c =
    let l = may_within c.self.invariant.0 c.self.view_is c.requires.may in
    rw c.as_slice.ensures.value (let w = length-set c.self.inside.rows.items c.args.iteration c.take_token.new.self in omega (arith, w, l))

pub left_place-left-requires-clause-left : goal.left_place-left-requires-clause-left
left_place-left-requires-clause-left g c =
    rw (c.as_slice.ensures.value, c.take_token.ensures.row)
    (searchable c.self.invariant.0 (named c.self.invariant.0 (enters c.self.invariant.0 c.self.view_is c.requires.may c.requires.going
    c.index_mut-row.ensures.value) (sym (ap (λ (z : IterationRow _). z.status) c.take_token.ensures.row)
    ∙ (sym c.status.ensures ∙ c.in-Pending.is))))

pub start_below-marks-requires-clause-up : goal.start_below-marks-requires-clause-up
start_below-marks-requires-clause-up g c =
    let k = (goal.at.start_below-marks-requires-clause-up g c).After-as_slice-2 in
    rw (rows_are g k) (up_marks c.self.invariant.0 (entry g k) (held g k))

pub start_below-marks-requires-clause-left : goal.start_below-marks-requires-clause-left
start_below-marks-requires-clause-left g c =
    let k = (goal.at.start_below-marks-requires-clause-left g c).After-as_slice-2 in
    rw (rows_are g k) (left_has_marks c.self.invariant.0 (entry g k) (held g k) (found g k))

pub start_below-marks-requires-clause-inserted : goal.start_below-marks-requires-clause-inserted
start_below-marks-requires-clause-inserted g c =
    let k = (goal.at.start_below-marks-requires-clause-inserted g c).After-as_slice-2 in
    rw (rows_are g k) (placed c.self.invariant.0 (entry g k) (held g k) (found g k))

pub start_below-marks-requires-clause-room : goal.start_below-marks-requires-clause-room
start_below-marks-requires-clause-room g c =
    room c.self.invariant.0 (entry g (goal.at.start_below-marks-requires-clause-room g c).After-as_slice-2)

pub start_below-marks-requires-clause-belongs : goal.start_below-marks-requires-clause-belongs
start_below-marks-requires-clause-belongs g c =
    let k = (goal.at.start_below-marks-requires-clause-belongs g c).After-as_slice-2 in
    (kept c.self.invariant.0 (entry g k) (held g k)).belongs

pub stamp-requires-clause-room : goal.stamp-requires-clause-room
stamp-requires-clause-room g c = log_room g.M.Stands.whole g.M.Stands.ready_at g.M.Stands.tie (tables_of c.self.inside)
    c.self.invariant.0 (c.self.invariant.0.stopped ∙ subst (λ v. (state_of v).stopped ≡ false) (sym c.self.view_is) c.requires.going)

pub stamp-requires-clause-last : goal.stamp-requires-clause-last
stamp-requires-clause-last g c = last_below g.M.Stands.whole g.M.Stands.ready_at g.M.Stands.tie (tables_of c.self.inside)
    c.self.invariant.0 (c.self.invariant.0.stopped ∙ subst (λ v. (state_of v).stopped ≡ false) (sym c.self.view_is) c.requires.going)

pub stamp-requires-clause-now : goal.stamp-requires-clause-now
stamp-requires-clause-now g c =
    let k = (goal.at.stamp-requires-clause-now g c).After-as_slice-2 in now_below c.self.invariant.0 (entry g k) (held g k)

pub overflow_add-token : goal.overflow_add-token
overflow_add-token g c =
    let k = (goal.at.overflow_add-token g c).After-as_slice-2 in
    let l = few c.self.invariant.0 (entry g k) in
    let e = (kept c.self.invariant.0 (entry g k) (held g k)).index in
    let w : c.in-Some.token.index + 1 < 2 ^ 32 = omega (arith, l, e) in
    grind (arith, common_steps)

pub index_mut-row-requires-2 : goal.index_mut-row-requires-2
index_mut-row-requires-2 g c =
    let l = may_within c.self.invariant.0 c.self.view_is c.requires.may in grind (arith, common_steps)

pub enter-requires : goal.enter-requires
enter-requires g c =
    subst (λ (z : IterationRow _). length z.numbers < z.room) (sym (row_is g c))
    (row_room c.self.invariant.0 (entry g (goal.at.enter-requires g c).After-as_slice-2))

pub left_place-left-requires-clause-holds : goal.left_place-left-requires-clause-holds
left_place-left-requires-clause-holds g c =
    let x = enters c.self.invariant.0 c.self.view_is c.requires.may c.requires.going c.index_mut-row.ensures.value in
    rw c.as_slice.ensures.value
    (places_same _ _ c.args.iteration c.index_mut-row.result.now _ _ x.at_row c.take_token.ensures.row refl refl refl c.self.invariant.2)

pub start_below-marks-requires-clause-holds : goal.start_below-marks-requires-clause-holds
start_below-marks-requires-clause-holds g c =
    let x = enters c.self.invariant.0 c.self.view_is c.requires.may c.requires.going c.index_mut-row.ensures.value in
    rw c.as_slice-2.ensures.value
    (places_same _ _ c.args.iteration c.index_mut-row.result.now _ _ x.at_row c.take_token.ensures.row refl refl refl c.self.invariant.2)

-- no spare row is taken
spare_kept : {M : Type 0} → (old new : PlaceTable) (at : ℕ) (z : ℤ) (m : Marks) → new ≡ with_place at z m old
    → spare_rows {M = M} new.spare ≡ spare_rows old.spare
spare_kept old new at z m e = ap (λ (p : PlaceTable). spare_rows p.spare) e

-- the place of the instance
place_is : (g : Over) (c : After-as_slice-2 g) → c.in-Some.token.index + 1 ≡ length c.index_mut-row.result.now.numbers
place_is g c = index_here c.self.invariant.0 (entry g c) (held g c)

pub put-requires-clause-numbers : goal.put-requires-clause-numbers
put-requires-clause-numbers g c =
    let k = (goal.at.put-requires-clause-numbers g c).After-as_slice-2 in
    let room = row_room c.self.invariant.0 (entry g k) in
    let e = place_is g k in
    (place_free c.self.inside.rows.items c.self.inside.places c.args.iteration (c.in-Some.token.index + 1) c.index_mut-row.result.now
    c.self.invariant.2 (entry g k).at_row (omega (arith, room, e))).0

pub put-requires-clause-marks : goal.put-requires-clause-marks
put-requires-clause-marks g c =
    let k = (goal.at.put-requires-clause-marks g c).After-as_slice-2 in
    let room = row_room c.self.invariant.0 (entry g k) in
    let e = place_is g k in
    (place_free c.self.inside.rows.items c.self.inside.places c.args.iteration (c.in-Some.token.index + 1) c.index_mut-row.result.now
    c.self.invariant.2 (entry g k).at_row (omega (arith, room, e))).1

pub invariant_of-self : goal.invariant_of-self
invariant_of-self g c =
    let k = (goal.at.invariant_of-self g c).After-as_slice-2 in
    let x = entry g k in (
      subst (IsBook g.M.Stands.whole g.M.Stands.ready_at g.M.Stands.tie)
          (sym (entered_tables c.self.invariant.0 (entry g k) (held g k) (found g k)
          (spare_kept c.self.inside.places c.put.new.self _ _ _ c.put.ensures)
          (set-set c.self.inside.rows.items c.args.iteration c.take_token.new.self c.enter.new.self) c.enter.ensures
          (row_is g (goal.at.invariant_of-self g c).After-index_mut-row-2) (number_is g k) (rows_are g k) c.start_below-marks.ensures.marks
          c.start_below-marks.ensures.lists c.stamp.ensures.log))
          (enter_keeps c.self.invariant.0 x (held g k) (found g k)),
      rw (
        set-set c.self.inside.rows.items c.args.iteration c.take_token.new.self c.enter.new.self,
        spare_kept {M = g.row.M.Denot} c.self.inside.places c.put.new.self _ _ _ c.put.ensures,
      )
          (alive_set c.self.inside.rows.items _ c.args.iteration c.index_mut-row.result.now _ _ _ x.at_row
          (ap is_completed (status_is c.self.invariant.0 x)) c.self.invariant.1),
      places_started c.self.inside.rows.items c.self.inside.places c.put.new.self c.args.iteration (c.in-Some.token.index + 1)
          c.index_mut-row.result.now c.take_token.new.self c.index_mut-row-2.result.now c.enter.new.self _ _ x.at_row
          (ap (λ (z : IterationRow _). z.numbers) c.take_token.ensures.row)
          (ap (λ (z : IterationRow _). z.marks) c.take_token.ensures.row) (ap (λ (z : IterationRow _). z.room) c.take_token.ensures.row)
          (c.index_mut-row-2.ensures.value ∙ get_or-set_same c.self.inside.rows.items c.args.iteration c.take_token.new.self
          c.index_mut-row-2.result.now (may_within c.self.invariant.0 c.self.view_is c.requires.may))
          c.enter.ensures (place_is g k) (row_room c.self.invariant.0 x) c.put.ensures c.self.invariant.2,
    )

pub returns-clause-book : goal.returns-clause-book
returns-clause-book g c =
    let k = (goal.at.returns-clause-book g c).After-as_slice-2 in
    ap book_state (entered_tables c.self.invariant.0 (entry g k) (held g k) (found g k)
    (spare_kept c.self.inside.places c.put.new.self _ _ _ c.put.ensures)
    (set-set c.self.inside.rows.items c.args.iteration c.take_token.new.self c.enter.new.self) c.enter.ensures
    (row_is g (goal.at.returns-clause-book g c).After-index_mut-row-2) (number_is g k) (rows_are g k) c.start_below-marks.ensures.marks
    c.start_below-marks.ensures.lists c.stamp.ensures.log)
    ∙ (enter_view c.self.invariant.0 (entry g k) (held g k) (found g k)
    ∙ ap (λ (v : BookState). with_entered v c.args.iteration) c.self.view_is)

pub returns-clause-instance : goal.returns-clause-instance
returns-clause-instance g c =
    let k = (goal.at.returns-clause-instance g c).After-as_slice-2 in
    subst (λ v. (c.in-Some.token.iteration ≡ c.args.iteration)
    × (c.in-Some.token.index + 1 ≡ length (nodes_at (own_columns (state_of v)) c.args.iteration))) c.self.view_is (
      (kept c.self.invariant.0 (entry g k) (held g k)).iteration,
      (let e = index_is c.self.invariant.0 (entry g k) (held g k) in omega (arith, e)),
    )

pub returns-clause-folded : goal.returns-clause-folded
returns-clause-folded g c =
    let k = (goal.at.returns-clause-folded g c).After-as_slice-2 in
    rw (← c.self.view_is) (folded_was c.self.invariant.0 (entry g k) (held g k) (found g k))

pub returns-clause-token : goal.returns-clause-token
returns-clause-token g c =
    let k = (goal.at.returns-clause-token g c).After-as_slice-2 in
    subst (λ (b : Tables _). IsGivenBy g.M.Stands.ready_at g.M.Stands.tie (book_state b) (record {
      iteration = c.in-Some.token.iteration;
      index = c.in-Some.token.index + 1;
      now = c.stamp.result;
      joined = c.unwrap_or.result;
      folded = c.in-Some.token.folded;
      marks = c.start_below-marks.result;
      payload = c.start_below-marks.new.payload;
    })) (sym (entered_tables c.self.invariant.0 (entry g k) (held g k) (found g k)
    (spare_kept c.self.inside.places c.put.new.self _ _ _ c.put.ensures)
    (set-set c.self.inside.rows.items c.args.iteration c.take_token.new.self c.enter.new.self) c.enter.ensures
    (row_is g (goal.at.returns-clause-token g c).After-index_mut-row-2) (number_is g k) (rows_are g k) c.start_below-marks.ensures.marks
    c.start_below-marks.ensures.lists c.stamp.ensures.log))
    (rw (c.start_below-marks.ensures.marks, rows_are g k, c.stamp.ensures.ticket, c.unwrap_or.ensures)
    (enter_given c.self.invariant.0 (entry g k) (held g k) (found g k) c.start_below-marks.new.payload
    (λ replies q. c.start_below-marks.ensures.ready (tree_of c.self.inside.program) c.self.inside.input c.args.iteration replies q)
    (c.start_below-marks.ensures.tie ∙ ap (λ o. record {
      lists = seen_whole (g.M.Stands.tie c.in-Some.token.payload).lists o;
      seat =
          (g.M.Stands.tie c.in-Some.token.payload).seat;
    }) (c.start_below-marks.ensures.lists
    ∙ ap (λ rs. with_start c.self.inside.orders (down_taken (Some (marks_at rs c.args.iteration c.in-Some.token.index))
    (left_marks rs c.args.iteration c.left_place-left.result))
    (right_taken (Some (marks_at rs c.args.iteration c.in-Some.token.index))
    (left_marks rs c.args.iteration c.left_place-left.result))) (rows_are g k)))))

pub returns-clause-now : goal.returns-clause-now
returns-clause-now g c =
    let t = c.stamp.ensures.ticket in
    let q = ap (λ (l : Ledger). last_ticket l.log) c.stamp.ensures.log ∙ last_ticket_with c.self.inside.ledger.log c.in-Some.token.now _ in
    omega (arith, t, q)
