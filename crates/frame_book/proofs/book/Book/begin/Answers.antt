use Rattle.std.proofs.Common.{◌≡◌, ◌<◌, ◌≤◌, ◌+◌, ◌^◌, ◌↔◌, [], ◌∷◌, ◌++◌, arith, length, refl, ap, ap₂, sym}
use Rattle.std.proofs.Common.{subst, ◌∙◌, true, false, not, None, ℕ, pos, inl, inr}
use Rattle.std.proofs.Math.Facts.{Fits-bits}
use Rattle.std.proofs.lemmas.Bool.{cases_eq, true≢false}
use Rattle.std.proofs.lemmas.Grind.{common_steps}
use Rattle.std.proofs.lemmas.List.{length_push, length-map}
use Rattle.std.specs.Prelude.{vec_capacity, vec_len}
use Rattle.std.proofs.Common.{Vec}
use Rattle.order_2d.specs.OrderPairs.{with_start, down_taken, right_taken}
use Rattle.pipe_model.specs.Runs.Allowed.{MayBegin, IsClosed, LastEndedFirstInstance}
use Rattle.pipe_model.specs.Runs.State.{alive}
use Rattle.pipe_model.specs.Language.SyntaxTree.{tree_of}
use Rattle.frame_rows.specs.AliveLists.{HasAliveList}
use Rattle.pipe_model.specs.declared.event.Event.TheVariants.{Begin}
use Rattle.frame_book.specs.BookStates.{last_ticket, BookState, Out, state_of, with_events}
use Rattle.frame_book.specs.GivenTokens.{IsGivenBy}
use Rattle.frame_book.specs.BookTables.{tables_of}
use Rattle.frame_rows.specs.RowsOfFrames.{AreRows}
use Rattle.frame_rows.specs.IterationRows.{IterationRow, head_marks, empty_row, with_instance}
use Rattle.frame_rows.specs.Places.{HoldsRows, place_of, spare_rows, with_place}
use Rattle.frame_book.proofs.Iterations.SpareRows.{row_made, row_placed}
use Rattle.frame_book.specs.CallEffects.{seen_whole}
use Rattle.frame_book.specs.Invariant.{IsBook}
use Rattle.frame_book.specs.Tables.{Tables, book_state}
use Rattle.frame_book.proofs.Keeping.Begin.{Begins, may, few, there, placed, room, spare_some, row_room, begun, begin_keeps, begin_view}
use Rattle.frame_book.proofs.Keeping.Begin.{begin_given, was_home}
use Rattle.frame_book.proofs.Keeping.Stop.{log_room, last_below}
use Rattle.frame_rows.proofs.AliveRows.{alive_push}
use Rattle.frame_rows.proofs.PlacedRows.{place_free, places_added, places_begun, row_at_end}
use Rattle.frame_book.specs.TicketLog.{Ledger}
use Rattle.frame_book.proofs.BookLogs.LogEntries.{last_ticket_with}
use Rattle.frame_book.proofs.book.Book.begin.Given.{Over}
use Rattle.frame_book.proofs.book.Book.begin.Goals.{After-add_row, After-last_has_ended_first, After-len-iteration, In-Some}
use Rattle.frame_book.proofs.book.Book.begin.Goals as goal

len_is : {X Z : Type 0} → (v : Vec X Z) (n : ℕ) → n ≡ vec_len v → n ≡ length v.items
len_is v n e = grind (arith, common_steps)

-- the test of the last iteration
module _ (g : Over) (c : After-last_has_ended_first g) where
  both : (c.last_has_ended_first.result ≡ true) ↔ LastEndedFirstInstance (state_of (book_state (tables_of c.self.inside))).frames
  both =
      let s = state_of (book_state (tables_of c.self.inside)) in
      c.last_has_ended_first.ensures (not s.stopped) s.frames
      (subst (AreRows (not s.stopped) s.frames) (sym c.as_slice.ensures.value) c.self.invariant.0.rows.each)

  going : (state_of (book_state (tables_of c.self.inside))).stopped ≡ false
  going = sym c.self.invariant.0.stopped ∙ c.if-self.false

  unclosed : IsClosed (state_of (book_state (tables_of c.self.inside))).frames → ⊥
  unclosed q = true≢false (sym (c.self.invariant.0.closed.1 q) ∙ c.if-self-2.false)

-- the payload
module _ (g : Over) (c : In-Some g) where
  has_ended : (c.last_has_ended_first.result ≡ true) ↔ LastEndedFirstInstance (state_of (book_state (tables_of c.self.inside))).frames
  has_ended =
      let s = state_of (book_state (tables_of c.self.inside)) in
      c.last_has_ended_first.ensures (not s.stopped) s.frames
      (subst (AreRows (not s.stopped) s.frames) (sym c.as_slice.ensures.value) c.self.invariant.0.rows.each)

  begins : Begins (tables_of c.self.inside) c.take.new.self.home c.in-Some.payload
  begins = record {
    going = c.if-self.false;
    unclosed = c.if-self-2.false;
    ended = has_ended.0 c.if-not-last_has_ended_first.false;
    taken = c.in-Some.ensures.some;
  }

  -- a row is left
  some_left : 0 < length c.self.inside.places.spare
  some_left =
      let e = length-map c.self.inside.places.spare (empty_row {M = g.row.M.Denot}) in
      elim (cases_eq (length c.self.inside.places.spare) 0) [
        | inl none ↦ absurd (spare_some c.self.invariant.0 begins (e ∙ none))
        | inr some ↦ omega (arith, some)
      ]

module _ (g : Over) (c : After-len-iteration g) where
  number_is : c.len-iteration.result ≡ length c.self.inside.rows.items
  number_is = len_is c.self.inside.rows c.len-iteration.result c.len-iteration.ensures

pub returns-then-not-last_has_ended_first-clause-returned : goal.returns-then-not-last_has_ended_first-clause-returned
returns-then-not-last_has_ended_first-clause-returned g c =
    let k = (goal.at.returns-then-not-last_has_ended_first-clause-returned g c).After-last_has_ended_first in
    subst (λ v. ((state_of v).stopped ≡ false) × (IsClosed (state_of v).frames → ⊥) × (LastEndedFirstInstance (state_of v).frames → ⊥))
    c.self.view_is (
      going g k,
      unclosed g k,
      (λ q. true≢false (sym ((both g k).1 q) ∙ c.if-not-last_has_ended_first.true)),
    )

pub returns-in_default-clause-returned : goal.returns-in_default-clause-returned
returns-in_default-clause-returned g c =
    let k = (goal.at.returns-in_default-clause-returned g c).After-last_has_ended_first in
    subst (λ (v : BookState). ((state_of v).stopped ≡ false) × (IsClosed (state_of v).frames → ⊥)
    × LastEndedFirstInstance (state_of v).frames × (v.limit ≤ alive (state_of v))) c.self.view_is (
      going g k,
      unclosed g k,
      (both g k).0 c.if-not-last_has_ended_first.false,
      (let z = ap length (c.in_default.ensures.none.0 refl) in let a = c.self.invariant.0.alive in let q = c.self.invariant.0.size in
          omega (arith, z, a, q)),
    )

pub overflow_cast-iteration : goal.overflow_cast-iteration
overflow_cast-iteration g c =
    let l = few c.self.invariant.0 (begins g (goal.at.overflow_cast-iteration g c).In-Some) in
    let e = number_is g c in
    Fits-bits 31 tt (subst (λ n. n < 2 ^ 31) (sym e) l)

pub start_head-marks-requires-clause-there : goal.start_head-marks-requires-clause-there
start_head-marks-requires-clause-there g c =
    rw c.as_slice-2.ensures.value
    (there c.self.invariant.0 (begins g (goal.at.start_head-marks-requires-clause-there g c).In-Some))

pub start_head-marks-requires-clause-inserted : goal.start_head-marks-requires-clause-inserted
start_head-marks-requires-clause-inserted g c =
    rw c.as_slice-2.ensures.value
    (placed c.self.invariant.0 (begins g (goal.at.start_head-marks-requires-clause-inserted g c).In-Some))

pub start_head-marks-requires-clause-room : goal.start_head-marks-requires-clause-room
start_head-marks-requires-clause-room g c =
    room c.self.invariant.0 (begins g (goal.at.start_head-marks-requires-clause-room g c).In-Some)

pub start_head-marks-requires-clause-belongs : goal.start_head-marks-requires-clause-belongs
start_head-marks-requires-clause-belongs g c =
    rw c.begin.ensures.tie
    (was_home c.self.invariant.0 (begins g (goal.at.start_head-marks-requires-clause-belongs g c).In-Some)).belongs

pub stamp-now-requires-clause-room : goal.stamp-now-requires-clause-room
stamp-now-requires-clause-room g c = log_room g.M.Stands.whole g.M.Stands.ready_at g.M.Stands.tie
    (tables_of c.self.inside) c.self.invariant.0 c.if-self.false

pub stamp-now-requires-clause-last : goal.stamp-now-requires-clause-last
stamp-now-requires-clause-last g c = last_below g.M.Stands.whole g.M.Stands.ready_at g.M.Stands.tie
    (tables_of c.self.inside) c.self.invariant.0 c.if-self.false

pub add_row-requires : goal.add_row-requires
add_row-requires g c = some_left g (goal.at.add_row-requires g c).In-Some

-- the places with those of the new row
module _ (g : Over) (c : After-add_row g) where
  places_with_row : HoldsRows (c.self.inside.rows.items ++ empty_row {M = g.row.M.Denot} c.add_row.result ∷ []) c.add_row.new.self
  places_with_row = places_added c.self.inside.rows.items c.self.inside.places c.add_row.new.self c.add_row.result
      c.add_row.ensures.spare c.add_row.ensures.numbers c.add_row.ensures.marks c.add_row.ensures.stages c.add_row.ensures.count
      c.self.invariant.2

  place_there : 0 < c.add_row.result → (place_of c.add_row.new.self (length c.self.inside.rows.items) 0 < length c.add_row.new.self.numbers)
      × (place_of c.add_row.new.self (length c.self.inside.rows.items) 0 < length c.add_row.new.self.marks)
  place_there some = place_free (c.self.inside.rows.items ++ empty_row c.add_row.result ∷ []) c.add_row.new.self
      (length c.self.inside.rows.items) 0 (empty_row c.add_row.result) places_with_row
      (row_at_end c.self.inside.rows.items (empty_row c.add_row.result)) some

pub put-requires-clause-numbers : goal.put-requires-clause-numbers
put-requires-clause-numbers g c =
    let x = begins g (goal.at.put-requires-clause-numbers g c).In-Some in
    let k = (goal.at.put-requires-clause-numbers g c).After-len-iteration in
    let p = (goal.at.put-requires-clause-numbers g c).After-add_row in
    let some = (row_room c.self.invariant.0 x (spare_rows c.add_row.new.self.spare) (empty_row c.add_row.result)
    (row_made c.self.inside.places.spare c.add_row.new.self.spare c.add_row.result c.add_row.ensures.spare)).0 in
    subst (λ n. place_of c.add_row.new.self n 0 < length c.add_row.new.self.numbers) (sym (number_is g k)) (place_there g p some).0

pub put-requires-clause-marks : goal.put-requires-clause-marks
put-requires-clause-marks g c =
    let x = begins g (goal.at.put-requires-clause-marks g c).In-Some in
    let k = (goal.at.put-requires-clause-marks g c).After-len-iteration in
    let p = (goal.at.put-requires-clause-marks g c).After-add_row in
    let some = (row_room c.self.invariant.0 x (spare_rows c.add_row.new.self.spare) (empty_row c.add_row.result)
    (row_made c.self.inside.places.spare c.add_row.new.self.spare c.add_row.result c.add_row.ensures.spare)).0 in
    subst (λ n. place_of c.add_row.new.self n 0 < length c.add_row.new.self.marks) (sym (number_is g k)) (place_there g p some).1

pub enter-requires : goal.enter-requires
enter-requires g c =
    subst (λ (r : IterationRow _). length r.numbers < r.room) (sym c.new-row.ensures)
    (row_room c.self.invariant.0 (begins g (goal.at.enter-requires g c).In-Some) (spare_rows c.add_row.new.self.spare)
    (empty_row c.add_row.result) (row_made c.self.inside.places.spare c.add_row.new.self.spare c.add_row.result
    c.add_row.ensures.spare)).0

pub push_reserved-requires : goal.push_reserved-requires
push_reserved-requires g c =
    let z = c.self.invariant.0.reserve in
    let w : length (spare_rows {M = g.row.M.Denot} c.self.inside.places.spare)
    ≡ length (spare_rows {M = g.row.M.Denot} c.put.new.self.spare) + 1 =
    ap length
    (row_placed c.self.inside.places c.add_row.new.self c.put.new.self c.add_row.result _ _ _ c.put.ensures c.add_row.ensures.spare)
    ∙ length_push (spare_rows {M = g.row.M.Denot} c.put.new.self.spare) (empty_row c.add_row.result) in
    let l : length c.self.inside.rows.items < vec_capacity c.self.inside.rows = omega (arith, z, w) in
    grind (arith, common_steps)

pub push_reserved-requires-2 : goal.push_reserved-requires-2
push_reserved-requires-2 g c =
    let z = c.self.invariant.1.room in
    let w : length (spare_rows {M = g.row.M.Denot} c.self.inside.places.spare)
    ≡ length (spare_rows {M = g.row.M.Denot} c.put.new.self.spare) + 1 =
    ap length
    (row_placed c.self.inside.places c.add_row.new.self c.put.new.self c.add_row.result _ _ _ c.put.ensures c.add_row.ensures.spare)
    ∙ length_push (spare_rows {M = g.row.M.Denot} c.put.new.self.spare) (empty_row c.add_row.result) in
    let l : length c.self.inside.alive.items < vec_capacity c.self.inside.alive = omega (arith, z, w) in
    grind (arith, common_steps)

pub invariant_of-self-2 : goal.invariant_of-self-2
invariant_of-self-2 g c =
    let k = (goal.at.invariant_of-self-2 g c).After-len-iteration in
    let h = (goal.at.invariant_of-self-2 g c).In-Some in
    let some = (row_room c.self.invariant.0 (begins g h) (spare_rows c.add_row.new.self.spare) (empty_row c.add_row.result)
    (row_made c.self.inside.places.spare c.add_row.new.self.spare c.add_row.result c.add_row.ensures.spare)).0 in
    let listed = subst (λ spare. HasAliveList c.self.inside.rows.items spare c.self.inside.alive.items (vec_capacity c.self.inside.alive))
    (row_placed c.self.inside.places c.add_row.new.self c.put.new.self c.add_row.result _ _ _ c.put.ensures c.add_row.ensures.spare)
    c.self.invariant.1 in (
      subst (IsBook g.M.Stands.whole g.M.Stands.ready_at g.M.Stands.tie)
          (sym (begun c.self.invariant.0 (begins g h) (spare_rows c.put.new.self.spare) (empty_row c.add_row.result)
          (row_placed c.self.inside.places c.add_row.new.self c.put.new.self c.add_row.result _ _ _ c.put.ensures c.add_row.ensures.spare)
          c.push_reserved.ensures.items c.push_reserved.ensures.capacity (c.enter.ensures ∙ ap (with_instance (pos 0)
          c.start_head-marks.result) c.new-row.ensures) c.as_slice-2.ensures.value
          c.start_head-marks.ensures.marks c.start_head-marks.ensures.lists c.stamp-now.ensures.log (number_is g k) c.take.ensures.size))
          (begin_keeps c.self.invariant.0 (begins g h) (spare_rows c.put.new.self.spare) (empty_row c.add_row.result)
          (row_placed c.self.inside.places c.add_row.new.self c.put.new.self c.add_row.result _ _ _ c.put.ensures c.add_row.ensures.spare)
          ),
      rw (c.push_reserved.ensures.items, c.push_reserved-2.ensures.items, c.push_reserved-2.ensures.capacity, number_is g k)
          (alive_push c.self.inside.rows.items (spare_rows c.put.new.self.spare) (empty_row c.add_row.result) _ _ _ listed),
      subst (λ rows. HoldsRows rows c.put.new.self) (sym (c.push_reserved.ensures.items
          ∙ ap (λ (r : IterationRow _). c.self.inside.rows.items ++ r ∷ []) (c.enter.ensures
          ∙ ap (with_instance (pos 0) c.start_head-marks.result) c.new-row.ensures)))
          (subst (HoldsRows (c.self.inside.rows.items ++ with_instance (pos 0) c.start_head-marks.result
          (empty_row c.add_row.result) ∷ [])) (sym (c.put.ensures ∙ ap (λ n. with_place (place_of c.add_row.new.self n 0) (pos 0)
          c.start_head-marks.result c.add_row.new.self) (number_is g k)))
          (places_begun c.self.inside.rows.items c.self.inside.places c.add_row.new.self c.add_row.result c.start_head-marks.result
          c.add_row.ensures.spare c.add_row.ensures.numbers c.add_row.ensures.marks c.add_row.ensures.stages c.add_row.ensures.count
          some c.self.invariant.2)),
    )

pub returns-clause-returned : goal.returns-clause-returned
returns-clause-returned g c =
    let k = (goal.at.returns-clause-returned g c).After-len-iteration in
    let h = (goal.at.returns-clause-returned g c).In-Some in
    let t = (goal.at.returns-clause-returned g c).After-last_has_ended_first in
    subst (λ (v : BookState). ((state_of v).stopped ≡ false) × (IsClosed (state_of v).frames → ⊥)
    × MayBegin v.limit (state_of v) c.len-iteration.result × ◌≡◌ {A = ℕ} 0 0) c.self.view_is
    (going g t, unclosed g t, rw (number_is g k) (may c.self.invariant.0 (begins g h)), refl)

pub returns-clause-book : goal.returns-clause-book
returns-clause-book g c =
    let k = (goal.at.returns-clause-book g c).After-len-iteration in
    let h = (goal.at.returns-clause-book g c).In-Some in
    ap book_state (begun c.self.invariant.0 (begins g h) (spare_rows c.put.new.self.spare) (empty_row c.add_row.result)
    (row_placed c.self.inside.places c.add_row.new.self c.put.new.self c.add_row.result _ _ _ c.put.ensures c.add_row.ensures.spare)
    c.push_reserved.ensures.items c.push_reserved.ensures.capacity (c.enter.ensures ∙ ap (with_instance (pos 0)
    c.start_head-marks.result) c.new-row.ensures) c.as_slice-2.ensures.value
    c.start_head-marks.ensures.marks c.start_head-marks.ensures.lists c.stamp-now.ensures.log (number_is g k) c.take.ensures.size)
    ∙ (begin_view c.self.invariant.0 (begins g h) (spare_rows c.put.new.self.spare) (empty_row c.add_row.result)
    (row_placed c.self.inside.places c.add_row.new.self c.put.new.self c.add_row.result _ _ _ c.put.ensures c.add_row.ensures.spare)
    ∙ ap₂ (λ (v : BookState) i. record v {
      log = with_events v.log 0 (Begin i ∷ []);
      traces = v.traces ++ [] ∷ [];
      tokens = v.tokens ++ Out ∷ [];
    }) c.self.view_is (sym (number_is g k)))

pub returns-clause-token : goal.returns-clause-token
returns-clause-token g c =
    let k = (goal.at.returns-clause-token g c).After-len-iteration in
    let h = (goal.at.returns-clause-token g c).In-Some in
    let orders_are = c.start_head-marks.ensures.lists ∙ ap (λ rs. with_start c.self.inside.orders (down_taken None (head_marks rs))
    (right_taken None (head_marks rs))) c.as_slice-2.ensures.value in
    subst (λ (b : Tables _). IsGivenBy g.M.Stands.ready_at g.M.Stands.tie (book_state b) (record {
      iteration = c.len-iteration.result;
      index = 0;
      now = c.stamp-now.result;
      joined = 0;
      folded = c.new.result;
      marks = c.start_head-marks.result;
      payload = c.start_head-marks.new.payload;
    })) (sym (begun c.self.invariant.0 (begins g h) (spare_rows c.put.new.self.spare) (empty_row c.add_row.result)
    (row_placed c.self.inside.places c.add_row.new.self c.put.new.self c.add_row.result _ _ _ c.put.ensures c.add_row.ensures.spare)
    c.push_reserved.ensures.items c.push_reserved.ensures.capacity (c.enter.ensures ∙ ap (with_instance (pos 0)
    c.start_head-marks.result) c.new-row.ensures) c.as_slice-2.ensures.value
    c.start_head-marks.ensures.marks c.start_head-marks.ensures.lists c.stamp-now.ensures.log (number_is g k) c.take.ensures.size))
    (rw (
      number_is g k,
      c.start_head-marks.ensures.marks,
      c.as_slice-2.ensures.value,
      c.stamp-now.ensures.ticket,
      c.new.ensures,
    )
    (begin_given c.self.invariant.0 (begins g h) (spare_rows c.put.new.self.spare) (empty_row c.add_row.result)
    (row_placed c.self.inside.places c.add_row.new.self c.put.new.self c.add_row.result _ _ _ c.put.ensures c.add_row.ensures.spare)
    c.start_head-marks.new.payload
    (c.start_head-marks.ensures.ready (tree_of c.self.inside.program) c.self.inside.input (length c.self.inside.rows.items) []
    (subst (λ k. g.M.Stands.ready_at (tree_of c.self.inside.program) c.self.inside.input c.begin.new.self k []) (number_is g k)
    (c.begin.ensures.ready (tree_of c.self.inside.program) c.self.inside.input (was_home c.self.invariant.0 (begins g h)).whole)))
    (c.start_head-marks.ensures.tie
    ∙ ap₂ (λ x o. record { lists = seen_whole x.lists o; seat = x.seat }) c.begin.ensures.tie orders_are)))

pub returns-clause-now : goal.returns-clause-now
returns-clause-now g c =
    let t = c.stamp-now.ensures.ticket in
    let q = ap (λ (l : Ledger). last_ticket l.log) c.stamp-now.ensures.log ∙ last_ticket_with c.self.inside.ledger.log 0 _ in
    omega (arith, t, q)

pub invariant_of-self : goal.invariant_of-self
invariant_of-self g c = (
  subst (λ p. IsBook g.M.Stands.whole g.M.Stands.ready_at g.M.Stands.tie (record (tables_of c.self.inside) { pool = p }))
      (sym c.in_default.ensures.unchanged) c.self.invariant.0,
  c.self.invariant.1,
  c.self.invariant.2,
)

pub returns-then-self-2-clause-returned : goal.returns-then-self-2-clause-returned
returns-then-self-2-clause-returned g c =
    subst (λ (v : BookState). ((state_of v).stopped ≡ false) × IsClosed (state_of v).frames) c.self.view_is
    (sym c.self.invariant.0.stopped ∙ c.if-self.false, c.self.invariant.0.closed.0 c.if-self-2.true)
