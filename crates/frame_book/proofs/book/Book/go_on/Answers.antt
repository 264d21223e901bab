use Rattle.std.proofs.Common.{◌≡◌, ◌<◌, ◌≤◌, ◌+◌, ◌^◌, ◌++◌, ◌∷◌, [], arith, length, set, ap, ap₂, sym, subst, ◌∙◌, true, false}
use Rattle.std.proofs.Common.{ℕ, zero, suc, not, cond, w64, max, to_z, of_z}
use Rattle.std.proofs.lemmas.Bool.{false≢true}
use Rattle.std.proofs.lemmas.Grind.{common_steps}
use Rattle.std.proofs.lemmas.Int.{to_z-of_z}
use Rattle.dep_fold.specs.Folding.{FoldedPasses}
use Rattle.pipe_model.specs.declared.event.Event.TheVariants.{Advance}
use Rattle.pipe_model.specs.declared.node.Kind.TheVariants.{Wait}
use Rattle.pipe_model.specs.declared.stage.Counter.{Counter}
use Rattle.pipe_model.specs.declared.stage.StageEnd.{StageEnd}
use Rattle.pipe_model.specs.Pipelines.Behaviour.{Performs, Staged}
use Rattle.pipe_frame.specs.Replies.{accessed}
use Rattle.pipe_model.specs.Runs.Allowed.{LeftHasPassed}
use Rattle.pipe_model.specs.Runs.StageEnds.{stage_end_events}
use Rattle.std.specs.Prelude.{Option}
use Rattle.pipe_frame.specs.LeftCounters.{IsNotAhead, must_read_left}
use Rattle.pipe_frame.specs.TokenFields.{fields_of}
use Rattle.frame_book.specs.BookStates.{BookState, Kept, IsOut, state_of, with_events, last_ticket, item_or, left_of}
use Rattle.frame_book.specs.BookTables.{tables_of}
use Rattle.frame_book.specs.GivenTokens.{IsOutOf}
use Rattle.frame_rows.specs.RowsOfFrames.{AreRows}
use Rattle.frame_rows.specs.IterationRows.{WaitsAt, left_row_counter}
use Rattle.frame_book.specs.CallEffects.{with_named, folded_after, reads_left}
use Rattle.frame_rows.specs.NamedStages.{stage_end}
use Rattle.frame_book.proofs.Conditions.KeptCounters.{not_ahead, lets, let_by, goes_by, waits_by, end_is, left_counter_same}
use Rattle.frame_book.proofs.Conditions.AdvancedStates.{count_small, more_reads, reads_is}
use Rattle.frame_book.proofs.BookLogs.LogEntries.{length_with}
use Rattle.frame_book.proofs.Keeping.LeaveReady.{out_within}
use Rattle.frame_book.proofs.Keeping.Stop.{log_room}
use Rattle.frame_book.proofs.book.Book.go_on.Given.{Over}
use Rattle.frame_book.proofs.book.Book.go_on.Goals.{After-lets_enter-enters, After-count_of}
use Rattle.frame_book.proofs.book.Book.go_on.Goals as goal

-- before the event
module _ (g : Over) (c : After-lets_enter-enters g) where
  number_is : to_z w64 (of_z w64 c.args.number) ≡ c.args.number
  number_is = to_z-of_z w64 c.args.number c.ranges.number

  rows : AreRows (not (state_of c.args.self.now).stopped) (state_of c.args.self.now).frames c.self.inside.rows.items
  rows = subst (λ (v : BookState). AreRows (not (state_of v).stopped) (state_of v).frames c.self.inside.rows.items) c.self.view_is
      c.self.invariant.0.rows.each

  within : c.args.token.iteration ≤ length c.self.inside.rows.items
  within = let l = out_within c.self.inside.rows.items c.args.token.iteration
      (subst (λ v. IsOut v c.args.token.iteration) (sym c.self.view_is) c.requires.out.out) in omega (arith, l)

  read : c.needs_left-read.result ≡ must_read_left c.args.token.iteration c.args.token.folded (stage_end c.args.kind c.args.number)
  read = c.needs_left-read.ensures ∙ ap (λ z. must_read_left c.args.token.iteration c.args.token.folded (stage_end c.args.kind z)) number_is

  now : c.fold_left.new.folded ≡ cond c.needs_left-read.result (left_row_counter c.self.inside.rows.items c.args.token.iteration)
      c.args.token.folded
  now = c.fold_left.ensures ∙ ap (λ rs. cond c.needs_left-read.result (left_row_counter rs c.args.token.iteration) c.args.token.folded)
      c.as_slice.ensures.value

  -- the test of the kept counter
  free : (WaitsAt c.args.kind c.args.token.iteration → FoldedPasses c.fold_left.new.folded (to_z w64 (of_z w64 c.args.number)))
      → c.args.kind ≡ Wait → LeftHasPassed (state_of c.args.self.now).frames c.args.token.iteration c.args.number
  free p = lets _ (state_of c.args.self.now).frames c.self.inside.rows.items c.args.token.iteration c.args.kind c.args.number
      c.needs_left-read.result c.args.token.folded rows within c.requires.out.token.folded read
      (subst (λ (o : Option Counter). WaitsAt c.args.kind c.args.token.iteration → FoldedPasses o c.args.number) now
      (subst (λ z. WaitsAt c.args.kind c.args.token.iteration → FoldedPasses c.fold_left.new.folded z) number_is p))

  passes : (c.args.kind ≡ Wait → LeftHasPassed (state_of c.args.self.now).frames c.args.token.iteration c.args.number)
      → WaitsAt c.args.kind c.args.token.iteration → FoldedPasses c.fold_left.new.folded (to_z w64 (of_z w64 c.args.number))
  passes p = subst (λ z. WaitsAt c.args.kind c.args.token.iteration → FoldedPasses c.fold_left.new.folded z) (sym number_is)
      (subst (λ (o : Option Counter). WaitsAt c.args.kind c.args.token.iteration → FoldedPasses o c.args.number) (sym now)
      (let_by _ (state_of c.args.self.now).frames c.self.inside.rows.items c.args.token.iteration c.args.kind c.args.number
      c.needs_left-read.result c.args.token.folded rows within c.requires.out.token.folded read p))

  reads_are : c.needs_left-read.result ≡ reads_left c.args.self.now (fields_of c.args.token) (stage_end c.args.kind c.args.number)
  reads_are = read ∙ sym (reads_is c.args.self.now (fields_of c.args.token) (stage_end c.args.kind c.args.number) c.requires.going)

  folded_is : c.fold_left.new.folded ≡ folded_after c.args.self.now (fields_of c.args.token) (stage_end c.args.kind c.args.number)
  folded_is = now ∙ ap₂ (λ b o. cond b o c.args.token.folded) reads_are (left_counter_same _ (state_of c.args.self.now).frames
      c.self.inside.rows.items c.args.token.iteration rows)

-- after it
module _ (g : Over) (c : After-count_of g) where
  abbrev named : BookState
  named = with_named c.args.self.now (record (fields_of c.args.token) { folded = c.fold_left.new.folded })
      (Advance c.args.token.iteration c.args.kind c.args.number) c.args.trace

  seen : {v : BookState} → v ≡ c.name.new.self → v ≡ named
  seen e = e ∙ (c.name.ensures ∙ ap (λ z. with_named c.args.self.now (record (fields_of c.args.token) { folded = c.fold_left.new.folded })
      (Advance c.args.token.iteration c.args.kind z) c.args.trace) (to_z-of_z w64 c.args.number c.ranges.number))

  after : {v : BookState} → v ≡ c.name.new.self
      → record v { reads = v.reads + c.count_of.result } ≡ record named { reads = c.args.self.now.reads + c.count_of.result }
  after e = ap (λ (v : BookState). record v { reads = v.reads + c.count_of.result }) (seen e)

  reads_more : {v : BookState} → v ≡ c.name.new.self → v.reads + c.count_of.result ≤ c.self.inside.reads + 1
  reads_more e =
      let same = ap (λ (v : BookState). v.reads) (seen e) ∙ sym (ap (λ (v : BookState). v.reads) c.self.view_is) in
      let one = c.count_of.ensures in
      let small = count_small c.needs_left-read.result in
      omega (arith, same, one, small)

  reads_fit : {v : BookState} → v ≡ c.name.new.self → v.reads + c.count_of.result ≤ length v.log
  reads_fit e =
      let more = reads_more e in
      let few = c.self.invariant.0.reads in
      let log = ap (λ (v : BookState). length v.log) (seen e)
      ∙ (length_with c.args.self.now.log c.args.token.now (Advance c.args.token.iteration c.args.kind c.args.number)
      ∙ sym (ap (λ (v : BookState). length v.log + 1) c.self.view_is)) in
      omega (arith, more, few, log)

-- a counter that must be read is that of a left neighbour
must_some : (i : ℕ) (folded : Option Counter) (end : StageEnd) → must_read_left i folded end ≡ true → 0 < i
must_some zero folded end e = absurd (false≢true e)
must_some (suc i) folded end e = omega arith

pub fold_left-requires-clause-within : goal.fold_left-requires-clause-within
fold_left-requires-clause-within g c =
    let l = out_within c.self.inside.rows.items c.args.token.iteration
    (subst (λ v. IsOut v c.args.token.iteration) (sym c.self.view_is) c.requires.out.out) in
    let e = ap length c.as_slice.ensures.value in
    omega (arith, l, e)

pub fold_left-requires-clause-left : goal.fold_left-requires-clause-left
fold_left-requires-clause-left g c =
    λ r. must_some c.args.token.iteration c.args.token.folded (stage_end c.args.kind (to_z w64 (of_z w64 c.args.number)))
    (sym c.needs_left-read.ensures ∙ r)

pub name-requires-clause-going : goal.name-requires-clause-going
name-requires-clause-going g c = c.requires.going

pub name-requires-clause-performs : goal.name-requires-clause-performs
name-requires-clause-performs g c =
    subst (λ z. Performs (left_of c.args.self.now c.args.token.iteration) (accessed c.args.trace ++ Staged c.args.kind z ∷ []))
    (sym (to_z-of_z w64 c.args.number c.ranges.number)) c.requires.performs

pub name-requires-clause-payload : goal.name-requires-clause-payload
name-requires-clause-payload g c = c.requires.payload

-- the token is that of a running instance, also with the counter that was read
is_out : (g : Over) (c : After-lets_enter-enters g)
    → IsOutOf c.args.self.now (record (fields_of c.args.token) { folded = c.fold_left.new.folded })
is_out g c =
    let out = c.requires.out in
    record {
      out = out.out;
      token = record {
        running = out.token.running;
        index = out.token.index;
        marks = out.token.marks;
        joined = out.token.joined;
        folded = subst (IsNotAhead (state_of c.args.self.now).frames c.args.token.iteration) (sym (now g c))
            (not_ahead _ (state_of c.args.self.now).frames c.self.inside.rows.items c.args.token.iteration c.needs_left-read.result
            c.args.token.folded (rows g c) (within g c) out.token.folded);
      };
      now = out.now;
    }

pub name-requires-clause-out : goal.name-requires-clause-out
name-requires-clause-out g c = is_out g (goal.at.name-requires-clause-out g c).After-lets_enter-enters

pub enter_next-requires-clause-out : goal.enter_next-requires-clause-out
enter_next-requires-clause-out g c = is_out g (goal.at.enter_next-requires-clause-out g c).After-lets_enter-enters

pub enter_next-requires-clause-free : goal.enter_next-requires-clause-free
enter_next-requires-clause-free g c =
    let j = (goal.at.enter_next-requires-clause-free g c).After-lets_enter-enters in
    λ w. subst (LeftHasPassed (state_of c.args.self.now).frames c.args.token.iteration) (sym (number_is g j))
    (free g j (c.lets_enter-enters.ensures.0 c.if-enters.true) w)

pub overflow_add-self : goal.overflow_add-self
overflow_add-self g c =
    let few = c.self.invariant.0.reads in
    let room = log_room g.M.Stands.whole g.M.Stands.ready_at g.M.Stands.tie (tables_of c.self.inside) c.self.invariant.0
    (c.self.invariant.0.stopped ∙ subst (λ v. (state_of v).stopped ≡ false) (sym c.self.view_is) c.requires.going) in
    let size = c.self.invariant.0.sized.log_room in
    let small = c.self.invariant.0.sized.bounded in
    let k = (goal.at.overflow_add-self g c).After-count_of in
    let more = reads_more g k c.self-2.view_is in
    let w : c.self-2.inside.reads + c.count_of.result < 2 ^ 64 = omega (arith, more, few, room, size, small) in
    grind (arith, common_steps)

pub invariant_of-self : goal.invariant_of-self
invariant_of-self g c =
    let k = (goal.at.invariant_of-self g c).After-count_of in
    (more_reads c.self-2.invariant.0 _ (reads_fit g k c.self-2.view_is), c.self-2.invariant.1, c.self-2.invariant.2)

pub returns-then-enters-clause-returned : goal.returns-then-enters-clause-returned
returns-then-enters-clause-returned g c =
    let j = (goal.at.returns-then-enters-clause-returned g c).After-lets_enter-enters in (
      c.requires.going,
      goes_by (state_of c.args.self.now) c.args.token.iteration c.args.kind c.args.number
          (free g j (c.lets_enter-enters.ensures.0 c.if-enters.true)),
      c.enter_next.ensures.instance.0,
      c.enter_next.ensures.instance.1,
    )

pub returns-then-enters-clause-token : goal.returns-then-enters-clause-token
returns-then-enters-clause-token g c =
    let j = (goal.at.returns-then-enters-clause-token g c).After-lets_enter-enters in
    (c.enter_next.ensures.token, c.enter_next.ensures.folded ∙ folded_is g j)

pub returns-clause-returned : goal.returns-clause-returned
returns-clause-returned g c =
    let k = (goal.at.returns-clause-returned g c).After-lets_enter-enters in (
      c.requires.going,
      waits_by (state_of c.args.self.now) c.args.token.iteration c.args.kind c.args.number
          (λ p. false≢true (sym c.if-enters.false ∙ c.lets_enter-enters.ensures.1 (passes g k p))),
    )

pub returns-clause-book : goal.returns-clause-book
returns-clause-book g c =
    let j = (goal.at.returns-clause-book g c).After-lets_enter-enters in
    let k = (goal.at.returns-clause-book g c).After-count_of in
    let i = c.args.token.iteration in
    let end = stage_end c.args.kind c.args.number in
    after g k c.self-2.view_is ∙ (ap₂ (λ es k. record c.args.self.now {
      log = with_events c.args.self.now.log c.args.token.now es;
      traces = set c.args.self.now.traces i (item_or [] c.args.self.now.traces i ++ c.args.trace ∷ []);
      tokens = set c.args.self.now.tokens i (Kept (record (fields_of c.args.token)
          { now = 1 + max (last_ticket c.args.self.now.log) c.args.token.now; folded = c.fold_left.new.folded }));
      reads = c.args.self.now.reads + k;
    }) (sym (end_is i c.args.kind c.args.number c.requires.kind)) (c.count_of.ensures ∙ ap (λ b. cond b 1 0) (reads_are g j))
    ∙ ap (λ o. record c.args.self.now {
      log = with_events c.args.self.now.log c.args.token.now (stage_end_events i end);
      traces = set c.args.self.now.traces i (item_or [] c.args.self.now.traces i ++ c.args.trace ∷ []);
      tokens = set c.args.self.now.tokens i (Kept (record (fields_of c.args.token)
          { now = 1 + max (last_ticket c.args.self.now.log) c.args.token.now; folded = o }));
      reads = c.args.self.now.reads + cond (reads_left c.args.self.now (fields_of c.args.token) end) 1 0;
    }) (folded_is g j))
