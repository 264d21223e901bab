use Rattle.std.proofs.Common.{◌≡◌, arith, get_or, sym, subst, inl, inr, true, false, ◌∙◌}
use Rattle.std.proofs.lemmas.Bool.{cases_lt}
use Rattle.frame_rows.specs.RowsOfFrames.{RowGoesOn}
use Rattle.frame_rows.proofs.AliveRows.{none_before, none_at_all}
use Rattle.frame_rows.proofs.FrameRows.{row_at_read}
use Rattle.frame_rows.proofs.rows.first_to_go_on.Goals as goal

pub bounds-rows-iteration : goal.bounds-rows-iteration
bounds-rows-iteration g c = c.requires.begun c.loop-iteration.iteration-index 0 c.loop-iteration-test.true

pub goes_on-requires : goal.goes_on-requires
goes_on-requires g c = row_at_read c.args.rows.now (get_or c.args.alive.now c.loop-iteration.iteration-index 0)
    c.index-rows-iteration.result (c.requires.begun c.loop-iteration.iteration-index 0 c.loop-iteration-test.true) c.index-rows-iteration.is

pub loop-iteration-preserved : goal.loop-iteration-preserved
loop-iteration-preserved g c = λ going fs h m l q. elim (cases_lt m c.loop-iteration.iteration-index) [
  | inl less ↦ c.loop-iteration.invariant going fs h m less q
  | inr ge ↦ (
      let s : m ≡ c.loop-iteration.iteration-index = omega (arith, l, ge) in
      let e : false ≡ true = sym c.if-goes_on.false ∙ (c.goes_on.ensures going fs h).1
      (subst (λ k. RowGoesOn fs c.args.rows.now (get_or c.args.alive.now k 0)) s q) in
      absurd (cc))
]

pub returns-then-goes_on-clause-some : goal.returns-then-goes_on-clause-some
returns-then-goes_on-clause-some g c = λ going fs h. (
  (c.goes_on.ensures going fs h).0 c.if-goes_on.true,
  none_before going fs
      c.args.rows.now c.args.alive.now c.loop-iteration.iteration-index h c.requires c.loop-iteration-test.true
      (c.loop-iteration.invariant going fs h),
)

pub returns-clause-none : goal.returns-clause-none
returns-clause-none g c = λ going fs h. none_at_all going fs c.args.rows.now c.args.alive.now h c.requires
    (λ m l. (let past = c.loop-iteration-test.false in c.loop-iteration.invariant going fs h m (omega (arith, l, past))))

pub offset_bounds-rows-iteration : goal.offset_bounds-rows-iteration
offset_bounds-rows-iteration g c =
    let w = c.requires.begun c.loop-iteration.iteration-index 0 c.loop-iteration-test.true in omega (arith, w)
