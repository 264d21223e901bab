use Rattle.std.proofs.Common.{◌≡◌, ◌<◌, ◌≤◌, ◌-◌, ◌^◌, ◌∙◌, ℕ, arith, length, ap, sym, subst, take, drop}
use Rattle.std.proofs.Common.{w64, IfSome, IfNone, Some, to_z, of_z}
use Rattle.std.proofs.lemmas.Int.{to_z-of_z}
use Rattle.left_parent.specs.LastNumber.{AreRising, IsLastUpTo}
use Rattle.frame_rows.specs.IterationRows.{left_numbers, row_at}
use Rattle.frame_rows.specs.Places.{place_of}
use Rattle.frame_rows.proofs.FrameRows.{row_at_read}
use Rattle.frame_rows.proofs.PlacedRows.{numbers_are, numbers_within}
use Rattle.frame_rows.proofs.StartRows.{if_some_both, left_numbers_is}
use Rattle.pipe_model.specs.declared.node.Kind.TheVariants.{Wait, Zero, Continue}
use Rattle.frame_book.proofs.start.left_place.Given.{Over}
use Rattle.frame_book.proofs.start.left_place.Goals.{After-numbers}
use Rattle.frame_book.proofs.start.left_place.Goals as goal

-- a stage of another kind does not wait
continue_waits_not : Continue ≡ Wait → ⊥
continue_waits_not e = cc

zero_waits_not : Zero ≡ Wait → ⊥
zero_waits_not e = cc

-- the numbers that were read
module _ (g : Over) (c : After-numbers g) where
  some : 0 < c.args.iteration
  some = let n = c.if-iteration-eq0.false in omega (arith, n)

  at : row_at c.args.rows.now (c.args.iteration - 1) ≡ Some c.index-rows-place.result
  at = let w = c.requires.within in
      row_at_read c.args.rows.now (c.args.iteration - 1) c.index-rows-place.result (omega (arith, w)) c.index-rows-place.is

  same : left_numbers c.args.rows.now c.args.iteration ≡ c.numbers.result.now
  same = left_numbers_is c.args.rows.now c.args.iteration c.index-rows-place.result some at
      ∙ sym (c.numbers.ensures ∙ (ap (λ n. take n (drop (place_of c.args.places.now (c.args.iteration - 1) 0) c.args.places.now.numbers))
      c.len.ensures ∙ numbers_are c.args.rows.now c.args.places.now (c.args.iteration - 1) c.index-rows-place.result c.requires.holds at))

pub numbers-requires : goal.numbers-requires
numbers-requires g c =
    let n = c.if-iteration-eq0.false in
    let w = c.requires.within in
    let there = row_at_read c.args.rows.now (c.args.iteration - 1) c.index-rows-place.result (omega (arith, w)) c.index-rows-place.is in
    subst (λ k. place_of c.args.places.now (c.args.iteration - 1) k ≤ length c.args.places.now.numbers) (sym c.len.ensures)
    (numbers_within c.args.rows.now c.args.places.now (c.args.iteration - 1) c.index-rows-place.result c.requires.holds there)

pub find-requires-clause-rising : goal.find-requires-clause-rising
find-requires-clause-rising g c =
    let k = (goal.at.find-requires-clause-rising g c).After-numbers in
    subst AreRising (same g k) (c.requires.left (c.in-Wait.is, some g k)).rises

pub find-requires-clause-bounded : goal.find-requires-clause-bounded
find-requires-clause-bounded g c =
    let k = (goal.at.find-requires-clause-bounded g c).After-numbers in
    subst (λ ns. length ns < 2 ^ 32) (same g k) (c.requires.left (c.in-Wait.is, some g k)).bounded

pub returns-in-Wait-clause-some : goal.returns-in-Wait-clause-some
returns-in-Wait-clause-some g c = λ q.
    let k = (goal.at.returns-in-Wait-clause-some g c).After-numbers in
    subst (λ ns. IfSome c.find.result (λ j. (c.args.joined < j) × IsLastUpTo ns j c.args.number)) (sym (same g k))
    (subst (λ z. IfSome c.find.result (λ j. (c.args.joined < j) × IsLastUpTo c.numbers.result.now j z))
    (to_z-of_z w64 c.args.number c.ranges.number)
    (if_some_both c.find.result (λ j. c.args.joined < j) (λ j. IsLastUpTo c.numbers.result.now j (to_z w64 (of_z w64 c.args.number)))
    c.find.ensures.later c.find.ensures.last))

pub returns-in-Wait-clause-nothing : goal.returns-in-Wait-clause-nothing
returns-in-Wait-clause-nothing g c = λ q.
    let k = (goal.at.returns-in-Wait-clause-nothing g c).After-numbers in
    subst (λ ns. IfNone c.find.result ((j : ℕ) → IsLastUpTo ns j c.args.number → j ≤ c.args.joined)) (sym (same g k))
    (subst (λ z. IfNone c.find.result ((j : ℕ) → IsLastUpTo c.numbers.result.now j z → j ≤ c.args.joined))
    (to_z-of_z w64 c.args.number c.ranges.number) c.find.ensures.none)

pub returns-in-Continue-clause-nothing : goal.returns-in-Continue-clause-nothing
returns-in-Continue-clause-nothing g c = λ w. absurd (continue_waits_not (sym c.in-Continue.is ∙ w.0))

pub returns-in-Zero-clause-nothing : goal.returns-in-Zero-clause-nothing
returns-in-Zero-clause-nothing g c = λ w. absurd (zero_waits_not (sym c.in-Zero.is ∙ w.0))

pub returns-in-Wait-clause-none : goal.returns-in-Wait-clause-none
returns-in-Wait-clause-none g c = λ n. absurd (n (c.in-Wait.is, (let l = c.if-iteration-eq0.false in omega (arith, l))))
