use Rattle.std.proofs.Common.{◌≡◌, ◌+◌, ◌*◌, ◌∷◌, [], replicate, ap, ap₂, ◌∙◌, w64, rules, to_z, of_z}
use lib.IntN.{nat_abs}
use mir.Val.{SFits}
use Rattle.std.proofs.Math.Facts.{Fits-nat_abs}
use Rattle.std.proofs.lemmas.Int.{to_z-of_z}
use Rattle.pipe_model.specs.Language.Programs.{natural}
use Rattle.frame_book.proofs.Keeping.New.{abs_is, non_neg_is, fits_small}
use Rattle.frame_book.proofs.rooms.rooms_for.Given.{Over}
use Rattle.frame_book.proofs.rooms.rooms_for.Goals.{After-new}
use Rattle.frame_book.proofs.rooms.rooms_for.Goals as goal

pub overflow_cast-stages : goal.overflow_cast-stages
overflow_cast-stages g c =
    let s = c.args.limits.stages in
    let fs : SFits w64 s = search rules in
    rw (to_z-of_z w64 s fs) (non_neg_is s c.requires.stages, Fits-nat_abs tt fs)

pub overflow_cast-iterations : goal.overflow_cast-iterations
overflow_cast-iterations g c =
    let i = c.args.limits.iterations in
    let fi : SFits w64 i = search rules in
    rw (to_z-of_z w64 i fi) (non_neg_is i c.requires.iterations, Fits-nat_abs tt fi)

pub overflow_mul-instances : goal.overflow_mul-instances
overflow_mul-instances g c =
    let i = c.args.limits.iterations in
    let s = c.args.limits.stages in
    let fi : SFits w64 i = search rules in
    let fs : SFits w64 s = search rules in
    let ni : nat_abs (to_z w64 (of_z w64 i)) ≡ natural i = ap nat_abs (to_z-of_z w64 i fi) ∙ abs_is i c.requires.iterations in
    let ns : nat_abs (to_z w64 (of_z w64 s)) ≡ natural s = ap nat_abs (to_z-of_z w64 s fs) ∙ abs_is s c.requires.stages in
    (fits_small (nat_abs (to_z w64 (of_z w64 i)) * nat_abs (to_z w64 (of_z w64 s))) (natural i * natural s)
    (ap₂ (λ a b. a * b) ni ns) c.requires.bounded).1

pub overflow_add-instances : goal.overflow_add-instances
overflow_add-instances g c =
    let i = c.args.limits.iterations in
    let s = c.args.limits.stages in
    let fi : SFits w64 i = search rules in
    let fs : SFits w64 s = search rules in
    let ni : nat_abs (to_z w64 (of_z w64 i)) ≡ natural i = ap nat_abs (to_z-of_z w64 i fi) ∙ abs_is i c.requires.iterations in
    let ns : nat_abs (to_z w64 (of_z w64 s)) ≡ natural s = ap nat_abs (to_z-of_z w64 s fs) ∙ abs_is s c.requires.stages in
    (fits_small (nat_abs (to_z w64 (of_z w64 i)) * nat_abs (to_z w64 (of_z w64 s))) (natural i * natural s)
    (ap₂ (λ a b. a * b) ni ns) c.requires.bounded).2

pub overflow_mul-instances-2 : goal.overflow_mul-instances-2
overflow_mul-instances-2 g c =
    let i = c.args.limits.iterations in
    let s = c.args.limits.stages in
    let fi : SFits w64 i = search rules in
    let fs : SFits w64 s = search rules in
    let ni : nat_abs (to_z w64 (of_z w64 i)) ≡ natural i = ap nat_abs (to_z-of_z w64 i fi) ∙ abs_is i c.requires.iterations in
    let ns : nat_abs (to_z w64 (of_z w64 s)) ≡ natural s = ap nat_abs (to_z-of_z w64 s fs) ∙ abs_is s c.requires.stages in
    (fits_small (nat_abs (to_z w64 (of_z w64 i)) * nat_abs (to_z w64 (of_z w64 s))) (natural i * natural s)
    (ap₂ (λ a b. a * b) ni ns) c.requires.bounded).3

pub overflow_add-instances-2 : goal.overflow_add-instances-2
overflow_add-instances-2 g c =
    let i = c.args.limits.iterations in
    let s = c.args.limits.stages in
    let fi : SFits w64 i = search rules in
    let fs : SFits w64 s = search rules in
    let ni : nat_abs (to_z w64 (of_z w64 i)) ≡ natural i = ap nat_abs (to_z-of_z w64 i fi) ∙ abs_is i c.requires.iterations in
    let ns : nat_abs (to_z w64 (of_z w64 s)) ≡ natural s = ap nat_abs (to_z-of_z w64 s fs) ∙ abs_is s c.requires.stages in
    (fits_small (nat_abs (to_z w64 (of_z w64 i)) * nat_abs (to_z w64 (of_z w64 s))) (natural i * natural s)
    (ap₂ (λ a b. a * b) ni ns) c.requires.bounded).4

-- the numbers, as naturals
module _ (g : Over) (c : After-new g) where
  iterations_are : nat_abs (to_z w64 (of_z w64 c.args.limits.iterations)) ≡ natural c.args.limits.iterations
  iterations_are =
      let fi : SFits w64 c.args.limits.iterations = search rules in
      ap nat_abs (to_z-of_z w64 c.args.limits.iterations fi) ∙ abs_is c.args.limits.iterations c.requires.iterations

  stages_are : nat_abs (to_z w64 (of_z w64 c.args.limits.stages)) ≡ natural c.args.limits.stages
  stages_are =
      let fs : SFits w64 c.args.limits.stages = search rules in
      ap nat_abs (to_z-of_z w64 c.args.limits.stages fs) ∙ abs_is c.args.limits.stages c.requires.stages

pub returns-clause-rows : goal.returns-clause-rows
returns-clause-rows g c =
    let k = (goal.at.returns-clause-rows g c).After-new in
    (c.in_ok-rows.ensures.items, c.in_ok-rows.ensures.exact ∙ ap (λ n. n + 1) (iterations_are g k))

pub returns-clause-alive : goal.returns-clause-alive
returns-clause-alive g c =
    let k = (goal.at.returns-clause-alive g c).After-new in
    (c.in_ok-alive.ensures.items, c.in_ok-alive.ensures.exact ∙ ap (λ n. n + 1) (iterations_are g k))

pub returns-clause-places : goal.returns-clause-places
returns-clause-places g c =
    let k = (goal.at.returns-clause-places g c).After-new in
    c.in_ok-places.ensures
    ∙ ap₂ (λ k z. record { numbers = []; marks = []; stages = z; spare = 1 ∷ replicate k z }) (iterations_are g k) (stages_are g k)

pub returns-clause-ledger : goal.returns-clause-ledger
returns-clause-ledger g c =
    let k = (goal.at.returns-clause-ledger g c).After-new in
    c.in_ok-ledger.ensures
    ∙ ap₂ (λ a b. record { log = []; room = 2 * (a * b + 1) + 1 }) (iterations_are g k) (stages_are g k)
