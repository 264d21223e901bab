-- The search finds the left parent.
use Rattle.std.proofs.Common.{◌≡◌, ◌≤◌, ◌∙◌, sym, ap, subst, rules, ℕ}
use Rattle.std.proofs.lemmas.Int.{to_z-of_z}
use Rattle.std.specs.Prelude.{IfNone, IfSome}
use mir.Syntax.{w64}
use mir.Val.{SFits, of_z, to_z}
use Rattle.left_parent.specs.LastNumber.{AreRising, IsLastUpTo}
use Rattle.left_parent.specs.Parents.{parent_by}
use Rattle.left_parent.proofs.LeftParentSearch.{found_is, rising_numbers}
use Rattle.left_parent.proofs.parents.parent_below.Goals as goal
use Rattle.pipe_model.specs.Orders.LeftParent.{last_up_to}

pub find-requires-clause-rising : goal.find-requires-clause-rising
find-requires-clause-rising c =
    let r = c.requires.rising in
    subst AreRising (sym r.1) (rising_numbers r.0 r.2)

pub returns-in-Wait : goal.returns-in-Wait
returns-in-Wait c = λ nodes same.
    let fits : SFits w64 c.args.node.number = search rules in
    let is : to_z w64 (of_z w64 c.args.node.number) ≡ c.args.node.number = to_z-of_z w64 c.args.node.number fits in
    found_is nodes c.args.numbers.now c.args.node.number c.args.joined c.find.result same
    (subst (λ s. IfSome c.find.result (λ j. IsLastUpTo c.args.numbers.now j s)) is c.find.ensures.last)
    c.find.ensures.later
    (subst (λ s. IfNone c.find.result ((j : ℕ) → IsLastUpTo c.args.numbers.now j s → j ≤ c.args.joined)) is c.find.ensures.none)
    ∙ ap (λ k. parent_by k c.args.joined (last_up_to nodes c.args.node.number)) (sym c.in-Wait.is)
