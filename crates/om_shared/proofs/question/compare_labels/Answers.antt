-- The two labels are noted, and then the sequence number is compared with the noted one.
use Rattle.std.proofs.Common.{◌≡◌, ℕ, List, [], ◌∷◌, length, ap, ◌∙◌, arith, lt-ltb, ltb-true}
use Rattle.om_shared.specs.declared.view.Role.TheVariants.{Asking}
use Rattle.om_shared.specs.Rule.{view}
use Rattle.om_shared.specs.Steps.{SeatState}
use Rattle.om_shared.proofs.PassSteps.{checks_sequence, notes_label, notes_sequence, one_noted, still_asks}
use Rattle.om_shared.proofs.question.compare_labels.Goals as goal

same_length : (m n : SeatState) (at : ℕ) (notes : List (ℕ × ℕ)) → n ≡ (view m.0.log m.0.learned (Asking at notes), m.1)
    → length n.0.log ≡ length m.0.log
same_length m n at notes e = ap (λ (k : SeatState). length k.0.log) e

pub load-before-requires : goal.load-before-requires
load-before-requires c =
    let k = c.requires.asking in
    let words = k.0 in
    (c.requires.own, omega (arith, words), notes_sequence c.args.words.now.key _ _ _ k.3.0 k.3.1 k.3.2)

pub load-a-requires : goal.load-a-requires
load-a-requires c =
    let k = c.requires.asking in
    let words = k.0 in
    let small = k.1 in
    let l = c.requires.first in
    let before = c.load-before.ensures in
    let same = same_length c.args.seat.now.me c.load-before.new.seat.me _ _ before.2 in (
      before.0 ∙ c.requires.own,
      omega (arith, words, small, l),
      notes_label c.args.words.now.key _ _ _ c.args.x (omega (arith, l, same)),
    )

pub load-b-requires : goal.load-b-requires
load-b-requires c =
    let k = c.requires.asking in
    let words = k.0 in
    let small = k.1 in
    let l = c.requires.second in
    let before = c.load-before in
    let a = c.load-a in
    let first = one_noted c.args.seat.now.me before.new.seat.me a.new.seat.me c.args.x before.result a.result []
    before.ensures.2 a.ensures.2 in
    let same = same_length c.args.seat.now.me a.new.seat.me _ _ first in (
      a.ensures.0 ∙ (before.ensures.0 ∙ c.requires.own),
      omega (arith, words, small, l),
      notes_label c.args.words.now.key _ _ _ c.args.y (omega (arith, l, same)),
    )

pub load-after-requires : goal.load-after-requires
load-after-requires c =
    let words = c.requires.asking.0 in (
      c.load-b.ensures.0 ∙ (c.load-a.ensures.0 ∙ (c.load-before.ensures.0 ∙ c.requires.own)),
      omega (arith, words),
      checks_sequence c.args.words.now.key _ _ _,
    )

pub returns-then-after-before-clause-asking : goal.returns-then-after-before-clause-asking
returns-then-after-before-clause-asking c =
    let m = c.args.seat.now.me in
    let before = c.load-before in
    let a = c.load-a in
    let b = c.load-b in
    let first = one_noted m before.new.seat.me a.new.seat.me c.args.x before.result a.result []
    before.ensures.2 a.ensures.2 in
    let second = one_noted m a.new.seat.me b.new.seat.me c.args.y before.result b.result ((c.args.x, a.result) ∷ [])
    first b.ensures.2 in
    still_asks _ _ m c.load-after.new.seat.me _ _ _ _ (c.load-after.ensures.2.0 ∙ second)
    c.requires.asking.1 c.requires.asking

pub returns-else-after-before-clause-asking : goal.returns-else-after-before-clause-asking
returns-else-after-before-clause-asking c =
    let m = c.args.seat.now.me in
    let before = c.load-before in
    let a = c.load-a in
    let b = c.load-b in
    let first = one_noted m before.new.seat.me a.new.seat.me c.args.x before.result a.result []
    before.ensures.2 a.ensures.2 in
    let second = one_noted m a.new.seat.me b.new.seat.me c.args.y before.result b.result ((c.args.x, a.result) ∷ [])
    first b.ensures.2 in
    still_asks _ _ m c.load-after.new.seat.me _ _ _ _ (c.load-after.ensures.2.0 ∙ second)
    c.requires.asking.1 c.requires.asking

pub returns-then-after-before-clause-order : goal.returns-then-after-before-clause-order
returns-then-after-before-clause-order c =
    let m = c.args.seat.now.me in
    let before = c.load-before in
    let a = c.load-a in
    let b = c.load-b in
    let first = one_noted m before.new.seat.me a.new.seat.me c.args.x before.result a.result []
    before.ensures.2 a.ensures.2 in
    let second = one_noted m a.new.seat.me b.new.seat.me c.args.y before.result b.result ((c.args.x, a.result) ∷ [])
    first b.ensures.2 in
    let same : b.new.seat.me.0.log ≡ m.0.log = ap (λ (k : SeatState). k.0.log) second in
    let order = c.load-after.ensures.2.1 before.result c.args.x c.args.y a.result b.result
    (ap (λ (k : SeatState). k.0.role) second)
    (omega arith) (omega arith) in
    rw (← same) ((λ t. order.1 (ltb-true a.result b.result t)), (λ t. lt-ltb a.result b.result (order.0 t)))
