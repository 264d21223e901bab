-- The steps of a pass that asks keep the rule.
use Rattle.std.proofs.Common.{◌≡◌, ℕ, suc, ◌+◌, ◌-◌, ◌%◌, ◌<◌, ◌≤◌, ◌^◌, ◌↔◌, List, [], ◌∷◌, ◌++◌, length, get_or, refl, sym, ap, ◌∙◌}
use Rattle.std.proofs.Common.{subst, arith, length-append}
use mathlib.Core.Option.{none}
use Rattle.atomic_table.specs.Table.{State, step, keeps, Allows}
use Rattle.pipe_model.specs.Orders.OrderList.{IsLog, IsBeforeIn, list_of_log}
use Rattle.run_laws.proofs.ListOrders.InsertionLists.{list_has_below}
use Rattle.om_relabel.proofs.RisingLabels.{before_by_label}
use Rattle.om_shared.specs.declared.view.View.{View}
use Rattle.om_shared.specs.declared.view.Role.{Role}
use Rattle.om_shared.specs.declared.view.Role.TheVariants.{Writing, Asking, Spent}
use Rattle.om_shared.specs.Rule.{IsOrdered, KnowsAs, label_at, view}
use Rattle.om_shared.specs.Seats.{IsAsking}
use Rattle.om_shared.specs.Steps.{SeatState, checked_sequence, longer, noted_label, noted_sequence, noting, saw_longer}
use Rattle.om_shared.proofs.KnownSeats.{known, sequence_is, unmoved}
use Rattle.om_shared.proofs.SeenLogs.{longer_order, longer_prefix}

module _ (capacity : ℕ) where
  pub notes_sequence : (slots id : ℕ) (m : SeatState) (at : ℕ) (notes : List (ℕ × ℕ)) → m.0.role ≡ Asking at notes
      → Allows (IsOrdered capacity) slots id m 0 (λ n. n) (noted_sequence (step slots 0 0 0 none) m)
  notes_sequence slots id m at notes is s r _ have _ =
      let k = known capacity s r id m.0 (Asking at notes) is have in
      let v : View = view m.0.log m.0.learned (Asking (get_or s.words 0 0) []) in
      let e = sequence_is capacity s r in (
        v,
        keeps,
        tt,
        unmoved capacity s r 0 id m.1 v
            record { learned = (r.each id m.0 have).learned; role = (k.0, omega (arith, e), tt, λ _ _. tt) },
        refl,
      )

  label_is : (s : State ℕ View) (r : IsOrdered capacity s) (x : ℕ) → get_or s.words (x + 1) 0 ≡ label_at r.now.labels x
  label_is s r x = let e : x + 1 ≡ suc x = omega arith in rw (e, r.words) refl

  one_more_note : (s : State ℕ View) (r : IsOrdered capacity s) (id x label : ℕ) (seen : List ℕ) (o : Role)
      → label ≡ label_at r.now.labels x → x ≤ length seen → KnowsAs r.now id seen o
      → KnowsAs r.now id seen (noting x label o)
  one_more_note s r id x label seen (Writing st sq ls) is l k = tt
  one_more_note s r id x label seen Spent is l k = tt
  one_more_note s r id x label seen (Asking at ns) is l k = (k.0, k.1, (l, k.2), λ even here. (is, k.3 even here))

  pub notes_label : (slots id : ℕ) (m : SeatState) (x : ℕ) → x ≤ length m.0.log
      → Allows (IsOrdered capacity) slots id m (x + 1) (λ n. n) (noted_label (step slots (x + 1) 0 0 none) m)
  notes_label slots id m x l s r _ have _ =
      let label : ℕ = get_or s.words (x + 1) 0 in
      let v : View = view m.0.log m.0.learned (noting x label m.0.role) in
      let back : x ≡ (x + 1) - 1 = omega arith in
      let was = r.each id m.0 have in (
        v,
        keeps,
        tt,
        unmoved capacity s r (x + 1) id m.1 v
            record { learned = was.learned; role = one_more_note s r id x label m.0.log m.0.role (label_is s r x) l was.role },
        ap (λ (y : ℕ). (view m.0.log m.0.learned (noting y label m.0.role), m.1)) back,
      )

  -- two current labels give the order
  order_is : (s : State ℕ View) (r : IsOrdered capacity s) (id : ℕ) (seen : List ℕ) (at x y a b : ℕ)
      → KnowsAs r.now id seen (Asking at ((y, b) ∷ (x, a) ∷ [])) → at % 2 ≡ 0 → r.now.sequence ≡ at
      → IsBeforeIn (list_of_log seen) x y ↔ (a < b)
  order_is s r id seen at x y a b k even here =
      let current = k.3 even (sym here) in
      let ly : y ≤ length seen = k.2.0 in
      let lx : x ≤ length seen = k.2.1.0 in
      let rest : List ℕ = k.0.0 in
      let whole : r.now.log ≡ seen ++ rest = k.0.1 in
      let up = r.rises (ap (λ (z : ℕ). z % 2) here ∙ even) in
      let h = list_has_below r.now.log r.valid in
      let long : length r.now.log ≡ length (seen ++ rest) = ap length whole in
      let more = length-append seen rest in
      let p = before_by_label (label_at r.now.labels) 0 (2 ^ 62) (list_of_log r.now.log) x y up
      (h.each x (omega (arith, lx, long, more))) (h.each y (omega (arith, ly, long, more))) in
      let q : IsBeforeIn (list_of_log r.now.log) x y ↔ IsBeforeIn (list_of_log seen) x y =
      rw whole (longer_order seen rest x y (subst (IsLog 1) whole r.valid) lx ly) in
      let ea : a ≡ label_at r.now.labels x = current.1.0 in
      let eb : b ≡ label_at r.now.labels y = current.0 in (
        (λ t. let u : label_at r.now.labels x < label_at r.now.labels y = p.0 (q.1 t) in omega (arith, u, ea, eb)),
        (λ t. q.0 (p.1 (omega (arith, t, ea, eb)))),
      )

  pub checks_sequence : (slots id : ℕ) (m : SeatState)
      → Allows (IsOrdered capacity) slots id m 0 (λ n. n) (checked_sequence (step slots 0 0 0 none) m)
  checks_sequence slots id m s r _ have _ = (
    m.0,
    keeps,
    tt,
    unmoved capacity s r 0 id m.1 m.0 (r.each id m.0 have),
    (
      refl,
      λ at x y a b is even found.
          order_is s r id m.0.log at x y a b (known capacity s r id m.0 (Asking at ((y, b) ∷ (x, a) ∷ [])) is have) even
          (sym (sequence_is capacity s r) ∙ found),
    ),
  )

  pub sees_longer : (slots id : ℕ) (m : SeatState) (at : ℕ) (notes : List (ℕ × ℕ)) → m.0.role ≡ Asking at notes
      → Allows (IsOrdered capacity) slots id m 0 (λ n. n) (saw_longer (step slots 0 0 0 none) m)
  sees_longer slots id m at notes is s r _ have _ =
      let k = known capacity s r id m.0 (Asking at notes) is have in
      let both = longer_prefix r.now.log m.0.log m.0.learned k.0 (r.each id m.0 have).learned in
      let v : View = view (longer m.0.log m.0.learned) [] (Asking (get_or s.words 0 0) []) in
      let e = sequence_is capacity s r in (
        v,
        keeps,
        tt,
        unmoved capacity s r 0 id m.1 v record { learned = (r.now.log, refl); role = (both.0, omega (arith, e), tt, λ _ _. tt) },
        (refl, both.1, both.2),
      )

-- ---- the seat of a pass

-- the seat after one more label was noted
pub one_noted : (m m1 m2 : SeatState) (x at label : ℕ) (notes : List (ℕ × ℕ))
    → m1 ≡ (view m.0.log m.0.learned (Asking at notes), m.1)
    → m2 ≡ (view m1.0.log m1.0.learned (noting ((x + 1) - 1) label m1.0.role), m1.1)
    → m2 ≡ (view m.0.log m.0.learned (Asking at ((x, label) ∷ notes)), m.1)
one_noted m m1 m2 x at label notes e1 e2 =
    let back : (x + 1) - 1 ≡ x = omega arith in
    e2 ∙ (ap (λ (n : SeatState). (view n.0.log n.0.learned (noting ((x + 1) - 1) label n.0.role), n.1)) e1
    ∙ ap (λ (k : ℕ). (view m.0.log m.0.learned (Asking at ((k, label) ∷ notes)), m.1)) back)

-- a pass with another log, or with other notes
pub still_asks : (capacity words : ℕ) (m m' : SeatState) (log learned : List ℕ) (at : ℕ) (notes : List (ℕ × ℕ))
    → m' ≡ (view log learned (Asking at notes), m.1) → length log < capacity → IsAsking capacity words m
    → IsAsking capacity words m'
still_asks capacity words m m' log learned at notes e small k =
    subst (IsAsking capacity words) (sym e) (k.0, small, k.2, (at, notes, refl))

-- a pass whose view stays
pub asks_as_before : (capacity words words' : ℕ) (m m' : SeatState) → words' ≡ words → m' ≡ (m.0, m.1)
    → IsAsking capacity words m
    → IsAsking capacity words' m'
asks_as_before capacity words words' m m' same e k =
    subst (λ (x : ℕ × SeatState). IsAsking capacity x.0 x.1) (λ i. (sym same i, sym e i)) k
