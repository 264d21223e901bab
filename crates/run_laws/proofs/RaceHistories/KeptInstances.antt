-- The result of the comparison with a kept instance: it is before the instance that accesses, or races with it.
use Rattle.std.proofs.Common.{ℕ, true, ◌≡◌, eqb, ltb, ◌&&◌, inl, ap₂, inr, eq-eqb, ap, Bool, cond, subst, false, refl, sym, ◌∙◌, arith, ◌⊎◌}
use Rattle.std.proofs.lemmas.Bool.{or_cases, and_parts, eqb-true, ltb-true, or_left, and_from, or_right, lt-ltb}
use Rattle.std.specs.declared.option.Option.{Option}
use Rattle.std.specs.declared.option.Option.TheVariants.{Some, None}
use Rattle.pipe_model.specs.Orders.AccessHistory.{is_ordered, race_with}
use Rattle.pipe_model.specs.Races.CellRaces.{NotedAccess, noted_access}
use Rattle.pipe_model.specs.Races.Columns.{at}
use Rattle.pipe_model.specs.declared.access.AccessKind.{AccessKind}
use Rattle.pipe_model.specs.declared.node.NodeId.{NodeId}
use Rattle.run_laws.specs.OrderRaces.{IsOrdered}

module _ (down right : NodeId → ℕ) where
  -- the meaning of the test of order
  ordered_true : (y x : NodeId) → is_ordered down right y x ≡ true → IsOrdered down right y x
  ordered_true y x t =
      elim (or_cases (eqb y.iteration x.iteration && eqb y.index x.index)
      (ltb (down y) (down x) && ltb (right y) (right x)) t) [
        | inl s ↦ (
            let p = and_parts (eqb y.iteration x.iteration) (eqb y.index x.index) s in
            inl (ap₂ at (eqb-true y.iteration x.iteration p.0) (eqb-true y.index x.index p.1)))
        | inr s ↦ (
            let p = and_parts (ltb (down y) (down x)) (ltb (right y) (right x)) s in
            inr (ltb-true (down y) (down x) p.0, ltb-true (right y) (right x) p.1))
      ]

  -- an instance before x passes the test
  ordered_from : (y x : NodeId) → IsOrdered down right y x → is_ordered down right y x ≡ true
  ordered_from y x f = elim f [
    | inl s ↦ or_left (eqb y.iteration x.iteration && eqb y.index x.index)
        (ltb (down y) (down x) && ltb (right y) (right x))
        ((and_from (eqb y.iteration x.iteration) (eqb y.index x.index)
        (eq-eqb y.iteration x.iteration (ap (λ (n : NodeId). n.iteration) s))
        (eq-eqb y.index x.index (ap (λ (n : NodeId). n.index) s))))
    | inr s ↦ or_right (eqb y.iteration x.iteration && eqb y.index x.index)
        (ltb (down y) (down x) && ltb (right y) (right x))
        ((and_from (ltb (down y) (down x)) (ltb (right y) (right x)) (lt-ltb (down y) (down x) s.0)
        (lt-ltb (right y) (right x) s.1)))
  ]

  -- the result of the comparison with a kept instance: it is before x, or races with it
  pub data IsRaceWith (x : NodeId) (kind : AccessKind) (kept : Option NodeId) (rest : Option NotedAccess) : Option
      NotedAccess → Type 0 where
    Passed : ((w : NodeId) → kept ≡ Some w → IsOrdered down right w x) → IsRaceWith x kind kept rest rest
    Hit : (w : NodeId) → kept ≡ Some w → (IsOrdered down right w x → ⊥)
        → IsRaceWith x kind kept rest (Some (noted_access w kind))

  -- `race_with_is`, by the test
  race_with_by : (x : NodeId) (kind : AccessKind) (y : NodeId) (rest : Option NotedAccess) (t : Bool)
      → is_ordered down right y x ≡ t → IsRaceWith x kind (Some y) rest (cond t rest (Some (noted_access y kind)))
  race_with_by x kind y rest true e = Passed (λ w s. (
      let q : y ≡ w = (let r : Some y ≡ Some w = s in cc) in
      subst (λ z. IsOrdered down right z x) q (ordered_true y x e)))
  race_with_by x kind y rest false e = Hit y refl (λ f. let q : true ≡ false = sym (ordered_from y x f) ∙ e in cc)

  -- the comparison with a kept instance has this result
  pub race_with_is : (x : NodeId) (kind : AccessKind) (kept : Option NodeId) (rest : Option NotedAccess)
      → IsRaceWith x kind kept rest (race_with down right x kind kept rest)
  race_with_is x kind None rest = Passed (λ w s. absurd (let r : None ≡ Some w = s in cc))
  race_with_is x kind (Some y) rest = race_with_by x kind y rest (is_ordered down right y x) refl

  -- being before is transitive
  pub ordered_both : (y w x : NodeId) → IsOrdered down right y w → IsOrdered down right w x → IsOrdered down right y x
  ordered_both y w x f g = elim f [
    | inl s ↦ subst (λ z. IsOrdered down right z x) (sym s) g
    | inr s ↦ elim g [
      | inl t ↦ subst (λ z. IsOrdered down right y z) t (inr s)
      | inr t ↦ inr (omega (arith, s, t), omega (arith, s, t))
    ]
  ]

  -- nothing is found: the kept instance is before x, and the rest finds nothing
  pub none_races : {x : NodeId} {kind : AccessKind} {kept : Option NodeId} {rest found : Option NotedAccess}
      → IsRaceWith x kind kept rest found → found ≡ None
      → ((w : NodeId) → kept ≡ Some w → IsOrdered down right w x) × (rest ≡ None)
  none_races (Passed f) e = (f, e)
  none_races (Hit w s n) e = absurd (let r : Some _ ≡ None = e in cc)

  -- something is found: with the kept instance, or by the rest
  pub some_races : {x : NodeId} {kind : AccessKind} {kept : Option NodeId} {rest found : Option NotedAccess}
      (e : NotedAccess)
      → IsRaceWith x kind kept rest found → found ≡ Some e
      → ((w : NodeId) × (kept ≡ Some w) × (IsOrdered down right w x → ⊥) × (noted_access w kind ≡ e))
      ⊎ (rest ≡ Some e)
  some_races e (Passed f) q = inr q
  some_races {kind = kind} e (Hit w s n) q = inl (w, s, n, (let r : Some (noted_access w kind) ≡ Some e = q in cc))
