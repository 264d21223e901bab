-- An access by an instance that each kept one is, or is known to precede: it races with none, and is kept in place of the readers.
use Rattle.std.proofs.Common.{◌≡◌, ◌∙◌, ◌<◌, ◌++◌, ◌∷◌, [], ℕ, List, ap, ap₂, subst, sym, refl}
use Rattle.std.proofs.Common.{Option, Some, None, IfSome, Bool, true, false, cond}
use Rattle.std.proofs.Common.{eqb, ltb, not, ◌&&◌, ◌||◌}
use Rattle.std.proofs.lemmas.Bool.{and_parts, eq-eqb, eqb-true, lt-ltb, or_parts}
use Rattle.access_history.proofs.FoldedHistories.{history_pushed}
use Rattle.access_history.specs.declared.history.Found.{Found}
use Rattle.access_history.specs.declared.history.History.{History}
use Rattle.access_history.specs.declared.history.MarkedNode.{MarkedNode}
use Rattle.access_history.specs.declared.history.Verdict.TheVariants.{Clean}
use Rattle.access_history.specs.KeptInstances.{IsHistoryAfter, kept_of, node_of, report_after}
use Rattle.access_history.specs.KnownOrder.{AgreeOnKnown, AgreeOnKnownKept, asks_about, is_known_before, is_same, kept_known, may_ask}
use Rattle.pipe_model.specs.declared.access.AccessKind.{AccessKind}
use Rattle.pipe_model.specs.declared.access.AccessKind.TheVariants.{Read, Write}
use Rattle.pipe_model.specs.declared.node.NodeId.{NodeId}
use Rattle.pipe_model.specs.Orders.AccessHistory.{check_access, is_ordered, later, race_with, updated_history}
use Rattle.pipe_model.specs.Races.CellRaces.{NotedAccess, noted_access}

-- y is x, or known to be before it
data IsKnown (joined : Option ℕ) (x y : NodeId) : Type 0 where
  Same : y ≡ x → IsKnown joined x y
  Before : is_known_before joined x y ≡ true → IsKnown joined x y

same_is : (x y : NodeId) → is_same x y ≡ true → y ≡ x
same_is x y h =
    let parts = and_parts (eqb y.iteration x.iteration) (eqb y.index x.index) h in
    λ i. record { iteration = eqb-true y.iteration x.iteration parts.0 i; index = eqb-true y.index x.index parts.1 i }

-- what is known of a kept instance about which nothing is asked
known_of : (joined : Option ℕ) (x y : NodeId) (t u : Bool) → is_same x y ≡ t → is_known_before joined x y ≡ u
    → (not t && not u) ≡ false → IsKnown joined x y
known_of joined x y true u same known h = Same (same_is x y same)
known_of joined x y false true same known h = Before known
known_of joined x y false false same known h = absurd (let z : true ≡ false = h in cc)

-- nothing is asked about any of them
asks_none : (joined : Option ℕ) (x : NodeId) (h : History) → may_ask joined x h ≡ false
    → (asks_about joined x h.writer ≡ false) × (asks_about joined x h.rightmost ≡ false) × (asks_about joined x h.downmost ≡ false)
asks_none joined x h asks =
    let last = or_parts (asks_about joined x h.writer || asks_about joined x h.rightmost) (asks_about joined x h.downmost) asks in
    let first = or_parts (asks_about joined x h.writer) (asks_about joined x h.rightmost) last.0 in
    (first.0, first.1, last.1)

module _ (joined : Option ℕ) (down right : NodeId → ℕ) (x : NodeId) where
  -- it is ordered before x
  ordered : (y : NodeId) → IsKnown joined x y → AgreeOnKnown joined down right x y → is_ordered down right y x ≡ true
  ordered y (Same e) agree = subst (λ z. is_ordered down right z x ≡ true) (sym e) (itself x)
    where
      itself : (z : NodeId) → is_ordered down right z z ≡ true
      itself z = ap₂ (λ a b. (a && b) || (ltb (down z) (down z) && ltb (right z) (right z))) (eq-eqb z.iteration z.iteration refl)
          (eq-eqb z.index z.index refl)
  ordered y (Before known) agree =
      let both = agree known in
      either (is_same x y) _ (ap₂ (λ a b. a && b) (lt-ltb (down y) (down x) both.0) (lt-ltb (right y) (right x) both.1))
    where
      either : (a b : Bool) → b ≡ true → (a || b) ≡ true
      either true b e = refl
      either false b e = e

  -- and x is the later of the two
  not_later : (order : NodeId → ℕ) (y : NodeId) → IsKnown joined x y → (is_known_before joined x y ≡ true → order y < order x)
      → later order (Some y) x ≡ x
  not_later order y (Same e) agree = subst (λ z. later order (Some z) x ≡ x) (sym e) (either (ltb (order x) (order x)))
    where
      either : (t : Bool) → cond t x x ≡ x
      either true = refl
      either false = refl
  not_later order y (Before known) agree = ap (λ t. cond t x y) (lt-ltb _ _ (agree known))

  -- the same of a kept instance, if there is one
  no_race : (kind : AccessKind) (kept : Option MarkedNode) (rest : Option NotedAccess) → asks_about joined x kept ≡ false
      → IfSome kept (λ y. AgreeOnKnown joined down right x y.node) → race_with down right x kind (node_of kept) rest ≡ rest
  no_race kind None rest h agree = refl
  no_race kind (Some y) rest h agree =
      ap (λ t. cond t rest (Some (noted_access y.node kind))) (ordered y.node (known_of joined x y.node _ _ refl refl h) agree)

  later_in_down : (kept : Option MarkedNode) → asks_about joined x kept ≡ false
      → IfSome kept (λ y. AgreeOnKnown joined down right x y.node) → later down (node_of kept) x ≡ x
  later_in_down None h agree = refl
  later_in_down (Some y) h agree = not_later down y.node (known_of joined x y.node _ _ refl refl h) (λ e. (agree e).0)

  later_in_right : (kept : Option MarkedNode) → asks_about joined x kept ≡ false
      → IfSome kept (λ y. AgreeOnKnown joined down right x y.node) → later right (node_of kept) x ≡ x
  later_in_right None h agree = refl
  later_in_right (Some y) h agree = not_later right y.node (known_of joined x y.node _ _ refl refl h) (λ e. (agree e).1)

  -- it races with none
  pub known_clean : (h : History) (kind : AccessKind) → may_ask joined x h ≡ false → AgreeOnKnownKept joined down right x h
      → None ≡ check_access down right (kept_of h) x kind
  known_clean h Read asks agree = sym (no_race Write h.writer None (asks_none joined x h asks).0 agree.writer)
  known_clean h Write asks agree =
      let none = asks_none joined x h asks in
      sym (no_race Write h.writer _ none.0 agree.writer
      ∙ (no_race Read h.rightmost _ none.1 agree.rightmost ∙ no_race Read h.downmost None none.2 agree.downmost))

-- and it is kept
pub known_kept : (joined : Option ℕ) (down right : NodeId → ℕ) (x : MarkedNode) (h : History) (kind : AccessKind)
    → may_ask joined x.node h ≡ false → AgreeOnKnownKept joined down right x.node h
    → kept_of (kept_known h x kind) ≡ updated_history down right (kept_of h) x.node kind
known_kept joined down right x h Read asks agree =
    let none = asks_none joined x.node h asks in
    ap₂ (λ a b. record (kept_of h) { rightmost = Some a; downmost = Some b })
    (sym (later_in_down joined down right x.node h.rightmost none.1 agree.rightmost))
    (sym (later_in_right joined down right x.node h.downmost none.2 agree.downmost))
known_kept joined down right x h Write asks agree = refl

-- the report is as it was
pub known_report : (x : MarkedNode) (h : History) (kind : AccessKind) → (kept_known h x kind).report ≡ h.report
known_report x h Read = refl
known_report x h Write = refl

unreported : (report : Option Found) (x : NodeId) (kind : AccessKind) → report ≡ report_after report x kind Clean
unreported None x kind = refl
unreported (Some found) x kind = refl

-- the history after one access more
pub known_step : (joined : Option ℕ) (down right : NodeId → ℕ) (x : MarkedNode) (h : History) (kind : AccessKind)
    → may_ask joined x.node h ≡ false → AgreeOnKnownKept joined down right x.node h → (accesses : List NotedAccess)
    → IsHistoryAfter down right accesses h → IsHistoryAfter down right (accesses ++ noted_access x.node kind ∷ []) (kept_known h x kind)
known_step joined down right x h kind asks agree accesses before =
    history_pushed down right accesses h (kept_known h x kind) x.node kind Clean (known_clean joined down right x.node h kind asks agree)
    (known_kept joined down right x h kind asks agree) (known_report x h kind ∙ unreported h.report x.node kind) before
