-- The history of a cell whose kept instances have the marks of a run.
use Rattle.std.proofs.Common.{ap, ◌≡◌, ℕ, Bool, true, false, List, Option, Some, None, IfSome, inl, inr, arith, [], ◌∷◌, ◌++◌}
use Rattle.std.proofs.Common.{if◌then◌else◌}
use Rattle.access_history.specs.declared.history.Found.{Found}
use Rattle.access_history.specs.declared.history.History.{History}
use Rattle.access_history.specs.declared.history.Verdict.{Verdict}
use Rattle.access_history.specs.declared.history.Verdict.TheVariants.{Clean, Race}
use Rattle.access_history.specs.declared.history.MarkedNode.{MarkedNode}
use Rattle.access_history.specs.KnownOrder.{AgreeOnKnownKept}
use Rattle.access_history.specs.KeptInstances.{AgreeOn, AgreeOnKept, AllKept, IsEither, IsHistoryAfter, KeepsAmong, earlier_access, kept_of}
use Rattle.access_history.specs.KeptInstances.{node_of, report_after}
use Rattle.left_parent.specs.declared.started.StartedNode.{StartedNode}
use Rattle.order_2d.specs.StartedNodes.{started_node}
use Rattle.pipe_model.specs.declared.access.AccessKind.{AccessKind}
use Rattle.pipe_model.specs.declared.access.AccessKind.TheVariants.{Read, Write}
use Rattle.pipe_model.specs.declared.node.Node.{Node}
use Rattle.pipe_model.specs.declared.node.NodeId.{NodeId}
use Rattle.pipe_model.specs.Orders.AccessHistory.{check_access, is_ordered, race_with}
use Rattle.pipe_model.specs.Orders.OrderList.{list_of_log, place}
use Rattle.pipe_model.specs.Orders.TwoOrders.{down_first_log, down_place, right_first_log, right_place}
use Rattle.pipe_model.specs.Races.CellRaces.{NotedAccess, noted_access}
use Rattle.pipe_model.specs.Races.Columns.{IsNodeOf}
use Rattle.race_report.specs.RaceReports.{IsFoundIn}
use Rattle.race_detection.specs.NotedRuns.{HasNoted, IsMarked}

-- ---- the orders of the starts agree with the lists

agree : (columns : List (List Node)) (starts : List NodeId) (d r : List ℕ) → d ≡ list_of_log (down_first_log starts)
    → r ≡ list_of_log (right_first_log columns starts) → (x y : MarkedNode) → IsMarked columns starts x → IsMarked columns starts y
    → AgreeOn d r (down_place starts) (right_place columns starts) x y
agree columns starts d r same_down same_right x y hx hy =
    let xd : place x.marks.down_first d ≡ down_place starts x.node = λ i. place (hx.marks i).down_first (same_down i) in
    let yd : place y.marks.down_first d ≡ down_place starts y.node = λ i. place (hy.marks i).down_first (same_down i) in
    let xr : place x.marks.right_first r ≡ right_place columns starts x.node = λ i. place (hx.marks i).right_first (same_right i) in
    let yr : place y.marks.right_first r ≡ right_place columns starts y.node = λ i. place (hy.marks i).right_first (same_right i) in
    record {
      in_down = ((λ h. omega (arith, xd, yd, h)), λ h. omega (arith, xd, yd, h));
      in_right = ((λ h. omega (arith, xr, yr, h)), λ h. omega (arith, xr, yr, h));
    }

-- what holds of a kept instance
each_kept : (P Q : MarkedNode → Type 0) (kept : Option MarkedNode) → ((w : MarkedNode) → P w → Q w) → IfSome kept P → IfSome kept Q
each_kept P Q None f h = tt
each_kept P Q (Some w) f h = f w h

pub agree_on_kept : (columns : List (List Node)) (starts : List NodeId) (d r : List ℕ) → d ≡ list_of_log (down_first_log starts)
    → r ≡ list_of_log (right_first_log columns starts) → (x : MarkedNode) (h : History) → IsMarked columns starts x
    → AllKept (IsMarked columns starts) h
    → AgreeOnKept d r (down_place starts) (right_place columns starts) x h
agree_on_kept columns starts d r same_down same_right x h hx kept =
    let one = agree columns starts d r same_down same_right x in
    record {
      writer = each_kept _ _ h.writer (λ w m. one w hx m) kept.writer;
      rightmost = each_kept _ _ h.rightmost (λ w m. one w hx m) kept.rightmost;
      downmost = each_kept _ _ h.downmost (λ w m. one w hx m) kept.downmost;
    }

-- ---- what is kept after one more access

one_kept : (P : MarkedNode → Type 0) (kept new : Option MarkedNode) (x : MarkedNode) → IfSome kept P → P x → IfSome new (IsEither kept x)
    → IfSome new P
one_kept P kept None x k p e = tt
one_kept P kept (Some y) x k p (inl e) = rw e p
one_kept P kept (Some y) x k p (inr e) = rw e at k

pub still_kept : (P : MarkedNode → Type 0) (h h' : History) (x : MarkedNode) → AllKept P h → P x → KeepsAmong h x h' → AllKept P h'
still_kept P h h' x k p among = record {
  writer = one_kept P h.writer h'.writer x k.writer p among.writer;
  rightmost = one_kept P h.rightmost h'.rightmost x k.rightmost p among.rightmost;
  downmost = one_kept P h.downmost h'.downmost x k.downmost p among.downmost;
}

-- ---- what is reported

-- the instance of the earlier access
abbrev IsAt : (NodeId → Type 0) → NotedAccess → Type 0
IsAt P e = P e.who

either_access : (P : NodeId → Type 0) (b : Bool) (x y : Option NotedAccess) → IfSome x (IsAt P) → IfSome y (IsAt P)
    → IfSome (if b then x else y) (IsAt P)
either_access P true x y p q = p
either_access P false x y p q = q

race_at : (P : NodeId → Type 0) (down right : NodeId → ℕ) (x : NodeId) (kind : AccessKind) (kept : Option MarkedNode)
    (rest : Option NotedAccess)
    → IfSome kept (λ w. P w.node) → IfSome rest (IsAt P) → IfSome (race_with down right x kind (node_of kept) rest) (IsAt P)
race_at P down right x kind None rest k r = r
race_at P down right x kind (Some w) rest k r = either_access P (is_ordered down right w.node x) rest (Some (noted_access w.node kind)) r k

-- a kept instance makes the access that an access races with
check_at : (P : NodeId → Type 0) (down right : NodeId → ℕ) (h : History) (x : NodeId) (kind : AccessKind) → AllKept (λ w. P w.node) h
    → IfSome (check_access down right (kept_of h) x kind) (IsAt P)
check_at P down right h x Read kept = race_at P down right x Write h.writer None kept.writer tt
check_at P down right h x Write kept =
    race_at P down right x Write h.writer _ kept.writer
    (race_at P down right x Read h.rightmost _ kept.rightmost (race_at P down right x Read h.downmost None kept.downmost tt))

-- a report names instances of the columns
reported_at : (columns : List (List Node)) (old : Option Found) (x : NodeId) (kind : AccessKind) (verdict : Verdict)
    → IfSome old (IsFoundIn columns)
    → IsNodeOf columns x → IfSome (earlier_access verdict) (IsAt (IsNodeOf columns)) → IfSome (report_after old x kind verdict)
    (IsFoundIn columns)
reported_at columns (Some found) x kind verdict o inside e = o
reported_at columns None x kind Clean o inside e = tt
reported_at columns None x kind (Race y earlier) o inside e = record { earlier = e; later = inside }

pub report_inside : (columns : List (List Node)) (starts : List NodeId) (down right : NodeId → ℕ) (h : History) (x : NodeId)
    (kind : AccessKind)
    (verdict : Verdict) (new : Option Found) → AllKept (IsMarked columns starts) h → IfSome h.report (IsFoundIn columns)
    → IsNodeOf columns x
    → earlier_access verdict ≡ check_access down right (kept_of h) x kind → new ≡ report_after h.report x kind verdict
    → IfSome new (IsFoundIn columns)
report_inside columns starts down right h x kind verdict new kept old inside race is =
    let nodes : AllKept (λ w. IsNodeOf columns w.node) h = record {
      writer = each_kept _ _ h.writer (λ w m. m.inside) kept.writer;
      rightmost = each_kept _ _ h.rightmost (λ w m. m.inside) kept.rightmost;
      downmost = each_kept _ _ h.downmost (λ w m. m.inside) kept.downmost;
    } in
    rw is (reported_at columns h.report x kind verdict old inside (rw race (check_at (IsNodeOf columns) down right h x kind nodes)))

-- ---- one more access to a cell

-- an instance with the marks of its start
pub marked_as : (columns : List (List Node)) (starts : List NodeId) (x : NodeId) (s : StartedNode) → IsNodeOf columns x
    → s ≡ started_node columns starts x.iteration x.index → IsMarked columns starts (record { node = x; marks = s.marks })
marked_as columns starts x s inside is = record { inside = inside; marks = ap (λ n. n.marks) is }

pub noted_again : (columns : List (List Node)) (starts : List NodeId) (d r : List ℕ) → d ≡ list_of_log (down_first_log starts)
    → r ≡ list_of_log (right_first_log columns starts) → (x : MarkedNode) (kind : AccessKind) (h h' : History) (verdict : Verdict)
    (accesses : List NotedAccess)
    → IsMarked columns starts x → HasNoted columns starts accesses h
    → (joined : Option ℕ) → AgreeOnKnownKept joined (down_place starts) (right_place columns starts) x.node h
    → ((down right : NodeId → ℕ) → AgreeOnKept d r down right x h → AgreeOnKnownKept joined down right x.node h
    → (before : List NotedAccess)
    → IsHistoryAfter down right before h → IsHistoryAfter down right (before ++ noted_access x.node kind ∷ []) h')
    → ((down right : NodeId → ℕ) → AgreeOnKept d r down right x h → AgreeOnKnownKept joined down right x.node h
    → earlier_access verdict ≡ check_access down right (kept_of h) x.node kind)
    → KeepsAmong h x h' → h'.report ≡ report_after h.report x.node kind verdict
    → HasNoted columns starts (accesses ++ noted_access x.node kind ∷ []) h'
noted_again columns starts d r same_down same_right x kind h h' verdict accesses marked before joined known step race each report =
    let agrees = agree_on_kept columns starts d r same_down same_right x h marked before.kept in
    record {
      after = step (down_place starts) (right_place columns starts) agrees known accesses before.after;
      kept = still_kept (IsMarked columns starts) h h' x before.kept marked each;
      report = report_inside columns starts (down_place starts) (right_place columns starts) h x.node kind verdict h'.report before.kept
          before.report
          marked.inside (race (down_place starts) (right_place columns starts) agrees known) report;
    }
