-- The two lists of the first starts, and of one start more.
use Rattle.std.proofs.Common.{◌≡◌, ◌∙◌, refl, sym, ap, ap₂, subst, ℕ, zero, suc, ◌+◌, ◌*◌, ◌<◌, ◌≤◌, ◌↔◌, List, [], ◌∷◌, ◌++◌, length, take}
use Rattle.std.proofs.Common.{arith}
use Rattle.std.proofs.lemmas.List.{length-take-le, map-append, take_more}
use Rattle.run_laws.proofs.ListOrders.LogGrowth.{log_entries-push}
use Rattle.order_2d.specs.OrderPairs.{HasRoom, OrderPair, marks_after, with_start}
use Rattle.order_2d.specs.ReplayedOrders.{IsBeforeInLists, OrdersArePrecedes, marks_at, marks_of_starts}
use Rattle.order_2d.specs.StartedNodes.{HasLists}
use Rattle.pipe_model.specs.declared.marks.Marks.{Marks}
use Rattle.pipe_model.specs.declared.node.Node.{Node}
use Rattle.pipe_model.specs.declared.node.NodeId.{NodeId}
use Rattle.pipe_model.specs.Orders.OrderList.{IsBeforeIn, list_of_log}
use Rattle.pipe_model.specs.Orders.OrderMarks.{instance_marks}
use Rattle.pipe_model.specs.Orders.Starts.{AreStarts, start_at, start_number}
use Rattle.pipe_model.specs.Orders.TwoOrders.{down_element, down_first_log, down_first_taken, first_placeholder, log_entries, right_element}
use Rattle.pipe_model.specs.Orders.TwoOrders.{right_first_log, right_first_taken}
use Rattle.pipe_model.specs.Races.Columns.{AreColumns, at}
use Rattle.pipe_model.specs.Races.Dag.{Precedes}
use Rattle.run_laws.proofs.ListOrders.BothOrders.{both_is_precedes}

pub length-log_entries : (taken : ℕ → ℕ → ℕ) (m : ℕ) (xs : List NodeId) → length (log_entries taken m xs) ≡ 2 * length xs
length-log_entries taken m [] = refl
length-log_entries taken m (x ∷ xs) = let rest = length-log_entries taken (m + 1) xs in omega (arith, rest)

-- the length of a log after m starts
pub log_long : (taken : ℕ → ℕ → ℕ) (starts : List NodeId) (m : ℕ) (log : List ℕ) → m ≤ length starts
    → log ≡ log_entries taken 0 (take m starts) → length log ≡ 2 * m
log_long taken starts m log l e =
    let entries = length-log_entries taken 0 (take m starts) in
    let long = length-take-le m starts l in
    ap length e ∙ omega (arith, entries, long)

-- a log after one more start
pub log_more : (taken : ℕ → ℕ → ℕ) (starts : List NodeId) (m : ℕ) (log : List ℕ) (t : ℕ) → m < length starts
    → log ≡ log_entries taken 0 (take m starts) → t ≡ taken (start_at starts m).iteration (start_at starts m).index
    → log ++ t ∷ (1 + length log) ∷ [] ≡ log_entries taken 0 (take (m + 1) starts)
log_more taken starts m log t l e takes =
    let x : NodeId = start_at starts m in
    let long = log_long taken starts m log (omega (arith, l)) e in
    let count = length-take-le m starts (omega (arith, l)) in
    let number : 1 + length log ≡ first_placeholder (0 + length (take m starts)) = omega (arith, long, count) in
    ap₂ (λ a b. log ++ a ∷ b ∷ []) takes number
    ∙ (ap (λ es. es ++ taken x.iteration x.index ∷ first_placeholder (0 + length (take m starts)) ∷ []) e
    ∙ (sym (log_entries-push taken 0 (take m starts) x)
    ∙ ap (log_entries taken 0) (sym (take_more starts m (at 0 0) l))))

pub has_room : (columns : List (List Node)) (starts : List NodeId) (m : ℕ) (o : OrderPair) → HasLists columns starts m o
    → m < length starts → HasRoom o
has_room columns starts m o h l =
    let down = log_long (down_first_taken (start_number starts)) starts m o.down.log (omega (arith, l)) h.down in
    let right = log_long (right_first_taken columns (start_number starts)) starts m o.right.log (omega (arith, l)) h.right in
    let down_room = h.down_room in
    let right_room = h.right_room in
    record { down = omega (arith, down, down_room, l); right = omega (arith, right, right_room, l) }

pub lists_more : (columns : List (List Node)) (starts : List NodeId) (m : ℕ) (o : OrderPair) (d r : ℕ) → HasLists columns starts m o
    → m < length starts → d ≡ down_first_taken (start_number starts) (start_at starts m).iteration (start_at starts m).index
    → r ≡ right_first_taken columns (start_number starts) (start_at starts m).iteration (start_at starts m).index
    → HasLists columns starts (m + 1) (with_start o d r)
lists_more columns starts m o d r h l down right = record {
  down = log_more (down_first_taken (start_number starts)) starts m o.down.log d l h.down down;
  right = log_more (right_first_taken columns (start_number starts)) starts m o.right.log r l h.right right;
  down_room = h.down_room;
  right_room = h.right_room;
}

-- the marks of start m
pub marks_are : (columns : List (List Node)) (starts : List NodeId) (m n i k d r : ℕ) → n ≡ 2 * m → start_number starts i k ≡ m
    → d ≡ down_first_taken (start_number starts) i k → r ≡ right_first_taken columns (start_number starts) i k
    → marks_after n d r ≡ instance_marks columns starts i k
marks_are columns starts m n i k d r long number down right =
    ap (λ c. marks_after c d r) (long ∙ ap (λ c. 2 * c) (sym number))
    ∙ ap₂ (λ a b. marks_after (2 * start_number starts i k) a b) down right

-- the marks of the first starts, and of one more
pub marks_more : (columns : List (List Node)) (starts : List NodeId) (m : ℕ) (marks : List Marks) (new : Marks) → m < length starts
    → marks ≡ marks_of_starts columns starts (take m starts)
    → new ≡ instance_marks columns starts (start_at starts m).iteration (start_at starts m).index
    → marks ++ new ∷ [] ≡ marks_of_starts columns starts (take (m + 1) starts)
marks_more columns starts m marks new l before is =
    ap₂ (λ ms a. ms ++ a ∷ []) before is
    ∙ (sym (map-append (λ (x : NodeId). instance_marks columns starts x.iteration x.index) (take m starts) (start_at starts m ∷ []))
    ∙ ap (marks_of_starts columns starts) (sym (take_more starts m (at 0 0) l)))

-- ---- the orders of all starts

marks_at_start : (columns : List (List Node)) (starts nodes : List NodeId) (m : ℕ) → m < length nodes
    → marks_at (marks_of_starts columns starts nodes) m ≡ instance_marks columns starts (start_at nodes m).iteration
    (start_at nodes m).index
marks_at_start columns starts [] m l = absurd (omega (arith, l))
marks_at_start columns starts (x ∷ xs) zero l = refl
marks_at_start columns starts (x ∷ xs) (suc m) l = marks_at_start columns starts xs m (omega (arith, l))

pub orders_are_precedes : (columns : List (List Node)) (starts : List NodeId) → AreColumns columns → AreStarts columns starts
    → (nodes : List NodeId) → nodes ≡ starts → (marks : List Marks) → marks ≡ marks_of_starts columns starts starts
    → (o : OrderPair) → o.down.log ≡ down_first_log starts → o.right.log ≡ right_first_log columns starts
    → OrdersArePrecedes columns nodes marks o
orders_are_precedes columns starts ok ord nodes same marks marks_same o down right =
    subst (λ ns. OrdersArePrecedes columns ns marks o) (sym same)
    (subst (λ ms. OrdersArePrecedes columns starts ms o) (sym marks_same) (λ m n lm ln. by_law m n lm ln))
  where
    by_law : (m n : ℕ) → m < length starts → n < length starts
        → IsBeforeInLists o (marks_at (marks_of_starts columns starts starts) m) (marks_at (marks_of_starts columns starts starts) n)
        ↔ Precedes columns (start_at starts m) (start_at starts n)
    by_law m n lm ln =
        let x : NodeId = start_at starts m in
        let y : NodeId = start_at starts n in
        let a = marks_at_start columns starts starts m lm in
        let b = marks_at_start columns starts starts n ln in
        let started_x : start_number starts x.iteration x.index < length starts = (let e = ord.once m lm in omega (arith, e, lm)) in
        let started_y : start_number starts y.iteration y.index < length starts = (let e = ord.once n ln in omega (arith, e, ln)) in
        let law = both_is_precedes columns starts ok ord x y started_x started_y in
        let d : down_element starts x ≡ (marks_at (marks_of_starts columns starts starts) m).down_first =
        sym (ap (λ (k : Marks). k.down_first) a) in
        let d' : down_element starts y ≡ (marks_at (marks_of_starts columns starts starts) n).down_first =
        sym (ap (λ (k : Marks). k.down_first) b) in
        let r : right_element columns starts x ≡ (marks_at (marks_of_starts columns starts starts) m).right_first =
        sym (ap (λ (k : Marks). k.right_first) a) in
        let r' : right_element columns starts y ≡ (marks_at (marks_of_starts columns starts starts) n).right_first =
        sym (ap (λ (k : Marks). k.right_first) b) in (
          (λ before. law.0 (record {
            down = subst (λ z. IsBeforeIn (list_of_log (down_first_log starts)) z (down_element starts y)) (sym d)
                (subst (λ z. IsBeforeIn (list_of_log (down_first_log starts))
                (marks_at (marks_of_starts columns starts starts) m).down_first z) (sym d')
                (subst (λ l. IsBeforeIn (list_of_log l) (marks_at (marks_of_starts columns starts starts) m).down_first
                (marks_at (marks_of_starts columns starts starts) n).down_first) down before.down));
            right = subst (λ z. IsBeforeIn (list_of_log (right_first_log columns starts)) z (right_element columns starts y)) (sym r)
                (subst (λ z. IsBeforeIn (list_of_log (right_first_log columns starts))
                (marks_at (marks_of_starts columns starts starts) m).right_first z) (sym r')
                (subst (λ l. IsBeforeIn (list_of_log l) (marks_at (marks_of_starts columns starts starts) m).right_first
                (marks_at (marks_of_starts columns starts starts) n).right_first) right before.right));
          })),
          (λ path. let both = law.1 path in record {
            down = subst (λ l. IsBeforeIn (list_of_log l) (marks_at (marks_of_starts columns starts starts) m).down_first
                (marks_at (marks_of_starts columns starts starts) n).down_first) (sym down)
                (subst (λ z. IsBeforeIn (list_of_log (down_first_log starts)) z
                (marks_at (marks_of_starts columns starts starts) n).down_first) d
                (subst (λ z. IsBeforeIn (list_of_log (down_first_log starts)) (down_element starts x) z) d' both.down));
            right = subst (λ l. IsBeforeIn (list_of_log l) (marks_at (marks_of_starts columns starts starts) m).right_first
                (marks_at (marks_of_starts columns starts starts) n).right_first) (sym right)
                (subst (λ z. IsBeforeIn (list_of_log (right_first_log columns starts)) z
                (marks_at (marks_of_starts columns starts starts) n).right_first) r
                (subst (λ z. IsBeforeIn (list_of_log (right_first_log columns starts)) (right_element columns starts x) z) r'
                both.right));
          }),
        )
