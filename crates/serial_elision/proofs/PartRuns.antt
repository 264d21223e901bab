-- A part of a program, instance after instance.
use Rattle.std.proofs.Common.{◌≡◌, ◌∙◌, ap, sym, refl, subst, ℕ, ℤ, pos, negsuc, ◌≤ℤ◌, ◌≤◌, ◌+◌, ◌-◌, ◌%◌, ◌==◌, ◌&&◌, List, [], ◌∷◌, ◌++◌}
use Rattle.std.proofs.Common.{Some, false, length, map, append-nil, append_assoc, arith}
use Rattle.std.proofs.lemmas.Bool.Decides.{nat_tests}
use Rattle.cell_store.specs.ShardState.{HasOutput, IsStateAfter, ShardState}
use Rattle.pipe_model.specs.declared.access.Access.{Access}
use Rattle.pipe_model.specs.declared.column.ColumnEnd.{ColumnEnd}
use Rattle.pipe_model.specs.declared.node.Kind.{Kind}
use Rattle.pipe_model.specs.declared.node.Node.{Node}
use Rattle.pipe_model.specs.declared.node.NodeId.{NodeId}
use Rattle.pipe_model.specs.Language.Programs.{natural}
use Rattle.pipe_model.specs.Pipelines.Behaviour.{Action, Accessed, Staged, Ended, Behaviour, Reading, Writing, Staging, Ending, HasNoEnd}
use Rattle.pipe_model.specs.Pipelines.Behaviour.{Performs, accesses_in, behaviour_after_all, closes_at_once, closes_loop, column_of}
use Rattle.pipe_model.specs.Pipelines.Behaviour.{node_of, nodes_in, read_access, trace_end, write_access}
use Rattle.pipe_model.specs.Pipelines.SerialElision.{located, serial_trace}
use Rattle.pipe_model.specs.Pipelines.Store.{HasReply, InitialStore, value_after}
use Rattle.pipe_model.specs.Races.Columns.{at, no_node}
use Rattle.run_laws.proofs.Iterations.LocatedActions.{located-append, located-ended, located-staged}
use Rattle.run_laws.proofs.Iterations.TraceParts.{accesses_in-append, ends_with_end, no_end_staged, nodes_in-append, trace_end_is}
use Rattle.serial_elision.specs.declared.instance.InstanceEnd.{InstanceEnd}
use Rattle.serial_elision.specs.declared.instance.InstanceEnd.TheVariants as instance_ends
use Rattle.serial_elision.specs.declared.log.Log.{Log}
use Rattle.serial_elision.specs.InstanceRuns.{RanFrom}
use Rattle.serial_elision.specs.PartRuns.{PartRan, column_closes}
use Rattle.serial_elision.specs.Recording.{Adds, HaveReplies, IsWhole, placed}
use Rattle.stage_code.specs.FlatCode.{FlatCode}
use Rattle.stage_interp.specs.MachineState.{RunState}
use Rattle.stage_interp.specs.RemainingBehaviour.{Represents}

-- ---- traces

accessed_same : (a b : Access) → Accessed a ≡ Accessed b → a ≡ b
accessed_same a b e = cc

reply_is_value : (store : InitialStore) (before : List Access) (c : ℕ) (v : ℤ) (a : Access) → a ≡ read_access c v → HasReply store before a
    → v ≡ value_after store before c
reply_is_value store before c v a e h = (subst (HasReply store before) e h) refl

-- the serial trace begins with accesses that have their replies
trace_splits : (store : InitialStore) (t : Behaviour) (before xs : List Access) → Performs t (map Accessed xs) → HaveReplies store before xs
    → serial_trace store t before ≡ map Accessed xs ++ serial_trace store (behaviour_after_all t (map Accessed xs)) (before ++ xs)
trace_splits store t before [] performs replies = ap (serial_trace store t) (sym (append-nil before))
trace_splits store (Reading c go) before (a ∷ xs) performs replies =
    let v = performs.0.0 in
    let is : a ≡ read_access c v = accessed_same a (read_access c v) performs.0.1 in
    let same : a ≡ read_access c (value_after store before c) = is ∙ ap (read_access c) (reply_is_value store before c v a is replies.0) in
    let rest = behaviour_after_all (go a.value) (map Accessed xs) in
    let more = trace_splits store (go a.value) (before ++ a ∷ []) xs performs.1 replies.1
    ∙ ap (λ l. map Accessed xs ++ serial_trace store rest l) (append_assoc before (a ∷ []) xs) in
    subst (λ (b : Access). Accessed b ∷ serial_trace store (go b.value) (before ++ b ∷ []) ≡ Accessed a
    ∷ (map Accessed xs ++ serial_trace store rest (before ++ a ∷ xs))) same (ap (λ l. Accessed a ∷ l) more)
trace_splits store (Writing c v d) before (a ∷ xs) performs replies =
    let is : a ≡ write_access c v = accessed_same a (write_access c v) performs.0 in
    let rest = behaviour_after_all d (map Accessed xs) in
    let more = trace_splits store d (before ++ a ∷ []) xs performs.1 replies.1
    ∙ ap (λ l. map Accessed xs ++ serial_trace store rest l) (append_assoc before (a ∷ []) xs) in
    subst (λ (b : Access). Accessed b ∷ serial_trace store d (before ++ b ∷ []) ≡ Accessed a
    ∷ (map Accessed xs ++ serial_trace store rest (before ++ a ∷ xs))) is (ap (λ l. Accessed a ∷ l) more)
trace_splits store (Staging k n d) before (a ∷ xs) performs replies = absurd (let o = performs.0 in cc)
trace_splits store (Ending e) before (a ∷ xs) performs replies = absurd (let o = performs.0 in cc)

no_end_more : (done : List Action) (xs : List Access) → HasNoEnd done → HasNoEnd (done ++ map Accessed xs)
no_end_more [] [] h = tt
no_end_more [] (x ∷ xs) h = no_end_more [] xs h
no_end_more (Accessed a ∷ done) xs h = no_end_more done xs h
no_end_more (Staged k n ∷ done) xs h = no_end_more done xs h
no_end_more (Ended e ∷ done) xs h = absurd h

accesses_are : (xs : List Access) → accesses_in (map Accessed xs) ≡ xs
accesses_are [] = refl
accesses_are (x ∷ xs) = ap (λ l. x ∷ l) (accesses_are xs)

no_nodes : (xs : List Access) → nodes_in (map Accessed xs) ≡ []
no_nodes [] = refl
no_nodes (x ∷ xs) = no_nodes xs

located_is : (i k : ℕ) (xs : List Access) → located i k (map Accessed xs) ≡ placed (at i k) xs
located_is i k [] = refl
located_is i k (x ∷ xs) = ap (λ l. record { node = at i k; access = x } ∷ l) (located_is i k xs)

-- ---- a part that is running

-- since iteration i began with the log, these are its instances, and the behaviour is left
pub record SoFar (store : InitialStore) (whole : Behaviour) (before : List Access) (i : ℕ) (log : Log) (t : Behaviour) (nodes : List Node)
    (now : Log) : Type 0 where
  pub done : List Action
  pub no_end : HasNoEnd done
  pub trace : serial_trace store whole before ≡ done ++ serial_trace store t (before ++ accesses_in done)
  pub nodes_are : nodes ≡ column_of done
  pub accesses_are : now.accesses ≡ log.accesses ++ located i 0 done
  pub cells : IsStateAfter store (before ++ accesses_in done) now.cells

-- no instance has run
pub so_far_none : (store : InitialStore) (t : Behaviour) (before : List Access) (i : ℕ) (log : Log) → IsStateAfter store before log.cells
    → SoFar store t before i log t (no_node ∷ []) log
so_far_none store t before i log state = record {
  done = [];
  no_end = tt;
  trace = ap (serial_trace store t) (sym (append-nil before));
  nodes_are = refl;
  accesses_are = sym (append-nil log.accesses);
  cells = subst (λ l. IsStateAfter store l log.cells) (sym (append-nil before)) state;
}

-- the rest of a list, after one part more
joined : {A : Type 0} (now before done more : List A) (l : List A) → now ≡ before ++ done → l ≡ now ++ more → l ≡ before ++ (done ++ more)
joined now before done more l e f = f ∙ ap (λ x. x ++ more) e ∙ append_assoc before done more

-- an instance has made its accesses
pub so_far_ran : (store : InitialStore) (whole : Behaviour) (before : List Access) (i : ℕ) (log : Log) (t : Behaviour) (nodes : List Node)
    (now now' : Log) (xs : List Access)
    → SoFar store whole before i log t nodes now → Performs t (map Accessed xs) → Adds (at i (length nodes - 1)) now xs now'
    → SoFar store whole before i log (behaviour_after_all t (map Accessed xs)) nodes now'
so_far_ran store whole before i log t nodes now now' xs h performs adds =
    let done = h.done in
    let base = before ++ accesses_in done in
    let made = map Accessed xs in
    let rest = behaviour_after_all t made in
    let grown : base ++ xs ≡ before ++ accesses_in (done ++ made) =
    append_assoc before (accesses_in done) xs ∙ ap (λ l. before ++ l) (ap (λ l. accesses_in done ++ l) (sym (accesses_are xs)) ∙ sym
    (accesses_in-append done made)) in
    let index : length nodes - 1 ≡ 0 + length (nodes_in done) = omega (arith, ap length h.nodes_are) in
    let here : located i 0 done ++ placed (at i (length nodes - 1)) xs ≡ located i 0 (done ++ made) =
    ap (λ k. located i 0 done ++ placed (at i k) xs) index ∙ ap (λ l. located i 0 done ++ l)
    (sym (located_is i (0 + length (nodes_in done)) xs))
    ∙ sym (located-append i 0 done made) in
    record {
      done = done ++ made;
      no_end = no_end_more done xs h.no_end;
      trace = h.trace ∙ ap (λ l. done ++ l) (trace_splits store t base xs performs (adds.replies store base h.cells))
          ∙ sym (append_assoc done made (serial_trace store rest (base ++ xs)))
          ∙ ap (λ l. (done ++ made) ++ serial_trace store rest l) grown;
      nodes_are = h.nodes_are ∙ ap (λ l. no_node ∷ l) (sym (append-nil (nodes_in done)) ∙ ap (λ l. nodes_in done ++ l) (sym (no_nodes xs))
          ∙ sym
          (nodes_in-append done made));
      accesses_are = joined now.accesses log.accesses (located i 0 done) (placed (at i (length nodes - 1)) xs) now'.accesses h.accesses_are
          adds.accesses_are ∙ ap (λ l. log.accesses ++ l) here;
      cells = subst (λ l. IsStateAfter store l now'.cells) grown (adds.cells store base h.cells);
    }

-- a next instance is named and entered
pub so_far_entered : (store : InitialStore) (whole : Behaviour) (before : List Access) (i : ℕ) (log : Log) (t : Behaviour)
    (nodes : List Node)
    (now : Log) (kind : Kind) (n : ℤ)
    → SoFar store whole before i log (Staging kind n t) nodes now
    → SoFar store whole before i log t (nodes ++ node_of kind n ∷ []) now
so_far_entered store whole before i log t nodes now kind n h =
    let done = h.done in
    let named = Staged kind n ∷ [] in
    let same : accesses_in done ≡ accesses_in (done ++ named) = sym (accesses_in-append done named ∙ append-nil (accesses_in done)) in
    record {
      done = done ++ named;
      no_end = no_end_staged done kind n h.no_end;
      trace = h.trace ∙ sym (append_assoc done named (serial_trace store t (before ++ accesses_in done)))
          ∙ ap (λ l. (done ++ named) ++ serial_trace store t (before ++ l)) same;
      nodes_are = ap (λ l. l ++ node_of kind n ∷ []) h.nodes_are ∙ ap (λ l. no_node ∷ l) (sym (nodes_in-append done named));
      accesses_are = h.accesses_are ∙ ap (λ l. log.accesses ++ l) (sym (located-staged i 0 done kind n));
      cells = subst (λ l. IsStateAfter store (before ++ l) now.cells) same h.cells;
    }

-- whether a trace closes the loop, by its instances and its end
closes_by : (done : List Action) (e : ColumnEnd) → HasNoEnd done
    → column_closes (record { nodes = column_of done; end = Some e }) ≡ closes_loop (done ++ Ended e ∷ [])
closes_by [] e h = refl
closes_by (Accessed a ∷ done) e h = closes_by done e h
closes_by (Staged k n ∷ done) e h =
    let two : (length (no_node ∷ (node_of k n ∷ nodes_in done)) == 1) ≡ false = grind (arith, nat_tests) in
    ap (λ b. b && closes_at_once e) two
closes_by (Ended d ∷ done) e h = absurd h

-- the part ends
pub part_ended : (store : InitialStore) (whole : Behaviour) (before : List Access) (i : ℕ) (log : Log) (nodes : List Node) (now : Log)
    (e : ColumnEnd)
    → SoFar store whole before i log (Ending e) nodes now
    → PartRan store before (serial_trace store whole before) i log (record { nodes = nodes; end = Some e }) now
part_ended store whole before i log nodes now e h =
    let done = h.done in
    let end = Ended e ∷ [] in
    let trace : done ++ end ≡ serial_trace store whole before = sym h.trace in
    let same : accesses_in done ≡ accesses_in (done ++ end) = sym (accesses_in-append done end ∙ append-nil (accesses_in done)) in
    let column : List Node = nodes in
    let own : nodes ≡ column_of (done ++ end) = h.nodes_are
    ∙ ap (λ l. no_node ∷ l) (sym (nodes_in-append done end ∙ append-nil (nodes_in done))) in
    let last : trace_end (done ++ end) ≡ Some e = trace_end_is (done ++ end) e (ends_with_end done e h.no_end) in
    subst (λ x. PartRan store before x i log (record { nodes = nodes; end = Some e }) now) trace (record {
      column_is = cc (own, last);
      closes = ap (λ l. column_closes (record { nodes = l; end = Some e })) h.nodes_are ∙ closes_by done e h.no_end;
      accesses_are = h.accesses_are ∙ ap (λ l. log.accesses ++ l) (sym (located-ended i 0 done e));
      cells = subst (λ l. IsStateAfter store (before ++ l) now.cells) same h.cells;
    })

-- ---- a machine in the middle of a part

-- the machine has a behaviour left to do, and this is what was done before
pub record Left (code : FlatCode) (cells : ℕ) (input : List ℤ) (store : InitialStore) (whole : Behaviour) (i : ℕ) (log : Log)
    (run : RunState)
    (nodes : List Node) (now : Log) : Type 0 where
  pub t : Behaviour
  pub represents : Represents code cells input run t
  pub so_far : (before : List Access) → IsStateAfter store before log.cells → SoFar store whole before i log t nodes now

-- a part begins
pub left_begun : (code : FlatCode) (cells : ℕ) (input : List ℤ) (store : InitialStore) (whole : Behaviour) (i : ℕ) (log : Log)
    (run : RunState)
    (nodes : List Node)
    → Represents code cells input run whole → nodes ≡ no_node ∷ [] → Left code cells input store whole i log run nodes log
left_begun code cells input store whole i log run nodes represents first = record {
  t = whole;
  represents = represents;
  so_far = λ before state. subst (λ x. SoFar store whole before i log whole x log) (sym first) (so_far_none store whole before i log state);
}

-- an instance ran over the cells of the log
one_ran : (code : FlatCode) (cells cells' : ℕ) (input : List ℤ) (t : Behaviour) (i : ℕ) (node : NodeId) (nodes : List Node) (now ran : Log)
    (run run' : RunState) (end end' : InstanceEnd)
    → ((d : Behaviour) → Represents code cells' input run d → RanFrom code cells' input d node now ran run' end)
    → Represents code cells input run t → cells' ≡ cells → node ≡ at i (length nodes - 1) → end ≡ end'
    → RanFrom code cells input t (at i (length nodes - 1)) now ran run' end'
one_ran code cells cells' input t i node nodes now ran run run' end end' h represents same here is =
    subst (λ c. RanFrom code c input t (at i (length nodes - 1)) now ran run' end') same
    (subst (λ x. RanFrom code cells' input t x now ran run' end') here
    (subst (λ x. RanFrom code cells' input t node now ran run' x) is (h t (subst (λ c. Represents code c input run t)
    (sym same) represents))))

-- an instance ran, and the next is entered
pub left_entered : (code : FlatCode) (cells cells' : ℕ) (input : List ℤ) (store : InitialStore) (whole : Behaviour) (i : ℕ) (log : Log)
    (run run' : RunState) (node : NodeId) (nodes nodes' : List Node)
    (now ran : Log) (end : InstanceEnd) (kind : Kind) (n : ℤ) (h : Left code cells input store whole i log run nodes now)
    → ((d : Behaviour) → Represents code cells' input run d → RanFrom code cells' input d node now ran run' end)
    → cells' ≡ cells → node ≡ at i (length nodes - 1) → end ≡ instance_ends.Next kind n → nodes' ≡ nodes ++ node_of kind n ∷ []
    → Left code cells input store whole i log run' nodes' ran
left_entered code cells cells' input store whole i log run run' node nodes nodes' now ran end kind n h did same here is grown =
    let one = one_ran code cells cells' input h.t i node nodes now ran run run' end
    (instance_ends.Next kind n) did h.represents same here is in
    record {
      t = one.ends.0;
      represents = one.ends.2;
      so_far = λ before state. subst (λ x. SoFar store whole before i log one.ends.0 x ran) (sym grown)
          (so_far_entered store whole before i log one.ends.0 nodes ran kind n
          (subst (λ x. SoFar store whole before i log x nodes ran) one.ends.1
          (so_far_ran store whole before i log h.t nodes now ran one.accesses
          (h.so_far before state) one.performs one.adds)));
    }

-- an instance ran, and it is the last
pub left_ended : (code : FlatCode) (cells cells' : ℕ) (input : List ℤ) (store : InitialStore) (whole : Behaviour) (i : ℕ) (log : Log)
    (run run' : RunState) (node : NodeId) (nodes : List Node)
    (now ran : Log) (end : InstanceEnd) (e : ColumnEnd) (before : List Access)
    (h : Left code cells input store whole i log run nodes now)
    → ((d : Behaviour) → Represents code cells' input run d → RanFrom code cells' input d node now ran run' end)
    → cells' ≡ cells → node ≡ at i (length nodes - 1) → end ≡ instance_ends.Ended e
    → IsStateAfter store before log.cells
    → PartRan store before (serial_trace store whole before) i log (record { nodes = nodes; end = Some e }) ran
left_ended code cells cells' input store whole i log run run' node nodes now ran end e before h did same here is state =
    let one = one_ran code cells cells' input h.t i node nodes now ran run run' end (instance_ends.Ended e) did h.represents same here is in
    part_ended store whole before i log nodes ran e
    (subst (λ x. SoFar store whole before i log x nodes ran) one.ends (so_far_ran store whole before i log h.t nodes now ran one.accesses
    (h.so_far before state) one.performs one.adds))

-- a limit is at most its bound
pub natural_most : (z : ℤ) (n : ℕ) → z ≤ℤ pos n → natural z ≤ n
natural_most (pos m) n h = grind (arith, h)
natural_most (negsuc m) n h = omega arith

-- a shard with all cells has the output
pub has_output : (cells : ShardState) → IsWhole cells → HasOutput cells.shard
has_output cells h = ap (λ n. 1 % n) h.shards ∙ sym h.number
