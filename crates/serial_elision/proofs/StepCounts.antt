-- The steps of the instances of a part, instance after instance.
use Rattle.std.proofs.Common.{◌≡◌, ◌∙◌, ap, sym, refl, subst, ℕ, ℤ, zero, suc, pos, ◌<◌, ◌-◌, List, [], ◌∷◌, ◌++◌, map, append-nil}
use Rattle.std.proofs.Common.{append_assoc, arith}
use Rattle.std.proofs.lemmas.List.{append_cancel_left}
use Rattle.cell_store.specs.ShardState.{IsStateAfter}
use Rattle.pipe_model.specs.declared.access.Access.{Access}
use Rattle.pipe_model.specs.declared.column.ColumnEnd.{ColumnEnd}
use Rattle.pipe_model.specs.declared.node.Kind.{Kind}
use Rattle.pipe_model.specs.declared.node.NodeId.{NodeId}
use Rattle.pipe_model.specs.Language.Interaction.{Interaction, Return, Raise, Step, Get, Set, Stage}
use Rattle.pipe_model.specs.Language.Programs.{natural}
use Rattle.pipe_model.specs.Pipelines.Behaviour.{read_access, write_access}
use Rattle.pipe_model.specs.Pipelines.Store.{InitialStore, value_after}
use Rattle.serial_elision.specs.declared.instance.InstanceEnd.{InstanceEnd}
use Rattle.serial_elision.specs.declared.instance.InstanceEnd.TheVariants as instance_ends
use Rattle.serial_elision.specs.declared.log.Log.{Log}
use Rattle.serial_elision.specs.ElisionSteps.{step_counts}
use Rattle.serial_elision.specs.InstanceRuns.{IsEnd, RanTreeFrom}
use Rattle.serial_elision.specs.Recording.{HaveReplies}
use Rattle.stage_code.specs.FlatCode.{FlatCode}
use Rattle.stage_interp.specs.MachineState.{RunState, steps_of}
use Rattle.stage_interp.specs.TreeRuns.{Comes, Here, Stepped, Spent, Got, Put, RepresentsTree}

-- ---- trees

-- a run appends accesses to the log
record Appended (log log' : List Access) : Type 0 where
  made : List Access
  is : log' ≡ log ++ made

appended : {d d' : Interaction ColumnEnd} {l l' : ℕ} {log log' : List Access} → Comes d l log d' l' log' → Appended log log'
appended {log = log} Here = record { made = []; is = sym (append-nil log) }
appended (Stepped lt h) = appended h
appended {log = log} Spent = record { made = []; is = sym (append-nil log) }
appended {log = log} (Got c v h) =
    let r = appended h in record { made = read_access c v ∷ r.made; is = r.is ∙ append_assoc log (read_access c v ∷ []) r.made }
appended {log = log} (Put c v h) =
    let r = appended h in record { made = write_access c v ∷ r.made; is = r.is ∙ append_assoc log (write_access c v ∷ []) r.made }

step_counted : (store : InitialStore) (before : List Access) (budget l : ℕ) (d : Interaction ColumnEnd) → 0 < l
    → step_counts store before budget l (Step d) ≡ step_counts store before budget (l - 1) d
step_counted store before budget zero d lt = absurd (omega (arith, lt))
step_counted store before budget (suc l) d lt = let e : l ≡ suc l - 1 = omega arith in ap (λ n. step_counts store before budget n d) e

-- a run leaves the same steps to be counted, if its reads have the values of their cells
counts_on : (store : InitialStore) (budget l l' : ℕ) (d d' : Interaction ColumnEnd) (base log log' xs : List Access)
    → Comes d l log d' l' log'
    → log' ≡ log ++ xs → HaveReplies store (base ++ log) xs
    → step_counts store (base ++ log) budget l d ≡ step_counts store (base ++ log') budget l' d'
counts_on store budget l l' d d' base log log' xs Here is replies = refl
counts_on store budget l l' d d' base log log' xs (Stepped {m = e} lt h) is replies =
    step_counted store (base ++ log) budget l e lt ∙ counts_on store budget (l - 1) l' e d' base log log' xs h is replies
counts_on store budget l l' d d' base log log' xs Spent is replies =
    let none : budget ≡ budget - 0 = omega arith in ap (λ n. n ∷ []) none
counts_on store budget l l' d d' base log log' xs (Got {go = go} c v h) is replies =
    let a = read_access c v in
    let r = appended h in
    let own : xs ≡ a ∷ r.made = append_cancel_left log xs (a ∷ r.made) (sym is ∙ r.is ∙ append_assoc log (a ∷ []) r.made) in
    let given : HaveReplies store (base ++ log) (a ∷ r.made) = subst (HaveReplies store (base ++ log)) own replies in
    let value : v ≡ value_after store (base ++ log) c = given.0 refl in
    let same = append_assoc base log (a ∷ []) in
    let rest : step_counts store ((base ++ log) ++ a ∷ []) budget l (go v) ≡ step_counts store (base ++ log') budget l' d' =
    ap (λ b. step_counts store b budget l (go v)) same
    ∙ counts_on store budget l l' (go v) d' base (log ++ a ∷ []) log' r.made h r.is (subst (λ b. HaveReplies store b r.made) same given.1)
    in
    ap (λ w. step_counts store ((base ++ log) ++ read_access c w ∷ []) budget l (go w)) (sym value) ∙ rest
counts_on store budget l l' d d' base log log' xs (Put {m = e} c v h) is replies =
    let a = write_access c v in
    let r = appended h in
    let own : xs ≡ a ∷ r.made = append_cancel_left log xs (a ∷ r.made) (sym is ∙ r.is ∙ append_assoc log (a ∷ []) r.made) in
    let given : HaveReplies store (base ++ log) (a ∷ r.made) = subst (HaveReplies store (base ++ log)) own replies in
    let same = append_assoc base log (a ∷ []) in
    ap (λ b. step_counts store b budget l e) same
    ∙ counts_on store budget l l' e d' base (log ++ a ∷ []) log' r.made h r.is (subst (λ b. HaveReplies store b r.made) same given.1)

-- an instance and what follows it
instance_counted : (store : InitialStore) (budget l' : ℕ) (d d' : Interaction ColumnEnd) (base xs : List Access)
    → Comes d budget [] d' l' xs
    → HaveReplies store base xs → step_counts store base budget budget d ≡ step_counts store (base ++ xs) budget l' d'
instance_counted store budget l' d d' base xs h replies =
    let none : base ++ [] ≡ base = append-nil base in
    ap (λ b. step_counts store b budget budget d) (sym none)
    ∙ counts_on store budget budget l' d d' base [] xs xs h refl (subst (λ b. HaveReplies store b xs) (sym none) replies)

end_counted : (store : InitialStore) (before : List Access) (budget l : ℕ) (d : Interaction ColumnEnd) → IsEnd d
    → step_counts store before budget l d ≡ (budget - l) ∷ []
end_counted store before budget l (Return e) h = refl
end_counted store before budget l (Raise t) h = refl
end_counted store before budget l (Step d) h = absurd h
end_counted store before budget l (Get c go) h = absurd h
end_counted store before budget l (Set c v d) h = absurd h
end_counted store before budget l (Stage k n d) h = absurd h

-- ---- a part that is running

-- since a part began, the steps of the instances that have run were appended to `old`; the steps of the tree that is left are still to come
pub record Counted (store : InitialStore) (budget : ℕ) (whole : Interaction ColumnEnd) (before : List Access) (old : List ℤ)
    (d : Interaction ColumnEnd)
    (now : Log) (steps : List ℤ) : Type 0 where
  pub made : List Access
  pub cells : IsStateAfter store (before ++ made) now.cells
  pub counts : old ++ map pos (step_counts store before budget budget whole) ≡ steps ++ map pos
      (step_counts store (before ++ made) budget budget d)

-- the machine has a tree left to do, and the steps before it are counted
pub record StepsLeft (code : FlatCode) (cells : ℕ) (input : List ℤ) (store : InitialStore) (whole : Interaction ColumnEnd) (log : Log)
    (old : List ℤ)
    (run : RunState) (now : Log) (steps : List ℤ) : Type 0 where
  pub d : Interaction ColumnEnd
  pub represents : RepresentsTree code cells input run d
  pub counted : (before : List Access) → IsStateAfter store before log.cells
      → Counted store (natural code.limits.steps) whole before old d now steps

-- a part begins
pub steps_begun : (code : FlatCode) (cells : ℕ) (input : List ℤ) (store : InitialStore) (whole : Interaction ColumnEnd) (log : Log)
    (old : List ℤ) (run : RunState)
    → RepresentsTree code cells input run whole → StepsLeft code cells input store whole log old run log old
steps_begun code cells input store whole log old run represents = record {
  d = whole;
  represents = represents;
  counted = λ before state. record {
    made = [];
    cells = subst (λ l. IsStateAfter store l log.cells) (sym (append-nil before)) state;
    counts = ap (λ b. old ++ map pos (step_counts store b (natural code.limits.steps) (natural code.limits.steps) whole))
        (sym (append-nil before));
  };
}

-- an instance ran over the cells of the log
one_tree_ran : (code : FlatCode) (cells cells' : ℕ) (input : List ℤ) (d : Interaction ColumnEnd) (node : NodeId) (now ran : Log)
    (run run' : RunState) (end end' : InstanceEnd)
    → ((d : Interaction ColumnEnd) → RepresentsTree code cells' input run d → RanTreeFrom code cells' input d node now ran run' end)
    → RepresentsTree code cells input run d → cells' ≡ cells → end ≡ end' → RanTreeFrom code cells input d node now ran run' end'
one_tree_ran code cells cells' input d node now ran run run' end end' h represents same is =
    subst (λ c. RanTreeFrom code c input d node now ran run' end') same
    (subst (λ x. RanTreeFrom code cells' input d node now ran run' x) is
    (h d (subst (λ c. RepresentsTree code c input run d) (sym same) represents)))

-- the steps of one instance are counted
one_counted : (steps grown old : List ℤ) (all rest counts : List ℕ) (budget left n : ℕ) (z : ℤ)
    → old ++ map pos all ≡ steps ++ map pos counts
    → counts ≡ (budget - left) ∷ rest → z ≡ pos (n - left) → n ≡ budget → grown ≡ steps ++ z ∷ []
    → old ++ map pos all ≡ grown ++ map pos rest
one_counted steps grown old all rest counts budget left n z h e is same push =
    let one : z ≡ pos (budget - left) = is ∙ ap (λ b. pos (b - left)) same in
    h ∙ ap (λ l. steps ++ map pos l) e ∙ sym (append_assoc steps (pos (budget - left) ∷ []) (map pos rest))
    ∙ ap (λ x. (steps ++ x ∷ []) ++ map pos rest) (sym one) ∙ ap (λ l. l ++ map pos rest) (sym push)

-- an instance ran, and the next is entered
pub steps_entered : (code : FlatCode) (cells cells' : ℕ) (input : List ℤ) (store : InitialStore) (whole : Interaction ColumnEnd) (log : Log)
    (old : List ℤ) (run run' : RunState) (node : NodeId) (now ran : Log) (steps grown : List ℤ) (z : ℤ) (end : InstanceEnd)
    (kind : Kind) (n : ℤ)
    → StepsLeft code cells input store whole log old run now steps
    → ((d : Interaction ColumnEnd) → RepresentsTree code cells' input run d → RanTreeFrom code cells' input d node now ran run' end)
    → cells' ≡ cells → end ≡ instance_ends.Next kind n → run'.budget ≡ natural code.limits.steps → z ≡ pos (steps_of run')
    → grown ≡ steps ++ z ∷ []
    → StepsLeft code cells input store whole log old run' ran grown
steps_entered code cells cells' input store whole log old run run' node now ran steps grown z end kind n h did same is budget took push =
    let one = one_tree_ran code cells cells' input h.d node now ran run run' end (instance_ends.Next kind n) did h.represents same is in
    let b = natural code.limits.steps in
    let next = one.ends.0 in
    record {
      d = next;
      represents = one.ends.2;
      counted = λ before state. let c = h.counted before state in
          let base = before ++ c.made in
          let longer = append_assoc before c.made one.accesses in
          let counts : step_counts store base b b h.d ≡ (b - run'.left) ∷ step_counts store (before ++ (c.made ++ one.accesses)) b b next =
          instance_counted store b run'.left h.d one.rest base one.accesses one.comes (one.adds.replies store base c.cells)
          ∙ ap (step_counts store (base ++ one.accesses) b run'.left) one.ends.1
          ∙ ap (λ l. (b - run'.left) ∷ step_counts store l b b next) longer in
          record {
            made = c.made ++ one.accesses;
            cells = subst (λ l. IsStateAfter store l ran.cells) longer (one.adds.cells store base c.cells);
            counts = one_counted steps grown old (step_counts store before b b whole)
                (step_counts store (before ++ (c.made ++ one.accesses)) b b next) (step_counts store base b b h.d) b run'.left run'.budget z
                c.counts counts took budget push;
          };
    }

-- an instance ran, and it is the last
pub steps_ended : (code : FlatCode) (cells cells' : ℕ) (input : List ℤ) (store : InitialStore) (whole : Interaction ColumnEnd) (log : Log)
    (old : List ℤ) (run run' : RunState) (node : NodeId) (now ran : Log) (steps grown : List ℤ) (z : ℤ) (end : InstanceEnd) (e : ColumnEnd)
    (before : List Access) (budget : ℕ) → StepsLeft code cells input store whole log old run now steps
    → ((d : Interaction ColumnEnd) → RepresentsTree code cells' input run d → RanTreeFrom code cells' input d node now ran run' end)
    → cells' ≡ cells → end ≡ instance_ends.Ended e → run'.budget ≡ natural code.limits.steps → z ≡ pos (steps_of run')
    → grown ≡ steps ++ z ∷ []
    → natural code.limits.steps ≡ budget → IsStateAfter store before log.cells
    → grown ≡ old ++ map pos (step_counts store before budget budget whole)
steps_ended code cells cells' input store whole log old run run' node now ran steps grown z end e before budget h did same is whole_budget
    took push limit state =
    let one = one_tree_ran code cells cells' input h.d node now ran run run' end (instance_ends.Ended e) did h.represents same is in
    let b = natural code.limits.steps in
    let c = h.counted before state in
    let base = before ++ c.made in
    let counts : step_counts store base b b h.d ≡ (b - run'.left) ∷ [] =
    instance_counted store b run'.left h.d one.rest base one.accesses one.comes (one.adds.replies store base c.cells)
    ∙ end_counted store (base ++ one.accesses) b run'.left one.rest one.ends in
    let all = one_counted steps grown old (step_counts store before b b whole) [] (step_counts store base b b h.d) b run'.left run'.budget z
    c.counts counts took whole_budget push in
    sym (append-nil grown) ∙ sym all ∙ ap (λ n. old ++ map pos (step_counts store before n n whole)) limit
