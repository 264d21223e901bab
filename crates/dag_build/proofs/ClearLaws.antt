-- Accesses of which no two race, by the fronts of each cell's accesses.
use Rattle.std.proofs.Common.{◌≡◌, ℕ, zero, suc, List, [], ◌∷◌, ◌++◌, ◌+◌, ◌<◌, ◌≤◌, length, get_or, set, refl}
use Rattle.std.proofs.Common.{sym, ap, subst, ◌∙◌, inl, inr, arith, append-nil, length-append}
use Rattle.std.proofs.lemmas.Bool.{cases_lt, cases_order}
use Rattle.std.proofs.lemmas.List.{get_or_append_left, get_or_push, get_or-set_same, get_or-set_other}
use Rattle.pipe_model.specs.declared.access.AccessKind.{AccessKind}
use Rattle.pipe_model.specs.declared.access.AccessKind.TheVariants.{Read, Write}
use Rattle.pipe_model.specs.declared.access.NodeAccess.{NodeAccess}
use Rattle.pipe_model.specs.declared.node.Node.{Node}
use Rattle.pipe_model.specs.declared.node.NodeId.{NodeId}
use Rattle.pipe_model.specs.declared.report.Report.{Report}
use Rattle.pipe_model.specs.Races.CellRaces.{NotedAccess, KindsConflict, RacesAt, access_at, accesses_to}
use Rattle.pipe_model.specs.Races.Columns.{IsNodeOf}
use Rattle.pipe_model.specs.Races.Dag.{AreParallel}
use Rattle.pipe_model.specs.Races.FirstRaces.{AreFirstRaces, RacesWithNone}
use Rattle.dag_build.specs.AccessFronts.{AreFronts, LeadsFrom, LeadsTo, front_for, joined_fronts}
use Rattle.dag_build.specs.ClearAccesses.{AreClear, IsClearWith, no_fronts}
use Rattle.dag_build.specs.Jumps.{MovesTo}
use Rattle.dag_build.specs.declared.fronts.Fronts.{Fronts}
use Rattle.dag_build.specs.RacingAccesses.{CellHasNoRace}
use Rattle.dag_build.proofs.CellGroups.{accesses_to-append, accesses_to-others, accesses_to-own, cell_of, none_in_none}
use Rattle.dag_build.proofs.FrontLaws.{fronts_joined, fronts_moved}
use Rattle.dag_build.proofs.Paths.{leads_from_itself}
use Rattle.dag_build.proofs.RacePlaces.{noted_of}

-- the accesses before another one
at_front : (noted : List NotedAccess) (x : NotedAccess) (k : ℕ) → k < length noted
    → access_at (noted ++ x ∷ []) k ≡ access_at noted k
at_front noted x k w = get_or_append_left noted (x ∷ []) _ k w

-- and that one
at_last : (noted : List NotedAccess) (x : NotedAccess) → access_at (noted ++ x ∷ []) (length noted) ≡ x
at_last noted x = get_or_push noted x _ (length noted) refl

-- the fronts of the accesses before another one
fronts_before : (columns : List (List Node)) (noted : List NotedAccess) (x : NotedAccess) (f : Fronts)
    → AreFronts columns noted (length noted) f → AreFronts columns (noted ++ x ∷ []) (length noted) f
fronts_before columns noted x f fronts = record {
  writes = λ k l kind. (
      let same = at_front noted x k l in
      subst (λ (y : NotedAccess). LeadsFrom columns y.who f.column f.writes) (sym same)
      (fronts.writes k l (subst (λ (y : NotedAccess). y.kind ≡ Write) same kind)));
  accesses = λ k l. subst (λ (y : NotedAccess). LeadsFrom columns y.who f.column f.accesses) (sym (at_front noted x k l))
      (fronts.accesses k l);
}

-- an instance that leads to another one is not parallel to it
leads_apart : (columns : List (List Node)) (x y : NodeId) → LeadsTo columns x y → AreParallel columns x y → ⊥
leads_apart columns x y l p = elim l [ inl e ↦ p.apart e | inr q ↦ p.not_before q ]

-- an instance at or after a front is led to
led_to : (columns : List (List Node)) (x y : NodeId) (i m : ℕ) → LeadsFrom columns x i m → i ≡ y.iteration → m ≤ y.index
    → IsNodeOf columns y → LeadsTo columns x y
led_to columns x y i m leads e le inside = (subst (λ t. LeadsFrom columns x t m) e leads).reached y.index le inside.1

-- an access at or after the front of those that conflict with it races with none of them
clear_at : (columns : List (List Node)) (noted : List NotedAccess) (n : ℕ) (f : Fronts) (who : NodeId) (kind : AccessKind)
    → AreFronts columns noted n f → access_at noted n ≡ record { who = who; kind = kind } → f.column ≡ who.iteration
    → front_for f kind ≤ who.index → IsNodeOf columns who → RacesWithNone columns noted n
clear_at columns noted n f who Read fronts is e le inside k r =
    let conflict = subst (λ (y : NotedAccess). KindsConflict (access_at noted k).kind y.kind) is r.conflict in
    let parallel = subst (λ (y : NotedAccess). AreParallel columns (access_at noted k).who y.who) is r.parallel in
    elim conflict [
      | inl wrote ↦ leads_apart columns (access_at noted k).who who
          (led_to columns (access_at noted k).who who f.column f.writes (fronts.writes k r.earlier wrote) e le inside) parallel
      | inr none ↦ absurd (cc)
    ]
clear_at columns noted n f who Write fronts is e le inside k r =
    let parallel = subst (λ (y : NotedAccess). AreParallel columns (access_at noted k).who y.who) is r.parallel in
    leads_apart columns (access_at noted k).who who
    (led_to columns (access_at noted k).who who f.column f.accesses (fronts.accesses k r.earlier) e le inside) parallel

-- fronts, moved to the column of an access that they let pass, and joined with it
pub clear_with : (columns : List (List Node)) (noted : List NotedAccess) (f moved joined : Fronts) (who : NodeId) (kind : AccessKind)
    → AreFronts columns noted (length noted) f → moved.column ≡ who.iteration
    → MovesTo columns f.column f.writes who.iteration moved.writes → MovesTo columns f.column f.accesses who.iteration moved.accesses
    → front_for moved kind ≤ who.index → IsNodeOf columns who → joined ≡ joined_fronts moved kind who.index
    → IsClearWith columns noted (record { who = who; kind = kind }) joined
clear_with columns noted f moved joined who kind fronts e w a le inside is =
    let x : NotedAccess = record { who = who; kind = kind } in
    let there = fronts_moved columns (noted ++ x ∷ []) (length noted) who.iteration f moved
    (fronts_before columns noted x f fronts) e w a in
    record {
      fronts = subst (AreFronts columns (noted ++ x ∷ []) (length noted + 1)) (sym is)
          (fronts_joined columns (noted ++ x ∷ []) (length noted) moved who kind who.index there (at_last noted x)
          (subst (λ i. LeadsFrom columns who i who.index) (sym e) (leads_from_itself columns who.iteration who.index)));
      clear = clear_at columns (noted ++ x ∷ []) (length noted) moved who kind there (at_last noted x) e le inside;
    }

-- a race among all accesses but the last one
race_before : (columns : List (List Node)) (noted : List NotedAccess) (x : NotedAccess) (n k : ℕ) → n < length noted
    → RacesAt columns (noted ++ x ∷ []) n k → RacesAt columns noted n k
race_before columns noted x n k l r =
    let earlier = r.earlier in
    let this = at_front noted x n l in
    let that = at_front noted x k (omega (arith, earlier, l)) in
    record {
      within = l;
      earlier = earlier;
      conflict = subst (λ (y : NotedAccess). KindsConflict y.kind (access_at noted n).kind) that
          (subst (λ (y : NotedAccess). KindsConflict (access_at (noted ++ x ∷ []) k).kind y.kind) this r.conflict);
      parallel = subst (λ (y : NotedAccess). AreParallel columns y.who (access_at noted n).who) that
          (subst (λ (y : NotedAccess). AreParallel columns (access_at (noted ++ x ∷ []) k).who y.who) this r.parallel);
    }

-- no race with another access
clear_grown : (columns : List (List Node)) (noted : List NotedAccess) (x : NotedAccess) → CellHasNoRace columns noted
    → RacesWithNone columns (noted ++ x ∷ []) (length noted) → CellHasNoRace columns (noted ++ x ∷ [])
clear_grown columns noted x clear last n k r =
    let within = r.within in
    elim (cases_lt n (length noted)) [
      | inl less ↦ clear n k (race_before columns noted x n k less r)
      | inr past ↦ last k (subst (λ m. RacesAt columns (noted ++ x ∷ []) m k)
          (omega (arith, past, within, length-append noted (x ∷ []))) r)
    ]

-- the accesses to the cell of one more access
grown_own : (xs : List NodeAccess) (a : NodeAccess) → accesses_to (cell_of a) (xs ++ a ∷ []) ≡ accesses_to (cell_of a) xs ++ noted_of a ∷ []
grown_own xs a =
    accesses_to-append (cell_of a) xs (a ∷ [])
    ∙ ap (λ l. accesses_to (cell_of a) xs ++ l) (accesses_to-own (cell_of a) (a ∷ []) (λ k d w. one k d w))
  where
    one : (k : ℕ) (d : NodeAccess) → k < 1 → cell_of (get_or (a ∷ []) k d) ≡ cell_of a
    one zero d w = refl
    one (suc k) d w = absurd (omega (arith, w))

-- and those to another cell
grown_other : (xs : List NodeAccess) (a : NodeAccess) (c : ℕ) → (cell_of a ≡ c → ⊥) → accesses_to c (xs ++ a ∷ []) ≡ accesses_to c xs
grown_other xs a c other =
    accesses_to-append c xs (a ∷ [])
    ∙ (ap (λ l. accesses_to c xs ++ l) (accesses_to-others c (a ∷ []) (λ k d w. one k d w)) ∙ append-nil (accesses_to c xs))
  where
    one : (k : ℕ) (d : NodeAccess) → k < 1 → cell_of (get_or (a ∷ []) k d) ≡ c → ⊥
    one zero d w = other
    one (suc k) d w = absurd (omega (arith, w))

-- the fronts of a cell's accesses, of which no two race
abbrev HasClearFronts : List (List Node) → List NotedAccess → Fronts → Type 0
HasClearFronts columns noted f = AreFronts columns noted (length noted) f × CellHasNoRace columns noted

-- before the first access
pub clear_none : (columns : List (List Node)) → AreClear columns [] []
clear_none columns = record {
  fronts = λ c. record { writes = λ k l. absurd (omega (arith, l)); accesses = λ k l. absurd (omega (arith, l)) };
  clear = λ c. none_in_none columns [] refl;
}

-- after one more
pub clear_more : (columns : List (List Node)) (xs : List NodeAccess) (fronts more : List Fronts) (a : NodeAccess) (after : Fronts)
    → AreClear columns xs fronts → IsClearWith columns (accesses_to (cell_of a) xs) (noted_of a) after → cell_of a < length more
    → ((c : ℕ) → get_or more c no_fronts ≡ get_or fronts c no_fronts)
    → AreClear columns (xs ++ a ∷ []) (set more (cell_of a) after)
clear_more columns xs fronts more a after before new w same = record { fronts = λ c. (each c).0; clear = λ c. (each c).1 }
  where
    noted : List NotedAccess
    noted = accesses_to (cell_of a) xs

    own : HasClearFronts columns (noted ++ noted_of a ∷ []) after
    own = (
      subst (λ n. AreFronts columns (noted ++ noted_of a ∷ []) n after) (sym (length-append noted (noted_of a ∷ []))) new.fronts,
      clear_grown columns noted (noted_of a) (before.clear (cell_of a)) new.clear,
    )

    here : HasClearFronts columns (accesses_to (cell_of a) (xs ++ a ∷ [])) (get_or (set more (cell_of a) after) (cell_of a) no_fronts)
    here =
        subst (λ l. HasClearFronts columns l (get_or (set more (cell_of a) after) (cell_of a) no_fronts)) (sym (grown_own xs a))
        (subst (HasClearFronts columns (noted ++ noted_of a ∷ [])) (sym (get_or-set_same more (cell_of a) after no_fronts w)) own)

    there : (c : ℕ) → (cell_of a ≡ c → ⊥)
        → HasClearFronts columns (accesses_to c (xs ++ a ∷ [])) (get_or (set more (cell_of a) after) c no_fronts)
    there c other =
        subst (λ l. HasClearFronts columns l (get_or (set more (cell_of a) after) c no_fronts)) (sym (grown_other xs a c other))
        (subst (HasClearFronts columns (accesses_to c xs))
        (sym (get_or-set_other more (cell_of a) c after no_fronts (λ e. other (sym e)) ∙ same c))
        (before.fronts c, before.clear c))

    each : (c : ℕ) → HasClearFronts columns (accesses_to c (xs ++ a ∷ [])) (get_or (set more (cell_of a) after) c no_fronts)
    each c = elim (cases_order (cell_of a) c) [
      | inl e ↦ subst (λ i. HasClearFronts columns (accesses_to i (xs ++ a ∷ [])) (get_or (set more (cell_of a) after) i no_fronts)) e here
      | inr other ↦ elim other [
        | inl less ↦ there c (λ e. omega (arith, less, e))
        | inr greater ↦ there c (λ e. omega (arith, greater, e))
      ]
    ]

-- without a race there is nothing to report
pub none_to_report : (columns : List (List Node)) (xs : List NodeAccess) (reports : List Report)
    → ((c : ℕ) → CellHasNoRace columns (accesses_to c xs)) → reports ≡ [] → AreFirstRaces columns xs reports
none_to_report columns xs reports clear e = subst (AreFirstRaces columns xs) (sym e) (record {
  each = λ r among. elim among [ ];
  rise = λ i j d l w. absurd (omega (arith, w));
  all = λ c later earlier r. absurd (clear c later earlier r);
})
