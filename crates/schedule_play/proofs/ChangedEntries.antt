-- What is kept of the iterations follows the events of a run.
use Rattle.std.proofs.Common.{◌≡◌, ◌≢◌, ◌∙◌, ap, ap₂, sym, subst, refl, arith, ℕ, ℤ, pos, zero, suc, ◌+◌, ◌<◌, ◌≤◌, ◌<ℤ◌, List, [], ◌∷◌}
use Rattle.std.proofs.Common.{◌++◌, append_assoc, Bool, true, false, not, ◌&&◌, ◌||◌, if◌then◌else◌, Option, Some, None, length, map}
use Rattle.std.proofs.Common.{filter, inl, inr, eqb, cond}
use Rattle.std.proofs.lemmas.Bool.{cases_eq, eq-eqb, eqb-true}
use Rattle.std.proofs.lemmas.List.{length-append, map-append}
use Rattle.std.proofs.lemmas.List.Elements.{filter-append}
use Rattle.std.proofs.lemmas.List.Folds.{list_all-append}
use Rattle.std.specs.List.{list_all}
use Rattle.std.specs.Prelude.{int_lt, ◌==◌}
use Rattle.pipe_model.specs.declared.column.ColumnEnd.{ColumnEnd}
use Rattle.pipe_model.specs.declared.node.Kind.{Kind}
use Rattle.pipe_model.specs.declared.node.Kind.TheVariants as kinds
use Rattle.pipe_model.specs.declared.node.Node.{Node}
use Rattle.pipe_model.specs.declared.status.Status.{Status}
use Rattle.pipe_model.specs.declared.status.Status.TheVariants as statuses
use Rattle.pipe_model.specs.Pipelines.Behaviour.{Staged, Ended as Over, node_of}
use Rattle.pipe_model.specs.Runs.NextEvents.{frame_has_passed, has_passed, left_has_passed, may_enter}
use Rattle.pipe_model.specs.Runs.State.{Frame, alive_in, alive_one, enter_pending, frame_at, fresh_frame, update_frame, with_action}
use Rattle.run_laws.proofs.RunStates.FrameMoves.{entered_frame, enter_pending_is, last_node, last_node-push}
use Rattle.run_laws.proofs.RunStates.Frames.{frame_at_other, frame_at_push, frame_at_updated, frame_at_within, length-update_frame}
use Rattle.schedule_play.specs.declared.changes.Change.TheVariants.{Named, Entered, Ended}
use Rattle.schedule_play.specs.declared.turns.Alive.{Alive}
use Rattle.schedule_play.specs.declared.turns.Readiness.TheVariants.{Running, MayEnter, MustWait}
use Rattle.schedule_play.specs.AliveChanges.{after_change, is_other, passes_left, released}
use Rattle.schedule_play.specs.Turns.{alive_entry, alive_from}

-- ---- entry by entry

-- the entry of an iteration, if it has begun and not ended
abbrev entry_at : List Frame → ℕ → Option Frame → List Alive
entry_at all i None = []
entry_at all i (Some f) = alive_entry all i f.status f.nodes

-- a change of lists that changes each part by itself
record IsByParts (act : List Alive → List Alive) : Type 0 where
  none : act [] ≡ []
  parts : (xs ys : List Alive) → act (xs ++ ys) ≡ act xs ++ act ys

by_entries : (act : List Alive → List Alive) → IsByParts act → (all all' fs fs' : List Frame) (i : ℕ) → length fs ≡ length fs'
    → ((k : ℕ) → act (entry_at all (i + k) (frame_at fs k)) ≡ entry_at all' (i + k) (frame_at fs' k))
    → act (alive_from all i fs) ≡ alive_from all' i fs'
by_entries act apart all all' [] [] i e h = apart.none
by_entries act apart all all' [] (g ∷ gs) i e h = absurd (omega (arith, e))
by_entries act apart all all' (f ∷ fs) [] i e h = absurd (omega (arith, e))
by_entries act apart all all' (f ∷ fs) (g ∷ gs) i e h =
    let first : i + 0 ≡ i = omega arith in
    let here : act (alive_entry all i f.status f.nodes) ≡ alive_entry all' i g.status g.nodes =
    subst (λ n. act (alive_entry all n f.status f.nodes) ≡ alive_entry all' n g.status g.nodes) first (h 0) in
    let rest : act (alive_from all (i + 1) fs) ≡ alive_from all' (i + 1) gs =
    by_entries act apart all all' fs gs (i + 1) (omega (arith, e))
    (λ k. let z : i + suc k ≡ i + 1 + k = omega arith in
    subst (λ n. act (entry_at all n (frame_at fs k)) ≡ entry_at all' n (frame_at gs k)) z (h (suc k))) in
    apart.parts (alive_entry all i f.status f.nodes) (alive_from all (i + 1) fs) ∙ ap₂ (λ a b. a ++ b) here rest

-- one frame was updated
updated : (act : List Alive → List Alive) → IsByParts act → (all : List Frame) (j : ℕ) (f : Frame) (u : Frame → Frame)
    → frame_at all j ≡ Some f
    → act (alive_entry all j f.status f.nodes) ≡ alive_entry (update_frame all j u) j (u f).status (u f).nodes
    → ((k : ℕ) (w : Status) (nodes : List Node) → k ≢ j → act (alive_entry all k w nodes) ≡ alive_entry (update_frame all j u) k w nodes)
    → act (alive_from all 0 all) ≡ alive_from (update_frame all j u) 0 (update_frame all j u)
updated act apart all j f u is own other = by_entries act apart all all' all all' 0 (sym (length-update_frame all j u)) (λ k. at k)
  where
    all' : List Frame
    all' = update_frame all j u

    any : (k : ℕ) → k ≢ j → (o : Option Frame) → act (entry_at all k o) ≡ entry_at all' k o
    any k ne None = apart.none
    any k ne (Some g) = other k g.status g.nodes ne

    at : (k : ℕ) → act (entry_at all (0 + k) (frame_at all k)) ≡ entry_at all' (0 + k) (frame_at all' k)
    at k =
        let z : 0 + k ≡ k = omega arith in
        subst (λ n. act (entry_at all n (frame_at all k)) ≡ entry_at all' n (frame_at all' k)) (sym z) (elim (cases_eq k j) [
          | inl same ↦ subst (λ n. act (entry_at all n (frame_at all n)) ≡ entry_at all' n (frame_at all' n)) (sym same)
              (ap (λ o. act (entry_at all j o)) is ∙ own ∙ ap (entry_at all' j) (sym (frame_at_updated all j f u is)))
          | inr ne ↦ any k ne (frame_at all k) ∙ ap (entry_at all' k) (sym (frame_at_other all j k u ne))
        ])

-- ---- who may enter

pub apart_eqb : (a b : ℕ) → a ≢ b → eqb a b ≡ false
apart_eqb a b ne = by (eqb a b) refl
  where
    by : (c : Bool) → eqb a b ≡ c → eqb a b ≡ false
    by true e = absurd (ne (eqb-true a b e))
    by false e = e

-- an event of an iteration that is not the left neighbour
may_enter_other : (all : List Frame) (j : ℕ) (u : Frame → Frame) (k : ℕ) → k ≢ j + 1 → (kind : Kind) (n : ℤ)
    → may_enter (update_frame all j u) k kind n ≡ may_enter all k kind n
may_enter_other all j u k ne kinds.Zero n = refl
may_enter_other all j u k ne kinds.Continue n = refl
may_enter_other all j u zero ne kinds.Wait n = refl
may_enter_other all j u (suc i) ne kinds.Wait n =
    ap (λ o. frame_has_passed o n) (frame_at_other all j i u (λ e. ne (omega (arith, e))))

-- the entries of the other iterations
entry_other : (all : List Frame) (j : ℕ) (u : Frame → Frame) (k : ℕ) → k ≢ j + 1 → (w : Status) (nodes : List Node)
    → alive_entry all k w nodes ≡ alive_entry (update_frame all j u) k w nodes
entry_other all j u k ne statuses.Running nodes = refl
entry_other all j u k ne (statuses.Pending kind n) nodes =
    ap (λ b. record { iteration = k; number = n; readiness = if b then MayEnter else MustWait } ∷ [])
    (sym (may_enter_other all j u k ne kind n))
entry_other all j u k ne (statuses.Completed e) nodes = refl

released_up : (a b : Bool) → (a ≡ true → b ≡ true) → released b (if a then MayEnter else MustWait) ≡ (if b then MayEnter else MustWait)
released_up true true h = refl
released_up true false h = absurd (let d : false ≡ true = h refl in cc (d))
released_up false true h = refl
released_up false false h = refl

-- the entry after an event of the left neighbour
abbrev release : (ℤ → Bool) → Alive → Alive
release new a = record a { readiness = released (new a.number) a.readiness }

-- the entry of the right neighbour, if the updated iteration has passed what it had passed before
entry_right : (all : List Frame) (j : ℕ) (f : Frame) (u : Frame → Frame) (new : ℤ → Bool) → frame_at all j ≡ Some f
    → ((n : ℤ) → has_passed (u f).status (u f).nodes n ≡ new n) → ((n : ℤ) → has_passed f.status f.nodes n ≡ true → new n ≡ true)
    → (w : Status) (nodes : List Node) → map (release new) (alive_entry all (j + 1) w nodes) ≡ alive_entry (update_frame all j u)
    (j + 1) w nodes
entry_right all j f u new is now grows statuses.Running nodes = refl
entry_right all j f u new is now grows (statuses.Pending kinds.Zero n) nodes = refl
entry_right all j f u new is now grows (statuses.Pending kinds.Continue n) nodes = refl
entry_right all j f u new is now grows (statuses.Pending kinds.Wait n) nodes =
    let z : j + 1 ≡ suc j = omega arith in
    let before : left_has_passed all (j + 1) n ≡ has_passed f.status f.nodes n = ap (λ i. left_has_passed all i n) z
    ∙ ap (λ o. frame_has_passed o n) is in
    let after : left_has_passed (update_frame all j u) (j + 1) n ≡ new n =
    ap (λ i. left_has_passed (update_frame all j u) i n) z ∙ ap (λ o. frame_has_passed o n) (frame_at_updated all j f u is) ∙ now n in
    ap (λ x. record { iteration = j + 1; number = n; readiness = x } ∷ [])
    (released_up (left_has_passed all (j + 1) n) (new n) (λ e. grows n (sym before ∙ e)) ∙ ap (λ b. if b then MayEnter else MustWait)
    (sym after))
entry_right all j f u new is now grows (statuses.Completed e) nodes = refl

-- changes that do the same to an entry of iteration i
same_on : (one other : Alive → Alive) (all : List Frame) (i : ℕ) (w : Status) (nodes : List Node)
    → ((a : Alive) → a.iteration ≡ i → one a ≡ other a)
    → map one (alive_entry all i w nodes) ≡ map other (alive_entry all i w nodes)
same_on one other all i statuses.Running nodes h = ap (λ a. a ∷ []) (h _ refl)
same_on one other all i (statuses.Pending k n) nodes h = ap (λ a. a ∷ []) (h _ refl)
same_on one other all i (statuses.Completed e) nodes h = refl

unchanged : (one : Alive → Alive) (all : List Frame) (i : ℕ) (w : Status) (nodes : List Node) → ((a : Alive) → a.iteration ≡ i → one a ≡ a)
    → map one (alive_entry all i w nodes) ≡ alive_entry all i w nodes
unchanged one all i statuses.Running nodes h = ap (λ a. a ∷ []) (h _ refl)
unchanged one all i (statuses.Pending k n) nodes h = ap (λ a. a ∷ []) (h _ refl)
unchanged one all i (statuses.Completed e) nodes h = refl

map_parts : (one : Alive → Alive) → IsByParts (map one)
map_parts one = record { none = refl; parts = λ xs ys. map-append one xs ys }

-- ---- a stage is named

named_right : (j : ℕ) (n : ℤ) (free : Bool) (a : Alive) → a.iteration ≡ j + 1 → after_change (Named j n free) a ≡ release
    (λ m. int_lt m n) a
named_right j n free a e =
    let apart : eqb a.iteration j ≡ false = apart_eqb a.iteration j (λ q. absurd (omega (arith, e, q))) in
    let right : eqb a.iteration (j + 1) ≡ true = eq-eqb a.iteration (j + 1) e in
    ap (λ b. if b then record { iteration = j; number = n; readiness = if free then MayEnter else MustWait }
    else (if a.iteration == j + 1 then release (λ m. int_lt m n) a else a)) apart
    ∙ ap (λ b. if b then release (λ m. int_lt m n) a else a) right

pub named_other : (j : ℕ) (n : ℤ) (free : Bool) (a : Alive) → a.iteration ≢ j → a.iteration ≢ j + 1 → after_change (Named j n free) a ≡ a
named_other j n free a ne far =
    ap (λ b. if b then record { iteration = j; number = n; readiness = if free then MayEnter else MustWait }
    else (if a.iteration == j + 1 then release (λ m. int_lt m n) a else a)) (apart_eqb a.iteration j ne)
    ∙ ap (λ b. if b then release (λ m. int_lt m n) a else a) (apart_eqb a.iteration (j + 1) far)

passed_up : (m q n : ℤ) → q <ℤ n → int_lt m q ≡ true → int_lt m n ≡ true
passed_up m q n above e = grind (arith, above, e)

pub named : (all : List Frame) (j : ℕ) (f : Frame) (kind : Kind) (n : ℤ) (free : Bool) → frame_at all j ≡ Some f
    → f.status ≡ statuses.Running
    → (last_node f.nodes).number <ℤ n → free ≡ may_enter all j kind n
    → map (after_change (Named j n free)) (alive_from all 0 all)
    ≡ alive_from (update_frame all j (with_action (Staged kind n) (statuses.Pending kind n))) 0
    (update_frame all j (with_action (Staged kind n) (statuses.Pending kind n)))
named all j f kind n free is runs above may = updated (map change) (map_parts change) all j f u is own other
  where
    u : Frame → Frame
    u = with_action (Staged kind n) (statuses.Pending kind n)

    change : Alive → Alive
    change = after_change (Named j n free)

    own : map change (alive_entry all j f.status f.nodes) ≡ alive_entry (update_frame all j u) j (statuses.Pending kind n) f.nodes
    own =
        let same : j ≢ j + 1 = λ q. absurd (omega (arith, q)) in
        ap (λ w. map change (alive_entry all j w f.nodes)) runs
        ∙ ap (λ b. (if b then record { iteration = j; number = n; readiness = if free then MayEnter else MustWait }
        else (if j == j + 1 then release (λ m. int_lt m n)
        (record { iteration = j; number = (last_node f.nodes).number; readiness = Running })
        else record { iteration = j; number = (last_node f.nodes).number; readiness = Running })) ∷ []) (eq-eqb j j refl)
        ∙ ap (λ b. record { iteration = j; number = n; readiness = if b then MayEnter else MustWait } ∷ [])
        (may ∙ sym (may_enter_other all j u j same kind n))

    grows : (m : ℤ) → has_passed f.status f.nodes m ≡ true → int_lt m n ≡ true
    grows m e = passed_up m (last_node f.nodes).number n above (ap (λ w. has_passed w f.nodes m) (sym runs) ∙ e)

    other : (k : ℕ) (w : Status) (nodes : List Node) → k ≢ j → map change (alive_entry all k w nodes) ≡ alive_entry
        (update_frame all j u) k w nodes
    other k w nodes ne = elim (cases_eq k (j + 1)) [
      | inl right ↦ subst (λ i. map change (alive_entry all i w nodes) ≡ alive_entry (update_frame all j u) i w nodes) (sym right)
          (same_on change (release (λ m. int_lt m n)) all (j + 1) w nodes (named_right j n free)
          ∙ entry_right all j f u (λ m. int_lt m n) is (λ m. refl) grows w nodes)
      | inr far ↦ unchanged change all k w nodes (λ a e. named_other j n free a (λ q. ne (sym e ∙ q)) (λ q. far (sym e ∙ q)))
          ∙ entry_other all j u k far w nodes
    ]

-- ---- a stage is entered

pub entered_other : (j : ℕ) (a : Alive) → a.iteration ≢ j → after_change (Entered j) a ≡ a
entered_other j a ne =
    ap (λ b. if b then record { iteration = j; number = a.number; readiness = Running } else a) (apart_eqb a.iteration j ne)

-- the updated iteration has passed the same as before
may_enter_same : (all : List Frame) (j : ℕ) (f : Frame) (u : Frame → Frame) → frame_at all j ≡ Some f
    → ((n : ℤ) → has_passed (u f).status (u f).nodes n ≡ has_passed f.status f.nodes n)
    → (k : ℕ) (kind : Kind) (n : ℤ) → may_enter (update_frame all j u) k kind n ≡ may_enter all k kind n
may_enter_same all j f u is same k kinds.Zero n = refl
may_enter_same all j f u is same k kinds.Continue n = refl
may_enter_same all j f u is same zero kinds.Wait n = refl
may_enter_same all j f u is same (suc i) kinds.Wait n = elim (cases_eq i j) [
  | inl here ↦ subst (λ x. frame_has_passed (frame_at (update_frame all j u) x) n ≡ frame_has_passed (frame_at all x) n) (sym here)
      (ap (λ o. frame_has_passed o n) (frame_at_updated all j f u is) ∙ same n ∙ ap (λ o. frame_has_passed o n) (sym is))
  | inr ne ↦ ap (λ o. frame_has_passed o n) (frame_at_other all j i u ne)
]

entry_same : (all all' : List Frame) (k : ℕ) → ((kind : Kind) (n : ℤ) → may_enter all' k kind n ≡ may_enter all k kind n)
    → (w : Status) (nodes : List Node) → alive_entry all k w nodes ≡ alive_entry all' k w nodes
entry_same all all' k same statuses.Running nodes = refl
entry_same all all' k same (statuses.Pending kind n) nodes =
    ap (λ b. record { iteration = k; number = n; readiness = if b then MayEnter else MustWait } ∷ []) (sym (same kind n))
entry_same all all' k same (statuses.Completed e) nodes = refl

pub entered : (all : List Frame) (j : ℕ) (f : Frame) (kind : Kind) (n : ℤ) → frame_at all j ≡ Some f → f.status ≡ statuses.Pending kind n
    → map (after_change (Entered j)) (alive_from all 0 all)
    ≡ alive_from (update_frame all j (λ g. enter_pending g.status g)) 0 (update_frame all j (λ g. enter_pending g.status g))
entered all j f kind n is named' = updated (map change) (map_parts change) all j f u is own other
  where
    u : Frame → Frame
    u = λ g. enter_pending g.status g

    change : Alive → Alive
    change = after_change (Entered j)

    now : u f ≡ entered_frame kind n f
    now = enter_pending_is f kind n named'

    number : (last_node (f.nodes ++ node_of kind n ∷ [])).number ≡ n
    number = ap (λ (x : Node). x.number) (last_node-push f.nodes (node_of kind n))

    own : map change (alive_entry all j f.status f.nodes) ≡ alive_entry (update_frame all j u) j (u f).status (u f).nodes
    own =
        let old : Alive = record { iteration = j; number = n; readiness = if may_enter all j kind n then MayEnter else MustWait } in
        ap (λ w. map change (alive_entry all j w f.nodes)) named'
        ∙ ap (λ b. (if b then record { iteration = j; number = n; readiness = Running } else old) ∷ []) (eq-eqb j j refl)
        ∙ ap (λ m. record { iteration = j; number = m; readiness = Running } ∷ []) (sym number)
        ∙ ap (λ (g : Frame). alive_entry (update_frame all j u) j g.status g.nodes) (sym now)

    passed : (m : ℤ) → has_passed (u f).status (u f).nodes m ≡ has_passed f.status f.nodes m
    passed m = ap (λ (g : Frame). has_passed g.status g.nodes m) now ∙ ap (λ q. int_lt m q) number
        ∙ ap (λ w. has_passed w f.nodes m) (sym named')

    other : (k : ℕ) (w : Status) (nodes : List Node) → k ≢ j → map change (alive_entry all k w nodes) ≡ alive_entry
        (update_frame all j u) k w nodes
    other k w nodes ne = unchanged change all k w nodes (λ a e. entered_other j a (λ q. ne (sym e ∙ q)))
        ∙ entry_same all (update_frame all j u) k (may_enter_same all j f u is passed k) w nodes

-- ---- an iteration ends

ended_right : (j : ℕ) (a : Alive) → a.iteration ≡ j + 1 → after_change (Ended j) a ≡ release (λ m. true) a
ended_right j a e = ap (λ b. if b then release (λ m. true) a else a) (eq-eqb a.iteration (j + 1) e)

pub ended_other : (j : ℕ) (a : Alive) → a.iteration ≢ j + 1 → after_change (Ended j) a ≡ a
ended_other j a far = ap (λ b. if b then release (λ m. true) a else a) (apart_eqb a.iteration (j + 1) far)

others_stay : (all : List Frame) (j k : ℕ) (w : Status) (nodes : List Node) → k ≢ j → filter (is_other j)
    (alive_entry all k w nodes) ≡ alive_entry all k w nodes
others_stay all j k statuses.Running nodes ne =
    let a : Alive = record { iteration = k; number = (last_node nodes).number; readiness = Running } in
    ap (λ b. cond (not b) (a ∷ []) []) (apart_eqb k j ne)
others_stay all j k (statuses.Pending kind n) nodes ne =
    let a : Alive = record { iteration = k; number = n; readiness = if may_enter all k kind n then MayEnter else MustWait } in
    ap (λ b. cond (not b) (a ∷ []) []) (apart_eqb k j ne)
others_stay all j k (statuses.Completed e) nodes ne = refl

pub ended : (all : List Frame) (j : ℕ) (f : Frame) (e : ColumnEnd) → frame_at all j ≡ Some f → f.status ≡ statuses.Running
    → filter (is_other j) (map (after_change (Ended j)) (alive_from all 0 all))
    ≡ alive_from (update_frame all j (with_action (Over e) (statuses.Completed e))) 0
    (update_frame all j (with_action (Over e) (statuses.Completed e)))
ended all j f e is runs = updated act parts all j f u is own other
  where
    u : Frame → Frame
    u = with_action (Over e) (statuses.Completed e)

    change : Alive → Alive
    change = after_change (Ended j)

    act : List Alive → List Alive
    act l = filter (is_other j) (map change l)

    parts : IsByParts act
    parts = record {
      none = refl;
      parts = λ xs ys. ap (filter (is_other j)) (map-append change xs ys) ∙ filter-append (is_other j) (map change xs) (map change ys);
    }

    own : act (alive_entry all j f.status f.nodes) ≡ []
    own =
        let a : Alive = record { iteration = j; number = (last_node f.nodes).number; readiness = Running } in
        let stays : change a ≡ a = ended_other j a (λ q. absurd (omega (arith, q))) in
        ap (λ w. act (alive_entry all j w f.nodes)) runs ∙ ap (λ x. filter (is_other j) (x ∷ [])) stays
        ∙ ap (λ b. cond (not b) (a ∷ []) []) (eq-eqb j j refl)

    changed : (k : ℕ) (w : Status) (nodes : List Node) → k ≢ j → map change (alive_entry all k w nodes) ≡ alive_entry
        (update_frame all j u) k w nodes
    changed k w nodes ne = elim (cases_eq k (j + 1)) [
      | inl right ↦ subst (λ i. map change (alive_entry all i w nodes) ≡ alive_entry (update_frame all j u) i w nodes) (sym right)
          (same_on change (release (λ m. true)) all (j + 1) w nodes (ended_right j)
          ∙ entry_right all j f u (λ m. true) is (λ m. refl) (λ m q. refl) w nodes)
      | inr far ↦ unchanged change all k w nodes (λ a q. ended_other j a (λ r. far (sym q ∙ r))) ∙ entry_other all j u k far w nodes
    ]

    other : (k : ℕ) (w : Status) (nodes : List Node) → k ≢ j → act (alive_entry all k w nodes) ≡ alive_entry
        (update_frame all j u) k w nodes
    other k w nodes ne = ap (filter (is_other j)) (changed k w nodes ne) ∙ others_stay (update_frame all j u) j k w nodes ne

-- ---- an iteration begins

alive_append : (all : List Frame) (i : ℕ) (fs gs : List Frame) → alive_from all i (fs ++ gs) ≡ alive_from all i fs ++ alive_from all
    (i + length fs) gs
alive_append all i [] gs = let z : i ≡ i + 0 = omega arith in ap (λ n. alive_from all n gs) z
alive_append all i (f ∷ fs) gs =
    let z : i + 1 + length fs ≡ i + suc (length fs) = omega arith in
    ap (λ l. alive_entry all i f.status f.nodes ++ l) (alive_append all (i + 1) fs gs
    ∙ ap (λ n. alive_from all (i + 1) fs ++ alive_from all n gs) z)
    ∙ sym (append_assoc (alive_entry all i f.status f.nodes) (alive_from all (i + 1) fs) (alive_from all (i + suc (length fs)) gs))

pub begun : (all : List Frame) → alive_from (all ++ fresh_frame ∷ []) 0 (all ++ fresh_frame ∷ [])
    ≡ alive_from all 0 all ++ record { iteration = length all; number = pos 0; readiness = Running } ∷ []
begun all = alive_append all' 0 all (fresh_frame ∷ []) ∙ ap₂ (λ a b. a ++ b) (sym front) last
  where
    all' : List Frame
    all' = all ++ fresh_frame ∷ []

    enters : (k : ℕ) → k < length all → (kind : Kind) (n : ℤ) → may_enter all' k kind n ≡ may_enter all k kind n
    enters k lt kinds.Zero n = refl
    enters k lt kinds.Continue n = refl
    enters zero lt kinds.Wait n = refl
    enters (suc i) lt kinds.Wait n = ap (λ o. frame_has_passed o n) (frame_at_push all fresh_frame i (omega (arith, lt)))

    at : (k : ℕ) (o : Option Frame) → frame_at all k ≡ o → entry_at all k o ≡ entry_at all' k o
    at k None e = refl
    at k (Some g) e = entry_same all all' k (enters k (frame_at_within all k g e)) g.status g.nodes

    front : alive_from all 0 all ≡ alive_from all' 0 all
    front = by_entries (λ l. l) (record { none = refl; parts = λ xs ys. refl }) all all' all all 0 refl
        (λ k. let z : 0 + k ≡ k = omega arith in subst (λ n. entry_at all n (frame_at all k) ≡ entry_at all' n (frame_at all k)) (sym z)
        (at k (frame_at all k) refl))

    last : alive_from all' (0 + length all) (fresh_frame ∷ []) ≡ record { iteration = length all; number = pos 0; readiness = Running } ∷ []
    last = let z : 0 + length all ≡ length all = omega arith in ap (λ i. record { iteration = i; number = pos 0; readiness = Running } ∷ [])
        z

-- ---- the left neighbour

and_true : (b : Bool) → b && true ≡ b
and_true true = refl
and_true false = refl

-- the entries of an iteration that is not the left neighbour pass
no_left : (j : ℕ) (n : ℤ) (all : List Frame) (i : ℕ) (w : Status) (nodes : List Node) → i + 1 ≢ j
    → list_all (passes_left j n) (alive_entry all i w nodes) ≡ true
no_left j n all i statuses.Running nodes ne = ap (λ b. (not b || int_lt n (last_node nodes).number) && true) (apart_eqb (i + 1) j ne)
no_left j n all i (statuses.Pending kind m) nodes ne = ap (λ b. (not b || int_lt n m) && true) (apart_eqb (i + 1) j ne)
no_left j n all i (statuses.Completed e) nodes ne = refl

own_left : (j : ℕ) (n : ℤ) (all : List Frame) (i : ℕ) (w : Status) (nodes : List Node) → i + 1 ≡ j
    → list_all (passes_left j n) (alive_entry all i w nodes) ≡ has_passed w nodes n
own_left j n all i statuses.Running nodes e =
    ap (λ b. (not b || int_lt n (last_node nodes).number) && true) (eq-eqb (i + 1) j e) ∙ and_true (int_lt n (last_node nodes).number)
own_left j n all i (statuses.Pending kind m) nodes e = ap (λ b. (not b || int_lt n m) && true) (eq-eqb (i + 1) j e) ∙ and_true (int_lt n m)
own_left j n all i (statuses.Completed x) nodes e = refl

-- iterations past the left neighbour
past_left : (j : ℕ) (n : ℤ) (all : List Frame) (i : ℕ) (fs : List Frame) → j ≤ i → list_all (passes_left j n) (alive_from all i fs) ≡ true
past_left j n all i [] le = refl
past_left j n all i (f ∷ fs) le =
    list_all-append (passes_left j n) (alive_entry all i f.status f.nodes) (alive_from all (i + 1) fs)
    ∙ ap₂ (λ a b. a && b) (no_left j n all i f.status f.nodes (λ q. absurd (omega (arith, q, le))))
    (past_left j n all (i + 1) fs (omega (arith, le)))

left_from : (j : ℕ) (n : ℤ) (all : List Frame) (i k : ℕ) (fs : List Frame) → j ≡ i + k + 1
    → list_all (passes_left j n) (alive_from all i fs) ≡ frame_has_passed (frame_at fs k) n
left_from j n all i k [] e = refl
left_from j n all i zero (f ∷ fs) e =
    list_all-append (passes_left j n) (alive_entry all i f.status f.nodes) (alive_from all (i + 1) fs)
    ∙ ap₂ (λ a b. a && b) (own_left j n all i f.status f.nodes (omega (arith, e))) (past_left j n all (i + 1) fs (omega (arith, e)))
    ∙ and_true (has_passed f.status f.nodes n)
left_from j n all i (suc k) (f ∷ fs) e =
    list_all-append (passes_left j n) (alive_entry all i f.status f.nodes) (alive_from all (i + 1) fs)
    ∙ ap₂ (λ a b. a && b) (no_left j n all i f.status f.nodes (λ q. absurd (omega (arith, q, e))))
    (left_from j n all (i + 1) k fs (omega (arith, e)))

-- the left neighbour has passed the number
pub left_is : (all : List Frame) (j : ℕ) (n : ℤ) → list_all (passes_left j n) (alive_from all 0 all) ≡ left_has_passed all j n
left_is all zero n = past_left zero n all 0 all (omega arith)
left_is all (suc k) n = left_from (suc k) n all 0 k all (omega arith)

-- ---- how many

pub alive_count : (all : List Frame) (i : ℕ) (fs : List Frame) → length (alive_from all i fs) ≡ alive_in fs
alive_count all i [] = refl
alive_count all i (f ∷ fs) =
    length-append (alive_entry all i f.status f.nodes) (alive_from all (i + 1) fs) ∙ ap₂ (λ a b. a + b) (one f.status)
    (alive_count all (i + 1) fs)
  where
    one : (w : Status) → length (alive_entry all i w f.nodes) ≡ alive_one w
    one statuses.Running = refl
    one (statuses.Pending k n) = refl
    one (statuses.Completed e) = refl
