-- Which entries of a shard belong to an instance, and which entries of a trace belong to a shard.
use Rattle.std.proofs.Common.{◌≡◌, ◌∙◌, refl, sym, ap, ap₂, subst, ℕ, suc, ◌%◌, List, [], ◌∷◌, map, Bool, true, false, ◌==◌, ◌&&◌, cond}
use Rattle.std.proofs.Common.{filter, All, arith, inl, inr}
use Rattle.std.proofs.lemmas.Bool.{eq-eqb, eqb-true}
use Rattle.pipe_model.specs.declared.node.NodeId.{NodeId}
use Rattle.pipe_model.specs.declared.ticket.Entry.{Entry}
use Rattle.pipe_model.specs.declared.ticket.ShardEntry.{ShardEntry}
use Rattle.pipe_model.specs.Races.DeterminacyRaces.{Among, Here, Later}
use Rattle.pipe_model.proofs.Members.{among_either, none_among, only_one}
use Rattle.run_record.proofs.RisingLists.{among_map}
use Rattle.schedule_laws.proofs.AllowedEvents.{both_true}
use Rattle.hall_laws.specs.ClosedHalls.{entries_of_instance, entries_of_shard, entry_in_trace, is_same_node}

-- ---- elements of lists

pub map_has : {A B : Type 0} (f : A → B) (x : A) (xs : List A) → Among x xs → Among (f x) (map f xs)
map_has f x [] m = absurd (none_among x m)
map_has f x (y ∷ xs) Here = Here
map_has f x (y ∷ xs) (Later z m) = Later (f y) (map_has f x xs m)

-- an element that passes the test is still there
filter_has : {A : Type 0} (test : A → Bool) (x : A) (xs : List A) → Among x xs → test x ≡ true → Among x (filter test xs)
filter_has test x [] m passes = absurd (none_among x m)
filter_has test x (y ∷ xs) Here passes = subst (λ b. Among x (cond b (x ∷ filter test xs) (filter test xs))) (sym passes) Here
filter_has test x (y ∷ xs) (Later z m) passes = by_test (test y) (filter_has test x xs m passes)
  where
    by_test : (b : Bool) → Among x (filter test xs) → Among x (cond b (y ∷ filter test xs) (filter test xs))
    by_test true there = Later y there
    by_test false there = there

-- an element that is still there passes the test
among_filter : {A : Type 0} (test : A → Bool) (x : A) (xs : List A) → Among x (filter test xs) → Among x xs × (test x ≡ true)
among_filter test x [] m = absurd (none_among x m)
among_filter test x (y ∷ xs) m = by_test (test y) refl (λ there. (let h = among_filter test x xs there in (Later y h.0, h.1))) m
  where
    by_test : (b : Bool) → test y ≡ b → (Among x (filter test xs) → Among x (y ∷ xs) × (test x ≡ true))
        → Among x (cond b (y ∷ filter test xs) (filter test xs)) → Among x (y ∷ xs) × (test x ≡ true)
    by_test true passes later m = elim (among_either x (y ∷ []) (filter test xs) m) [
      | inl here ↦ (let same = only_one x y here in (subst (λ z. Among z (y ∷ xs)) (sym same) Here, ap test same ∙ passes))
      | inr there ↦ later there
    ]
    by_test false passes later m = later m

pub all_among : {A : Type 0} (P : A → Type 0) (x : A) (xs : List A) → All P xs → Among x xs → P x
all_among P x [] h m = absurd (none_among x m)
all_among P x (y ∷ xs) h m = elim (among_either x (y ∷ []) xs m) [
  | inl here ↦ subst P (sym (only_one x y here)) (h 0 y (omega arith))
  | inr there ↦ all_among P x xs (λ k d w. h (suc k) d (omega (arith, w))) there
]

-- ---- names of instances

same_node_is : (x y : NodeId) → is_same_node x y ≡ true → x ≡ y
same_node_is x y e =
    let h = both_true (x.iteration == y.iteration) (x.index == y.index) e in
    let i : x.iteration ≡ y.iteration = eqb-true x.iteration y.iteration h.0 in
    let k : x.index ≡ y.index = eqb-true x.index y.index h.1 in
    λ j. record { iteration = i j; index = k j }

same_node_itself : (x : NodeId) → is_same_node x x ≡ true
same_node_itself x = ap₂ (λ a b. a && b) (eq-eqb x.iteration x.iteration refl) (eq-eqb x.index x.index refl)

-- ---- the entries of an instance in a shard

pub shard_has_trace : (e : ShardEntry) (log : List ShardEntry) → Among e log → Among (entry_in_trace e) (entries_of_instance e.node log)
shard_has_trace e log m =
    map_has entry_in_trace e (filter (λ (d : ShardEntry). is_same_node d.node e.node) log)
    (filter_has (λ (d : ShardEntry). is_same_node d.node e.node) e log m (same_node_itself e.node))

-- an entry of this instance
abbrev pub shard_entry_of : NodeId → Entry → ShardEntry
shard_entry_of x t = record { ticket = t.ticket; node = x; access = t.access }

pub trace_is_of_shard : (x : NodeId) (t : Entry) (log : List ShardEntry) → Among t (entries_of_instance x log)
    → Among (shard_entry_of x t) log
trace_is_of_shard x t log m =
    let h = among_map entry_in_trace t (filter (λ (d : ShardEntry). is_same_node d.node x) log) m in
    let e : ShardEntry = h.0 in
    let kept = among_filter (λ (d : ShardEntry). is_same_node d.node x) e log h.1 in
    let node : e.node ≡ x = same_node_is e.node x kept.1 in
    let whole : e ≡ shard_entry_of x t = ap (λ y. shard_entry_of y (entry_in_trace e)) node ∙ ap (λ u. shard_entry_of x u) h.2 in
    subst (λ d. Among d log) whole kept.0

-- ---- the entries of a shard in a trace

pub trace_has_entry : (width : ℕ) (t : Entry) (trace : List Entry) → Among t trace → Among t
    (entries_of_shard width (t.access.cell.0 % width) trace)
trace_has_entry width t trace m =
    filter_has (λ (u : Entry). u.access.cell.0 % width == t.access.cell.0 % width) t trace m
    (eq-eqb (t.access.cell.0 % width) (t.access.cell.0 % width) refl)

-- its cell is in the shard
pub entry_is_of_trace : (width k : ℕ) (t : Entry) (trace : List Entry) → Among t (entries_of_shard width k trace)
    → Among t trace × (t.access.cell.0 % width ≡ k)
entry_is_of_trace width k t trace m =
    let h = among_filter (λ (u : Entry). u.access.cell.0 % width == k) t trace m in
    (h.0, eqb-true (t.access.cell.0 % width) k h.1)
