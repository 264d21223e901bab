-- Traces of points, spliced into the trace of an iteration.
use Rattle.std.proofs.Common.{◌≡◌, ◌∙◌, sym, ap, refl, ℕ, zero, suc, ℤ, pos, true, false, List, [], ◌∷◌, ◌++◌, append_assoc, append-nil}
use Rattle.std.proofs.Common.{Option, Some, None, ◌+◌, arith, length}
use Rattle.std.proofs.lemmas.Bool.{false≢true}
use Rattle.pipe_model.specs.declared.access.Access.{Access}
use Rattle.pipe_model.specs.declared.column.ColumnEnd.{ColumnEnd}
use Rattle.pipe_model.specs.declared.column.ColumnEnd.TheVariants as ends
use Rattle.pipe_model.specs.declared.node.Kind.{Kind}
use Rattle.pipe_model.specs.declared.node.Kind.TheVariants.{Zero, Wait}
use Rattle.pipe_model.specs.declared.trap.TrapPlace.{TrapPlace}
use Rattle.pipe_model.specs.declared.trap.TrapPlace.TheVariants.{At}
use Rattle.pipe_model.specs.Language.Interaction.{Interaction, Return, Step, Get, Set, Stage, bind, with_budget}
use Rattle.pipe_model.specs.Pipelines.Behaviour.{Action, Accessed, Staged, Ended, read_access, write_access, accesses_in, nodes_in, node_of}
use Rattle.pipe_model.specs.Pipelines.Behaviour.{column_of, trace_end, closes_loop}
use Rattle.pipe_model.specs.Pipelines.ElisionResults.{trap_at_end}
use Rattle.pipe_model.specs.Pipelines.SerialElision.{serial_trace, located}
use Rattle.pipe_model.specs.Pipelines.Store.{InitialStore, value_after}
use Rattle.pipe_model.specs.Pipelines.WholePrograms.{part_trap}
use Rattle.pipe_model.specs.Races.Columns.{at, node_at}
use Rattle.program_laws.proofs.Straight.{IsStraight, Returns, Raises, Steps, Gets, Sets}
use Rattle.program_laws.proofs.ProgramElisions.{first_alone}
use Rattle.wave_laws.specs.Waves.Grid.{points_accesses}
use Rattle.wave_laws.specs.Waves.GridResults.{kind_in_row, located_points, point_nodes, points_end, points_trap}
use Rattle.wave_laws.specs.Waves.Points.{is_trap, steps}

-- goes on with `more` if this is the end of a point without a trap
abbrev pub splice_end : ColumnEnd → List Action → List Action → List Action
splice_end ends.End rest more = more
splice_end ends.Closed rest more = Ended ends.Closed ∷ rest
splice_end (ends.Trapped t) rest more = Ended (ends.Trapped t) ∷ rest

abbrev pub splice : List Action → List Action → List Action
splice [] more = []
splice (Accessed a ∷ is) more = Accessed a ∷ splice is more
splice (Staged k n ∷ is) more = Staged k n ∷ splice is more
splice (Ended e ∷ is) more = splice_end e is more

-- the trace of an iteration with these points, beginning with row r
abbrev pub joined : ℕ → List (List Action) → List Action
joined r [] = []
joined r (t ∷ []) = t
joined r (t ∷ (u ∷ us)) = splice t (Staged Wait (pos (r + 1)) ∷ joined (r + 1) (u ∷ us))

-- the trace ends with its only end, and names no stage
abbrev pub IsPoint : List Action → Type 0
IsPoint [] = ⊥
IsPoint (Accessed a ∷ is) = IsPoint is
IsPoint (Staged k n ∷ is) = ⊥
IsPoint (Ended e ∷ is) = is ≡ []

-- it does not end with Closed
abbrev pub IsOpen : List Action → Type 0
IsOpen [] = ⊥
IsOpen (Accessed a ∷ is) = IsOpen is
IsOpen (Staged k n ∷ is) = ⊥
IsOpen (Ended ends.End ∷ is) = is ≡ []
IsOpen (Ended ends.Closed ∷ is) = ⊥
IsOpen (Ended (ends.Trapped t) ∷ is) = is ≡ []

-- at least one trace; all but the last belong to points without a trap, and the last names no stage
abbrev pub AreAColumn : List (List Action) → Type 0
AreAColumn [] = ⊥
AreAColumn (t ∷ []) = nodes_in t ≡ []
AreAColumn (t ∷ (u ∷ us)) = IsOpen t × (is_trap (trace_end t) ≡ false) × AreAColumn (u ∷ us)

-- steps before a tree, and a tree after it
pub bind-steps : {A B : Type 0} (n : ℕ) (d : Interaction A) (f : A → Interaction B) → bind (steps n d) f ≡ steps n (bind d f)
bind-steps zero d f = refl
bind-steps (suc n) d f = ap (λ t. Step t) (bind-steps n d f)

pub straight-steps : {A : Type 0} {P : A → Type 0} (n : ℕ) {d : Interaction A} → IsStraight P d → IsStraight P (steps n d)
straight-steps zero s = s
straight-steps (suc n) s = Steps (straight-steps n s)

-- a trace that was cut short by a trap is not continued
pub splice-trapped : (t more : List Action) → is_trap (trace_end t) ≡ true → splice t more ≡ t
splice-trapped [] more h = refl
splice-trapped (Accessed a ∷ is) more h = ap (λ l. Accessed a ∷ l) (splice-trapped is more h)
splice-trapped (Staged k n ∷ is) more h = ap (λ l. Staged k n ∷ l) (splice-trapped is more h)
splice-trapped (Ended ends.End ∷ is) more h = absurd (false≢true h)
splice-trapped (Ended ends.Closed ∷ is) more h = refl
splice-trapped (Ended (ends.Trapped t) ∷ is) more h = refl

-- steps of a point's end, and of an iteration that goes on to the next row
end_spliced : (store : InitialStore) (budget left n : ℕ) (k : Kind) (m : ℤ) (next : Interaction ColumnEnd) (before : List Access)
    → serial_trace store (with_budget budget left (steps n (Stage k m next))) before
    ≡ splice (serial_trace store (with_budget budget left (steps n (Return ends.End))) before)
    (Staged k m ∷ serial_trace store (with_budget budget budget next)
    (before ++ accesses_in (serial_trace store (with_budget budget left (steps n (Return ends.End))) before)))
end_spliced store budget left zero k m next before =
    ap (λ l. Staged k m ∷ serial_trace store (with_budget budget budget next) l) (sym (append-nil before))
end_spliced store budget zero (suc n) k m next before = refl
end_spliced store budget (suc left) (suc n) k m next before = end_spliced store budget left n k m next before

-- an iteration that does what a point does, and then goes on to the next row, has the point's trace and then the trace of the next row
pub spliced : {A : Type 0} {P : A → Type 0} (store : InitialStore) (budget left n : ℕ) (k : Kind) (m : ℤ) (next : Interaction ColumnEnd)
    {d : Interaction A} (f g : A → Interaction ColumnEnd) (before : List Access) → IsStraight P d
    → ((a : A) → P a → f a ≡ steps n (Stage k m next)) → ((a : A) → P a → g a ≡ steps n (Return ends.End))
    → serial_trace store (with_budget budget left (bind d f)) before
    ≡ splice (serial_trace store (with_budget budget left (bind d g)) before)
    (Staged k m ∷ serial_trace store (with_budget budget budget next)
    (before ++ accesses_in (serial_trace store (with_budget budget left (bind d g)) before)))
spliced store budget left n k m next f g before (Returns {a} p) hf hg =
    rw (hf a p, hg a p) (end_spliced store budget left n k m next before)
spliced store budget left n k m next f g before (Raises t) hf hg = refl
spliced store budget zero n k m next f g before (Steps s) hf hg = refl
spliced store budget (suc left) n k m next f g before (Steps s) hf hg = spliced store budget left n k m next f g before s hf hg
spliced store budget left n k m next f g before (Gets {go} c s) hf hg =
    let v = value_after store before c in
    let a = read_access c v in
    let t = serial_trace store (with_budget budget left (bind (go v) g)) (before ++ a ∷ []) in
    ap (λ l. Accessed a ∷ l) (spliced store budget left n k m next f g (before ++ a ∷ []) (s v) hf hg
    ∙ ap (λ l. splice t (Staged k m ∷ serial_trace store (with_budget budget budget next) l))
    (append_assoc before (a ∷ []) (accesses_in t)))
spliced store budget left n k m next f g before (Sets {d} c v s) hf hg =
    let a = write_access c v in
    let t = serial_trace store (with_budget budget left (bind d g)) (before ++ a ∷ []) in
    ap (λ l. Accessed a ∷ l) (spliced store budget left n k m next f g (before ++ a ∷ []) s hf hg
    ∙ ap (λ l. splice t (Staged k m ∷ serial_trace store (with_budget budget budget next) l))
    (append_assoc before (a ∷ []) (accesses_in t)))

-- a tree goes on in the same way by two functions that agree on all its results
pub same_end : {A B : Type 0} {P : A → Type 0} {d : Interaction A} (f g : A → Interaction B) → IsStraight P d
    → ((a : A) → P a → f a ≡ g a) → bind d f ≡ bind d g
same_end f g (Returns {a} p) h = h a p
same_end f g (Raises t) h = refl
same_end f g (Steps s) h = ap (λ t. Step t) (same_end f g s h)
same_end f g (Gets c s) h = λ i. Get c (λ v. same_end f g (s v) h i)
same_end f g (Sets c v s) h = ap (λ t. Set c v t) (same_end f g s h)

-- ---- the traces of points are open

open_end : (store : InitialStore) (budget left n : ℕ) (before : List Access)
    → IsOpen (serial_trace store (with_budget budget left (steps n (Return ends.End))) before)
open_end store budget left zero before = refl
open_end store budget zero (suc n) before = refl
open_end store budget (suc left) (suc n) before = open_end store budget left n before

pub point_is_open : {A : Type 0} {P : A → Type 0} (store : InitialStore) (budget left n : ℕ) {d : Interaction A} (before : List Access)
    → IsStraight P d → IsOpen (serial_trace store (with_budget budget left (bind d (λ a. steps n (Return ends.End)))) before)
point_is_open store budget left n before (Returns p) = open_end store budget left n before
point_is_open store budget left n before (Raises t) = refl
point_is_open store budget zero n before (Steps s) = refl
point_is_open store budget (suc left) n before (Steps s) = point_is_open store budget left n before s
point_is_open store budget left n before (Gets c s) = point_is_open store budget left n _ (s _)
point_is_open store budget left n before (Sets c v s) = point_is_open store budget left n _ s

-- ---- the parts of a spliced trace

splice_accesses : (t more : List Action) → IsOpen t → is_trap (trace_end t) ≡ false
    → accesses_in (splice t more) ≡ accesses_in t ++ accesses_in more
splice_accesses [] more o h = absurd o
splice_accesses (Accessed a ∷ is) more o h = ap (λ l. a ∷ l) (splice_accesses is more o h)
splice_accesses (Staged k n ∷ is) more o h = absurd o
splice_accesses (Ended ends.End ∷ is) more o h = rw o refl
splice_accesses (Ended ends.Closed ∷ is) more o h = absurd o
splice_accesses (Ended (ends.Trapped t) ∷ is) more o h = absurd (false≢true (sym h))

splice_located : (c r : ℕ) (t more : List Action) → IsOpen t → is_trap (trace_end t) ≡ false
    → located c r (splice t more) ≡ located c r t ++ located c r more
splice_located c r [] more o h = absurd o
splice_located c r (Accessed a ∷ is) more o h = ap (λ l. record { node = at c r; access = a } ∷ l) (splice_located c r is more o h)
splice_located c r (Staged k n ∷ is) more o h = absurd o
splice_located c r (Ended ends.End ∷ is) more o h = rw o refl
splice_located c r (Ended ends.Closed ∷ is) more o h = absurd o
splice_located c r (Ended (ends.Trapped t) ∷ is) more o h = absurd (false≢true (sym h))

splice_nodes : (t more : List Action) → IsOpen t → is_trap (trace_end t) ≡ false → nodes_in (splice t more) ≡ nodes_in more
splice_nodes [] more o h = absurd o
splice_nodes (Accessed a ∷ is) more o h = splice_nodes is more o h
splice_nodes (Staged k n ∷ is) more o h = absurd o
splice_nodes (Ended ends.End ∷ is) more o h = refl
splice_nodes (Ended ends.Closed ∷ is) more o h = absurd o
splice_nodes (Ended (ends.Trapped t) ∷ is) more o h = absurd (false≢true (sym h))

splice_ending : (t more : List Action) → IsOpen t → is_trap (trace_end t) ≡ false → trace_end (splice t more) ≡ trace_end more
splice_ending [] more o h = absurd o
splice_ending (Accessed a ∷ is) more o h = splice_ending is more o h
splice_ending (Staged k n ∷ is) more o h = absurd o
splice_ending (Ended ends.End ∷ is) more o h = refl
splice_ending (Ended ends.Closed ∷ is) more o h = absurd o
splice_ending (Ended (ends.Trapped t) ∷ is) more o h = absurd (false≢true (sym h))

splice_closes : (t more : List Action) → IsOpen t → is_trap (trace_end t) ≡ false → closes_loop (splice t more) ≡ closes_loop more
splice_closes [] more o h = absurd o
splice_closes (Accessed a ∷ is) more o h = splice_closes is more o h
splice_closes (Staged k n ∷ is) more o h = absurd o
splice_closes (Ended ends.End ∷ is) more o h = refl
splice_closes (Ended ends.Closed ∷ is) more o h = absurd o
splice_closes (Ended (ends.Trapped t) ∷ is) more o h = absurd (false≢true (sym h))

pub open_nodes : (t : List Action) → IsOpen t → nodes_in t ≡ []
open_nodes [] o = absurd o
open_nodes (Accessed a ∷ is) o = open_nodes is o
open_nodes (Staged k n ∷ is) o = absurd o
open_nodes (Ended ends.End ∷ is) o = rw o refl
open_nodes (Ended ends.Closed ∷ is) o = absurd o
open_nodes (Ended (ends.Trapped t) ∷ is) o = rw o refl

open_closes : (t : List Action) → IsOpen t → closes_loop t ≡ is_trap (trace_end t)
open_closes [] o = absurd o
open_closes (Accessed a ∷ is) o = open_closes is o
open_closes (Staged k n ∷ is) o = absurd o
open_closes (Ended ends.End ∷ is) o = refl
open_closes (Ended ends.Closed ∷ is) o = absurd o
open_closes (Ended (ends.Trapped t) ∷ is) o = refl

-- ---- the parts of a joined trace

pub joined_accesses : (r : ℕ) (ts : List (List Action)) → AreAColumn ts → accesses_in (joined r ts) ≡ points_accesses ts
joined_accesses r [] h = absurd h
joined_accesses r (t ∷ []) h = sym (append-nil (accesses_in t))
joined_accesses r (t ∷ (u ∷ us)) h =
    splice_accesses t _ h.0 h.1 ∙ ap (λ l. accesses_in t ++ l) (joined_accesses (r + 1) (u ∷ us) h.2)

pub joined_located : (c r k : ℕ) (ts : List (List Action)) → AreAColumn ts → located c k (joined r ts) ≡ located_points c k ts
joined_located c r k [] h = absurd h
joined_located c r k (t ∷ []) h = sym (append-nil (located c k t))
joined_located c r k (t ∷ (u ∷ us)) h =
    splice_located c k t _ h.0 h.1 ∙ ap (λ l. located c k t ++ l) (joined_located c (r + 1) (k + 1) (u ∷ us) h.2)

pub joined_nodes : (r : ℕ) (t : List Action) (ts : List (List Action)) → AreAColumn (t ∷ ts)
    → nodes_in (joined r (t ∷ ts)) ≡ point_nodes (r + 1) ts
joined_nodes r t [] h = h
joined_nodes r t (u ∷ us) h =
    splice_nodes t _ h.0 h.1 ∙ (let wait : kind_in_row (r + 1) ≡ Wait = rw (suc_is r) refl in
    rw wait (ap (λ l. node_of Wait (pos (r + 1)) ∷ l) (joined_nodes (r + 1) u us h.2)))
  where
    suc_is : (n : ℕ) → n + 1 ≡ suc n
    suc_is n = omega arith

pub joined_end : (r : ℕ) (ts : List (List Action)) → AreAColumn ts → trace_end (joined r ts) ≡ points_end ts
joined_end r [] h = absurd h
joined_end r (t ∷ []) h = refl
joined_end r (t ∷ (u ∷ us)) h = splice_ending t _ h.0 h.1 ∙ joined_end (r + 1) (u ∷ us) h.2

pub joined_closes : (r : ℕ) (t : List Action) (ts : List (List Action)) → IsOpen t → AreAColumn (t ∷ ts)
    → closes_loop (joined r (t ∷ ts)) ≡ is_trap (trace_end t)
joined_closes r t [] o h = open_closes t o
joined_closes r t (u ∷ us) o h = splice_closes t _ h.0 h.1 ∙ sym h.1

-- ---- the trap of a joined trace

no_trap : (place : TrapPlace) (e : Option ColumnEnd) → is_trap e ≡ false → part_trap place e ≡ None
no_trap place None h = refl
no_trap place (Some ends.End) h = refl
no_trap place (Some ends.Closed) h = refl
no_trap place (Some (ends.Trapped t)) h = absurd (false≢true (sym h))

trap_by_end : (c : ℕ) (trace : List Action) (e : Option ColumnEnd)
    → trap_at_end c trace e ≡ part_trap (At (at c (length (nodes_in trace))) (node_at (column_of trace) (length (nodes_in trace))).number) e
trap_by_end c trace None = refl
trap_by_end c trace (Some ends.End) = refl
trap_by_end c trace (Some ends.Closed) = refl
trap_by_end c trace (Some (ends.Trapped t)) = refl

length_of_nodes : (r : ℕ) (ts : List (List Action)) → length (point_nodes r ts) ≡ length ts
length_of_nodes r [] = refl
length_of_nodes r (t ∷ ts) = ap (λ n. suc n) (length_of_nodes (r + 1) ts)

last_number : (r : ℕ) (t : List Action) (ts : List (List Action))
    → (node_at (point_nodes r (t ∷ ts)) (length ts)).number ≡ pos (r + length ts)
last_number r t [] = ap (λ n. pos n) (omega arith)
last_number r t (u ∷ us) =
    let e : r + 1 + length us ≡ r + suc (length us) = omega arith in
    last_number (r + 1) u us ∙ ap (λ n. pos n) e

last_trap : (c r : ℕ) (t : List Action) (ts : List (List Action)) → AreAColumn (t ∷ ts)
    → points_trap c r (t ∷ ts) ≡ part_trap (At (at c (r + length ts)) (pos (r + length ts))) (points_end (t ∷ ts))
last_trap c r t [] h =
    let e : r ≡ r + 0 = omega arith in
    first_alone _ ∙ ap (λ n. part_trap (At (at c n) (pos n)) (trace_end t)) e
last_trap c r t (u ∷ us) h =
    let e : r + 1 + length us ≡ r + suc (length us) = omega arith in
    rw (no_trap (At (at c r) (pos r)) (trace_end t) h.1)
    (last_trap c (r + 1) u us h.2 ∙ ap (λ n. part_trap (At (at c n) (pos n)) (points_end (u ∷ us))) e)

pub joined_column : (t : List Action) (ts : List (List Action)) → AreAColumn (t ∷ ts)
    → column_of (joined 0 (t ∷ ts)) ≡ point_nodes 0 (t ∷ ts)
joined_column t ts h = ap (λ l. node_of Zero (pos 0) ∷ l) (joined_nodes 0 t ts h)

pub joined_trap : (c : ℕ) (t : List Action) (ts : List (List Action)) → AreAColumn (t ∷ ts)
    → trap_at_end c (joined 0 (t ∷ ts)) (trace_end (joined 0 (t ∷ ts))) ≡ points_trap c 0 (t ∷ ts)
joined_trap c t ts h =
    let n : length (nodes_in (joined 0 (t ∷ ts))) ≡ 0 + length ts = ap length (joined_nodes 0 t ts h) ∙ length_of_nodes 1 ts
    ∙ omega arith in
    let zero_plus : 0 + length ts ≡ length ts = omega arith in
    trap_by_end c (joined 0 (t ∷ ts)) _
    ∙ rw (joined_column t ts h, n, joined_end 0 (t ∷ ts) h, zero_plus) (rw (last_number 0 t ts)
    (sym (last_trap c 0 t ts h ∙ ap (λ m. part_trap (At (at c m) (pos (0 + length ts))) (points_end (t ∷ ts))) zero_plus)))
