-- The serial trace of one iteration.
use Rattle.std.proofs.Common.{List, [], ◌∷◌, ◌++◌, refl, ◌≡◌, sym, ap, append-nil, ◌∙◌, subst, append_assoc, Bool, false, ℕ, ℤ, true}
use Rattle.pipe_model.specs.Pipelines.Behaviour.{Behaviour, Reading, read_access, Writing, write_access, Staging, Ending, Action, HasNoEnd}
use Rattle.pipe_model.specs.Pipelines.Behaviour.{behaviour_after_all, accesses_in, Accessed, Staged, Ended, nodes_in, node_of, Performs}
use Rattle.pipe_model.specs.Pipelines.Behaviour.{closes_loop}
use Rattle.pipe_model.specs.Pipelines.Behaviour.{closes_at_once}
use Rattle.pipe_model.specs.Races.Columns.{IsRising}
use Rattle.pipe_model.specs.Pipelines.Pipeline.{Pipeline, HasLegalStages, AlwaysClosesLoop}
use Rattle.pipe_model.specs.Pipelines.SerialElision.{serial_trace}
use Rattle.pipe_model.specs.Pipelines.Store.{value_after, HasReply}
use Rattle.run_laws.proofs.Iterations.Replies.{AllHaveReplies}
use Rattle.pipe_model.specs.declared.access.Access.{Access as Cell_access}
use Rattle.pipe_model.specs.declared.column.ColumnEnd.{ColumnEnd}
use Rattle.pipe_model.specs.declared.node.Node.{Node}
use Rattle.run_laws.proofs.Iterations.TraceParts.{EndsWith}
use Rattle.run_laws.proofs.RunStates.FrameMoves.{last_node, rising_push, last_node-push}

-- a serial trace ends
pub serial_trace_ends : (p : Pipeline) (d : Behaviour) (m : List Cell_access)
    → (e : ColumnEnd) × EndsWith (serial_trace p.store d m) e
serial_trace_ends p (Reading c go) m =
    serial_trace_ends p (go (value_after p.store m c)) (m ++ read_access c (value_after p.store m c) ∷ [])
serial_trace_ends p (Writing c v d) m = serial_trace_ends p d (m ++ write_access c v ∷ [])
serial_trace_ends p (Staging k n d) m = serial_trace_ends p d m
serial_trace_ends p (Ending e) m = (e, (refl, refl))

-- the rest of a serial trace is the serial trace of what is left
pub serial_trace_rest : (p : Pipeline) (d : Behaviour) (m : List Cell_access) (xs rest : List Action) → HasNoEnd xs
    → serial_trace p.store d m ≡ xs ++ rest → rest ≡ serial_trace p.store (behaviour_after_all d xs) (m ++ accesses_in xs)
serial_trace_rest p d m [] rest h e = sym e ∙ ap (λ l. serial_trace p.store d l) (sym (append-nil m))
serial_trace_rest p (Reading c go) m (Accessed a ∷ xs) rest h e =
    let v = value_after p.store m c in
    let same : read_access c v ≡ a = cc in
    let tail : serial_trace p.store (go v) (m ++ read_access c v ∷ []) ≡ xs ++ rest = cc in
    let there : serial_trace p.store (go a.value) (m ++ a ∷ []) ≡ xs ++ rest =
    subst (λ (b : Cell_access). serial_trace p.store (go b.value) (m ++ b ∷ []) ≡ xs ++ rest) same tail in
    serial_trace_rest p (go a.value) (m ++ a ∷ []) xs rest h there
    ∙ ap (λ l. serial_trace p.store (behaviour_after_all (go a.value) xs) l) (append_assoc m (a ∷ []) (accesses_in xs))
serial_trace_rest p (Reading c go) m (Staged k n ∷ xs) rest h e = absurd (cc)
serial_trace_rest p (Reading c go) m (Ended f ∷ xs) rest h e = absurd h
serial_trace_rest p (Writing c v d) m (Accessed a ∷ xs) rest h e =
    let same : write_access c v ≡ a = cc in
    let tail : serial_trace p.store d (m ++ write_access c v ∷ []) ≡ xs ++ rest = cc in
    let there : serial_trace p.store d (m ++ a ∷ []) ≡ xs ++ rest =
    subst (λ (b : Cell_access). serial_trace p.store d (m ++ b ∷ []) ≡ xs ++ rest) same tail in
    serial_trace_rest p d (m ++ a ∷ []) xs rest h there
    ∙ ap (λ l. serial_trace p.store (behaviour_after_all d xs) l) (append_assoc m (a ∷ []) (accesses_in xs))
serial_trace_rest p (Writing c v d) m (Staged k n ∷ xs) rest h e = absurd (cc)
serial_trace_rest p (Writing c v d) m (Ended f ∷ xs) rest h e = absurd h
serial_trace_rest p (Staging k n d) m (Accessed a ∷ xs) rest h e = absurd (cc)
serial_trace_rest p (Staging k n d) m (Staged j o ∷ xs) rest h e =
    let tail : serial_trace p.store d m ≡ xs ++ rest = cc in
    serial_trace_rest p d m xs rest h tail
serial_trace_rest p (Staging k n d) m (Ended f ∷ xs) rest h e = absurd h
serial_trace_rest p (Ending f) m (Accessed a ∷ xs) rest h e = absurd (cc)
serial_trace_rest p (Ending f) m (Staged k n ∷ xs) rest h e = absurd (cc)
serial_trace_rest p (Ending f) m (Ended g ∷ xs) rest h e = absurd h

-- the numbers of its instances rise
pub serial_trace_rises : (p : Pipeline) (d : Behaviour) (m : List Cell_access) (first : Bool) (nodes : List Node)
    → IsRising nodes → HasLegalStages first (last_node nodes).number d
    → IsRising (nodes ++ nodes_in (serial_trace p.store d m))
serial_trace_rises p (Reading c go) m first nodes r legal =
    serial_trace_rises p (go (value_after p.store m c)) (m ++ read_access c (value_after p.store m c) ∷ []) first nodes r
    (legal (value_after p.store m c))
serial_trace_rises p (Writing c v d) m first nodes r legal =
    serial_trace_rises p d (m ++ write_access c v ∷ []) first nodes r legal
serial_trace_rises p (Staging k n d) m first nodes r legal =
    let up = rising_push nodes (node_of k n) r legal.1.0 in
    let h = serial_trace_rises p d m false (nodes ++ node_of k n ∷ []) up
    (rw (last_node-push nodes (node_of k n)) legal.1.1) in
    subst IsRising (append_assoc nodes (node_of k n ∷ []) (nodes_in (serial_trace p.store d m))) h
serial_trace_rises p (Ending e) m first nodes r legal = rw append-nil r

-- a read that has its reply has the value of the cell
reply_is_value : (p : Pipeline) (before : List Cell_access) (c : ℕ) (v : ℤ) (a : Cell_access) → a ≡ read_access c v
    → HasReply p.store before a → v ≡ value_after p.store before c
reply_is_value p before c v a e h = (subst (λ (b : Cell_access). HasReply p.store before b) e h) refl

-- if two actions are accesses and are equal, so are the accesses
accessed_same : (a b : Cell_access) → Accessed a ≡ Accessed b → a ≡ b
accessed_same a b e = cc

-- a trace that ends and has its replies is the serial trace
pub performed_is_serial_trace : (p : Pipeline) (d : Behaviour) (before : List Cell_access) (actions : List Action)
    (e : ColumnEnd)
    → Performs d actions → EndsWith actions e → AllHaveReplies p before (accesses_in actions)
    → actions ≡ serial_trace p.store d before
performed_is_serial_trace p (Reading c go) before [] e performs ends right = absurd ends
performed_is_serial_trace p (Reading c go) before (Accessed a ∷ actions) e performs ends right =
    let v = performs.0.0 in
    let is : a ≡ read_access c v = accessed_same a (read_access c v) performs.0.1 in
    let reply : v ≡ value_after p.store before c = reply_is_value p before c v a is right.0 in
    let w : a ≡ read_access c (value_after p.store before c) = is ∙ ap (λ x. read_access c x) reply in
    let h = performed_is_serial_trace p (go a.value) (before ++ a ∷ []) actions e performs.1 ends right.1 in
    subst (λ (b : Cell_access). Accessed a ∷ actions ≡ Accessed b ∷ serial_trace p.store (go b.value) (before ++ b ∷ [])) w
    (ap (λ l. Accessed a ∷ l) h)
performed_is_serial_trace p (Reading c go) before (Staged k n ∷ actions) e performs ends right =
    absurd (let o = performs.0.1 in cc)
performed_is_serial_trace p (Reading c go) before (Ended d ∷ actions) e performs ends right =
    absurd (let o = performs.0.1 in cc)
performed_is_serial_trace p (Writing c v d) before [] e performs ends right = absurd ends
performed_is_serial_trace p (Writing c v d) before (Accessed a ∷ actions) e performs ends right =
    let is : a ≡ write_access c v = accessed_same a (write_access c v) performs.0 in
    let h = performed_is_serial_trace p d (before ++ a ∷ []) actions e performs.1 ends right.1 in
    subst (λ (b : Cell_access). Accessed a ∷ actions ≡ Accessed b ∷ serial_trace p.store d (before ++ b ∷ [])) is
    (ap (λ l. Accessed a ∷ l) h)
performed_is_serial_trace p (Writing c v d) before (Staged k n ∷ actions) e performs ends right =
    absurd (let o = performs.0 in cc)
performed_is_serial_trace p (Writing c v d) before (Ended f ∷ actions) e performs ends right =
    absurd (let o = performs.0 in cc)
performed_is_serial_trace p (Staging k n d) before [] e performs ends right = absurd ends
performed_is_serial_trace p (Staging k n d) before (Accessed a ∷ actions) e performs ends right =
    absurd (let o = performs.0 in cc)
performed_is_serial_trace p (Staging k n d) before (Staged j m ∷ actions) e performs ends right =
    let h = performed_is_serial_trace p d before actions e performs.1 ends right in
    let o : Staged j m ≡ Staged k n = performs.0 in
    cc
performed_is_serial_trace p (Staging k n d) before (Ended f ∷ actions) e performs ends right =
    absurd (let o = performs.0 in cc)
performed_is_serial_trace p (Ending f) before [] e performs ends right = absurd ends
performed_is_serial_trace p (Ending f) before (Accessed a ∷ actions) e performs ends right =
    absurd (let o = performs.0 in cc)
performed_is_serial_trace p (Ending f) before (Staged k n ∷ actions) e performs ends right =
    absurd (let o = performs.0 in cc)
performed_is_serial_trace p (Ending f) before (Ended d ∷ actions) e performs ends right =
    let o : Ended d ≡ Ended f = performs.0 in
    let none : actions ≡ [] = ends.0 in
    cc

-- an iteration that always closes the loop closes it, whatever its replies
pub always_closes : (d : Behaviour) (actions : List Action) (e : ColumnEnd) → AlwaysClosesLoop d → Performs d actions
    → EndsWith actions e → closes_loop actions ≡ true
always_closes (Reading c go) [] e a performs ends = absurd ends
always_closes (Reading c go) (Accessed b ∷ xs) e a performs ends =
    always_closes (go b.value) xs e (a b.value) performs.1 ends
always_closes (Reading c go) (Staged k n ∷ xs) e a performs ends = absurd (let o = performs.0.1 in cc)
always_closes (Reading c go) (Ended d ∷ xs) e a performs ends = absurd (let o = performs.0.1 in cc)
always_closes (Writing c v d) [] e a performs ends = absurd ends
always_closes (Writing c v d) (Accessed b ∷ xs) e a performs ends = always_closes d xs e a performs.1 ends
always_closes (Writing c v d) (Staged k n ∷ xs) e a performs ends = absurd (let o = performs.0 in cc)
always_closes (Writing c v d) (Ended f ∷ xs) e a performs ends = absurd (let o = performs.0 in cc)
always_closes (Staging k n d) xs e a performs ends = absurd a
always_closes (Ending f) [] e a performs ends = absurd ends
always_closes (Ending f) (Accessed b ∷ xs) e a performs ends = absurd (let o = performs.0 in cc)
always_closes (Ending f) (Staged k n ∷ xs) e a performs ends = absurd (let o = performs.0 in cc)
always_closes (Ending f) (Ended d ∷ xs) e a performs ends =
    let o : Ended d ≡ Ended f = performs.0 in
    let same : d ≡ f = cc in
    ap closes_at_once same ∙ a

-- the serial trace of an iteration that always closes the loop closes it
pub serial_trace_closes : (p : Pipeline) (d : Behaviour) (before : List Cell_access) → AlwaysClosesLoop d
    → closes_loop (serial_trace p.store d before) ≡ true
serial_trace_closes p (Reading c go) before a =
    serial_trace_closes p (go (value_after p.store before c)) (before ++ read_access c (value_after p.store before c) ∷ [])
    (a (value_after p.store before c))
serial_trace_closes p (Writing c v d) before a = serial_trace_closes p d (before ++ write_access c v ∷ []) a
serial_trace_closes p (Staging k n d) before a = absurd a
serial_trace_closes p (Ending e) before a = a
