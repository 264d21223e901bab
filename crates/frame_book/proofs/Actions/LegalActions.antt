-- Stages of a well-formed pipeline, as they are performed.
use Rattle.std.proofs.Common.{◌≡◌, ◌≢◌, ℤ, suc, ◌<ℤ◌, ◌-◌, List, [], ◌∷◌, ◌++◌, Bool, true, false, length, refl, ap, sym, ◌∙◌, subst, arith}
use Rattle.std.proofs.Common.{Some, None}
use Rattle.pipe_model.specs.declared.column.ColumnEnd.{ColumnEnd}
use Rattle.pipe_model.specs.declared.column.ColumnEnd.TheVariants as ends
use Rattle.pipe_model.specs.declared.node.Kind.{Kind}
use Rattle.pipe_model.specs.declared.node.Kind.TheVariants.{Zero}
use Rattle.pipe_model.specs.declared.node.Node.{Node}
use Rattle.pipe_model.specs.declared.ticket.Entry.{Entry}
use Rattle.pipe_model.specs.Pipelines.Behaviour.{Action, Accessed, Staged, Ended, Behaviour, Reading, Writing, Staging, Ending, Performs}
use Rattle.pipe_model.specs.Pipelines.Behaviour.{Offers, behaviour_after, behaviour_after_all, nodes_in, node_of, HasNoEnd, trace_end}
use Rattle.pipe_model.specs.Races.Columns.{node_at}
use Rattle.pipe_model.specs.Pipelines.Pipeline.{HasLegalStages}
use Rattle.pipe_frame.specs.Replies.{accessed}

-- two parts of what is performed
pub performs_split : (d : Behaviour) (xs ys : List Action) → Performs d (xs ++ ys) → Performs d xs × Performs (behaviour_after_all d xs) ys
performs_split d [] ys h = (tt, h)
performs_split d (x ∷ xs) ys h = let q = performs_split (behaviour_after d x) xs ys h.1 in ((h.0, q.0), q.1)

-- the number of the stage after actions
abbrev pub last_number : ℤ → List Action → ℤ
last_number n [] = n
last_number n (Accessed a ∷ xs) = last_number n xs
last_number n (Staged k m ∷ xs) = last_number m xs
last_number n (Ended e ∷ xs) = last_number n xs

-- whether the instance after actions is still the first
abbrev pub first_after : Bool → List Action → Bool
first_after first [] = first
first_after first (Accessed a ∷ xs) = first_after first xs
first_after first (Staged k m ∷ xs) = first_after false xs
first_after first (Ended e ∷ xs) = first_after first xs

-- the stages after actions are legal
pub legal_after : (first : Bool) (n : ℤ) (d : Behaviour) (xs : List Action) → HasLegalStages first n d → Performs d xs → HasNoEnd xs
    → HasLegalStages (first_after first xs) (last_number n xs) (behaviour_after_all d xs)
legal_after first n d [] l p e = l
legal_after first n (Reading c go) (Accessed a ∷ xs) l p e = legal_after first n (go a.value) xs (l a.value) p.1 e
legal_after first n (Writing c v d) (Accessed a ∷ xs) l p e = legal_after first n d xs l p.1 e
legal_after first n (Staging k m d) (Accessed a ∷ xs) l p e = absurd (let q : Accessed a ≡ Staged k m = p.0 in cc)
legal_after first n (Ending f) (Accessed a ∷ xs) l p e = absurd (let q : Accessed a ≡ Ended f = p.0 in cc)
legal_after first n (Reading c go) (Staged j i ∷ xs) l p e = absurd (let q = p.0.1 in cc)
legal_after first n (Writing c v d) (Staged j i ∷ xs) l p e = absurd (let q = p.0 in cc)
legal_after first n (Staging k m d) (Staged j i ∷ xs) l p e = let q : Staged j i ≡ Staged k m = p.0 in let s : m ≡ i = cc in
    legal_after false i d xs (subst (λ z. HasLegalStages false z d) s l.1.1) p.1 e
legal_after first n (Ending f) (Staged j i ∷ xs) l p e = absurd (let q : Staged j i ≡ Ended f = p.0 in cc)
legal_after first n d (Ended f ∷ xs) l p e = absurd e

-- a stage that is offered
pub offered_stage : (first : Bool) (n : ℤ) (d : Behaviour) (k : Kind) (m : ℤ) → HasLegalStages first n d → Offers d (Staged k m)
    → (k ≢ Zero) × (n <ℤ m)
offered_stage first n (Reading c go) k m l o = absurd (let q = o.1 in cc)
offered_stage first n (Writing c v d) k m l o = absurd (let q = o in cc)
offered_stage first n (Staging j i d) k m l o = let q : Staged k m ≡ Staged j i = o in let a : j ≡ k = cc in let b : i ≡ m = cc in
    (subst (λ z. z ≢ Zero) a l.0, subst (λ z. n <ℤ z) b l.1.0)
offered_stage first n (Ending f) k m l o = absurd (let q : Staged k m ≡ Ended f = o in cc)

-- an end that is offered
pub offered_end : (first : Bool) (n : ℤ) (d : Behaviour) (e : ColumnEnd) → HasLegalStages first n d → Offers d (Ended e) → e ≡ ends.Closed
    → first ≡ true
offered_end first n (Reading c go) e l o s = absurd (let q = o.1 in cc)
offered_end first n (Writing c v d) e l o s = absurd (let q = o in cc)
offered_end first n (Staging j i d) e l o s = absurd (let q : Ended e ≡ Staged j i = o in cc)
offered_end first n (Ending f) e l o s = let q : Ended e ≡ Ended f = o in let z : f ≡ ends.Closed = cc in l z

-- accesses end nothing
pub no_end_accessed : (xs : List Action) (tr : List Entry) → trace_end xs ≡ None → HasNoEnd (xs ++ accessed tr)
no_end_accessed [] [] e = tt
no_end_accessed [] (t ∷ tr) e = no_end_accessed [] tr e
no_end_accessed (Accessed a ∷ xs) tr e = no_end_accessed xs tr e
no_end_accessed (Staged k m ∷ xs) tr e = no_end_accessed xs tr e
no_end_accessed (Ended f ∷ xs) tr e = absurd (let q : Some f ≡ None = e in cc)

-- accesses change no number
pub last_number_accessed : (n : ℤ) (xs : List Action) (tr : List Entry) → last_number n (xs ++ accessed tr) ≡ last_number n xs
last_number_accessed n [] [] = refl
last_number_accessed n [] (t ∷ tr) = last_number_accessed n [] tr
last_number_accessed n (Accessed a ∷ xs) tr = last_number_accessed n xs tr
last_number_accessed n (Staged k m ∷ xs) tr = last_number_accessed m xs tr
last_number_accessed n (Ended f ∷ xs) tr = last_number_accessed n xs tr

-- the last of instances is the last but the first, or the first
last_of_more : (x y : Node) (ns : List Node) → node_at (x ∷ y ∷ ns) (length (x ∷ y ∷ ns) - 1) ≡ node_at (y ∷ ns) (length (y ∷ ns) - 1)
last_of_more x y ns =
    let a : length (x ∷ y ∷ ns) - 1 ≡ suc (length ns) = omega arith in
    let b : length (y ∷ ns) - 1 ≡ length ns = omega arith in
    ap (node_at (x ∷ y ∷ ns)) a ∙ sym (ap (node_at (y ∷ ns)) b)

-- the number of the last instance that actions name
pub last_number_is : (k : Kind) (n : ℤ) (xs : List Action)
    → last_number n xs ≡ (node_at (node_of k n ∷ nodes_in xs) (length (node_of k n ∷ nodes_in xs) - 1)).number
last_number_is k n [] = refl
last_number_is k n (Accessed a ∷ xs) = last_number_is k n xs
last_number_is k n (Staged j m ∷ xs) = last_number_is j m xs
    ∙ sym (ap (λ (z : Node). z.number) (last_of_more (node_of k n) (node_of j m) (nodes_in xs)))
last_number_is k n (Ended f ∷ xs) = last_number_is k n xs
