-- What is written to a cell, and which replies stay right when accesses change their order.
use Rattle.std.proofs.Common.{ℕ, List, ◌≡◌, ◌++◌, refl, [], ap, sym, append_assoc, ◌∙◌, ◌∷◌, append-nil, Bool, ℤ, true, false, ◌==◌, inr}
use Rattle.std.proofs.Common.{subst, ◌⊎◌, inl}
use Rattle.std.proofs.lemmas.Bool.{eqb-true}
use Rattle.pipe_model.specs.Pipelines.Pipeline.{Pipeline}
use Rattle.pipe_model.specs.Races.DeterminacyRaces.{Conflict, Among, Here, Later}
use Rattle.pipe_model.specs.Pipelines.Store.{written, wrote, wrote_as, value_from, HasReply}
use Rattle.run_laws.proofs.Iterations.Replies.{AllHaveReplies}
use Rattle.pipe_model.specs.declared.access.Access.{Access, Access as Cell_access}
use Rattle.pipe_model.specs.declared.access.AccessKind.{AccessKind}
use Rattle.pipe_model.specs.declared.access.AccessKind.TheVariants.{Write, Read}
use Rattle.pipe_model.specs.declared.access.CellId.{CellId}

-- what two lists of accesses write, one after the other
pub written-append : (c : ℕ) (xs ys : List Access) → written c (xs ++ ys) ≡ written c xs ++ written c ys
written-append c [] ys = refl
written-append c (x ∷ xs) ys =
    ap (λ l. wrote c x ++ l) (written-append c xs ys) ∙ sym (append_assoc (wrote c x) (written c xs) (written c ys))

-- what one more access writes
pub written-push : (c : ℕ) (xs : List Access) (y : Access) → written c (xs ++ y ∷ []) ≡ written c xs ++ wrote c y
written-push c xs y = written-append c xs (y ∷ []) ∙ ap (λ l. written c xs ++ l) (append-nil (wrote c y))

-- `no_conflict_writes_none`, by the kind and by whether the cell is the same
no_conflict_writes_none_by : (k : AccessKind) (t : Bool) (v : ℤ) → (k ≡ Write → t ≡ true → ⊥) → wrote_as k t v ≡ []
no_conflict_writes_none_by Read t v h = refl
no_conflict_writes_none_by Write true v h = absurd (h refl refl)
no_conflict_writes_none_by Write false v h = refl

-- an access that does not conflict with another does not write its cell
pub no_conflict_writes_none : (e b : Access) → (Conflict e b → ⊥) → wrote e.cell.0 b ≡ []
no_conflict_writes_none e b h =
    no_conflict_writes_none_by b.kind (b.cell.0 == e.cell.0) b.value
    (λ w t. h (record {
      same = ap (λ (n : ℕ). let c : CellId = record { 0 = n } in c) (sym (eqb-true b.cell.0 e.cell.0 t));
      one = inr w;
    }))

-- accesses that do not write the cell write nothing to it
pub written_none : (c : ℕ) (xs : List Access) → ((x : Access) → Among x xs → wrote c x ≡ []) → written c xs ≡ []
written_none c [] h = refl
written_none c (x ∷ xs) h = rw (h x Here) (written_none c xs (λ y m. h y (Later x m)))

-- replies depend only on what was written to the cells that are read
replies_same : (p : Pipeline) (b d xs : List Access)
    → ((x : Access) → Among x xs → x.kind ≡ Read → written x.cell.0 b ≡ written x.cell.0 d) → AllHaveReplies p b xs
    → AllHaveReplies p d xs
replies_same p b d [] same h = tt
replies_same p b d (x ∷ xs) same h = (
  λ r. h.0 r ∙ ap (value_from p.store x.cell.0) (same x Here r),
  replies_same p (b ++ x ∷ []) (d ++ x ∷ []) xs
      (λ y m r. written-push y.cell.0 b x ∙ ap (λ l. l ++ wrote y.cell.0 x) (same y (Later x m) r)
      ∙ sym (written-push y.cell.0 d x))
      h.1,
)

-- an access that writes no cell which is read after it may be inserted
pub replies_insert : (p : Pipeline) (b front rest : List Access) (e : Access) → AllHaveReplies p b (front ++ rest)
    → HasReply p.store (b ++ front) e → ((x : Access) → Among x rest → x.kind ≡ Read → wrote x.cell.0 e ≡ [])
    → AllHaveReplies p b (front ++ e ∷ rest)
replies_insert p b [] rest e h reply free = (
  subst (λ l. HasReply p.store l e) (append-nil b) reply,
  replies_same p b (b ++ e ∷ []) rest (λ x m r. sym (written-push x.cell.0 b e
      ∙ ap (λ l. written x.cell.0 b ++ l) (free x m r) ∙ append-nil (written x.cell.0 b))) h,
)
replies_insert p b (x ∷ front) rest e h reply free = (
  h.0,
  replies_insert p (b ++ x ∷ []) front rest e h.1
      (subst (λ l. HasReply p.store l e) (sym (append_assoc b (x ∷ []) front)) reply) free,
)

-- `wrote_cases`, by the kind and by whether the cell is the same
wrote_as_cases : (k : AccessKind) (t : Bool) (v : ℤ) → (wrote_as k t v ≡ []) ⊎ (t ≡ true)
wrote_as_cases Read t v = inl refl
wrote_as_cases Write true v = inr refl
wrote_as_cases Write false v = inl refl

-- an access writes nothing to the cell, or is an access to it
wrote_cases : (c : ℕ) (a : Access) → (wrote c a ≡ []) ⊎ (a.cell.0 ≡ c)
wrote_cases c a = elim (wrote_as_cases a.kind (a.cell.0 == c) a.value) [
  | inl none ↦ inl none
  | inr same ↦ inr (eqb-true a.cell.0 c same)
]

-- an access may come before others that do not write its cell
pub written_either_order : (c : ℕ) (front rest : List Access) (a : Access) → (a.cell.0 ≡ c → written c rest ≡ [])
    → (written c front ++ written c rest) ++ wrote c a ≡ written c front ++ (wrote c a ++ written c rest)
written_either_order c front rest a free = elim (wrote_cases c a) [
  | inl none ↦ rw none (append-nil (written c front ++ written c rest))
  | inr same ↦ rw (free same) (ap (λ l. l ++ wrote c a) (append-nil (written c front))
      ∙ ap (λ l. written c front ++ l) (sym (append-nil (wrote c a))))
]

-- the first of the accesses have right replies
pub replies_front : (p : Pipeline) (before front rest : List Cell_access) → AllHaveReplies p before (front ++ rest)
    → AllHaveReplies p before front
replies_front p before [] rest h = tt
replies_front p before (a ∷ front) rest h = (h.0, replies_front p (before ++ a ∷ []) front rest h.1)

-- the later accesses have right replies after the first ones
pub replies_rest : (p : Pipeline) (before front rest : List Cell_access) → AllHaveReplies p before (front ++ rest)
    → AllHaveReplies p (before ++ front) rest
replies_rest p before [] rest h = rw append-nil h
replies_rest p before (a ∷ front) rest h =
    subst (λ l. AllHaveReplies p l rest) (append_assoc before (a ∷ []) front)
    (replies_rest p (before ++ a ∷ []) front rest h.1)

-- an access to another cell writes nothing to this one
pub other_cell_writes_none : (c : ℕ) (a : Cell_access) → (a.cell.0 ≡ c → ⊥) → wrote c a ≡ []
other_cell_writes_none c a h = elim (wrote_cases c a) [ inl none ↦ none | inr same ↦ absurd (h same) ]
