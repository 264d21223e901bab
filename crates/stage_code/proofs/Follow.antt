-- How instructions follow a tree.
use Rattle.std.proofs.Common.{◌≡◌, ℕ, ℤ, zero, suc, ◌+◌, ◌<◌, ◌≤◌, List, ◌∷◌, length, Option, Some, refl, sym, subst, arith, true}
use Rattle.std.specs.Prelude.{slice_get, nat_lt, nat_le, if◌then◌else◌}
use Rattle.pipe_model.specs.declared.column.ColumnEnd.{ColumnEnd}
use Rattle.stage_code.specs.declared.instr.Instr.{Instr}
use Rattle.pipe_model.specs.Language.Interaction.{Interaction, Return, Raise, Step, Get, Set, bind}
use Rattle.pipe_model.specs.Language.Interaction as interactions
use Rattle.pipe_model.specs.declared.trap.Trap.TheVariants as traps
use Rattle.std.proofs.Common.{pos, negsuc, Bool, true, false}
use Rattle.pipe_model.specs.Language.Evaluation.{element_in, Setting, CellRange}
use Rattle.stage_code.specs.Instructions.{with_cells, CodeState, Transition, Stuck, CodeSetting, pushed, goes_to, act, act_at, run_next}
use Rattle.stage_code.specs.Following.{Follows, Spends, Steps, Gets, Sets, Stages, Raises, GoesOn}

pub bind-assoc : {A B C : Type 0} (d : Interaction A) (f : A → Interaction B) (g : B → Interaction C)
    → bind (bind d f) g ≡ bind d (λ x. bind (f x) g)
bind-assoc (Return a) f g = refl
bind-assoc (Raise t) f g = refl
bind-assoc (Step d) f g = λ i. Step (bind-assoc d f g i)
bind-assoc (Get c go) f g = λ i. Get c (λ v. bind-assoc (go v) f g i)
bind-assoc (Set c v d) f g = λ i. Set c v (bind-assoc d f g i)
bind-assoc (interactions.Stage k n d) f g = λ i. interactions.Stage k n (bind-assoc d f g i)

-- the machine's world, with the declared names and a bound on turns
abbrev pub setting_with : CodeSetting → (List ℕ → Option CellRange) → ℕ → Setting
setting_with p cells turns = record { cells = cells; turns = turns; world = p.world }

-- beginning with this instruction, the machine runs a tree for n steps
abbrev pub FollowsAt : CodeSetting → ℕ → CodeState → Interaction ColumnEnd → Type 0
FollowsAt p n c d = Follows p n (run_next p c) d

pub step_over : (p : CodeSetting) (n : ℕ) (m : Interaction Transition) (d : Interaction ColumnEnd) → ((l : ℕ) → l < n → Follows p l m d)
    → Follows p n (Step m) (Step d)
step_over p zero m d h = Spends m d
step_over p (suc n) m d h = Steps (h n (omega arith))

-- the same effect, and then each on its own
pub follow_then : {A : Type 0} (p : CodeSetting) (n : ℕ) (e : Interaction A) (g : A → Interaction Transition)
    (k : A → Interaction ColumnEnd)
    → ((m : ℕ) → m ≤ n → (x : A) → Follows p m (g x) (k x)) → Follows p n (bind e g) (bind e k)
follow_then p n (Return a) g k h = h n (omega arith) a
follow_then p n (Raise t) g k h = Raises t
follow_then p zero (Step d) g k h = Spends _ _
follow_then p (suc n) (Step d) g k h = Steps (follow_then p n d g k (λ m le x. h m (omega arith) x))
follow_then p n (Get c go) g k h = Gets c (λ v. follow_then p n (go v) g k h)
follow_then p n (Set c v d) g k h = Sets c v (follow_then p n d g k h)
follow_then p n (interactions.Stage s i d) g k h = Stages s i (follow_then p n d g k h)

pub at_instr : (p : CodeSetting) (n : ℕ) (c : CodeState) (i : Instr) (d : Interaction ColumnEnd) → slice_get p.code c.place ≡ Some i
    → Follows p n (act p c i) d → FollowsAt p n c d
at_instr p n c i d at f = subst (λ o. Follows p n (act_at p c o) d) (sym at) f

pub pushes : (p : CodeSetting) (n : ℕ) (c : CodeState) (stack : List ℤ) (v : ℤ) (d : Interaction ColumnEnd) → length stack < p.bounds.depth
    → FollowsAt p n (record c { place = c.place + 1; stack = v ∷ stack }) d → Follows p n (pushed p c stack v) d
pushes p n c stack v d room f =
    let t : nat_lt (length stack) p.bounds.depth ≡ true = grind arith in
    subst (λ b. Follows p n (if b then goes_to c (c.place + 1) (v ∷ stack) else Return Stuck) d) (sym t) (GoesOn _ f)

-- the cells are there
pub cells_run : (p : CodeSetting) (l n : ℕ) (m : Interaction Transition) (d : Interaction ColumnEnd) → n ≤ p.bounds.cells → Follows p l m d
    → Follows p l (with_cells p n m) d
cells_run p l n m d le f =
    let t : nat_le n p.bounds.cells ≡ true = grind arith in
    subst (λ b. Follows p l (if b then m else Return Stuck) d) (sym t) f

-- an element's cell, if it is one of these
pub element_follows : (p : CodeSetting) (n first size : ℕ) (v : ℤ) (g : ℕ → Interaction Transition) (k : ℕ → Interaction ColumnEnd)
    → ((a : ℕ) → a < first + size → Follows p n (g a) (k a)) → Follows p n (bind (element_in first size v) g)
    (bind (element_in first size v) k)
element_follows p n first size (negsuc i) g k h = Raises _
element_follows p n first size (pos i) g k h = by (nat_lt i size)
    (λ e. let t : i < size = grind (arith, e) in h (first + i) (omega (arith, t)))
  where
    by : (b : Bool) → (b ≡ true → Follows p n (g (first + i)) (k (first + i)))
        → Follows p n (bind (if b then Return (first + i) else Raise traps.Index) g)
        (bind (if b then Return (first + i) else Raise traps.Index) k)
    by true f = f refl
    by false f = Raises _

-- the same index, by another sum
pub moved : (p : CodeSetting) (n : ℕ) (c : CodeState) (q r : ℕ) (stack : List ℤ) (d : Interaction ColumnEnd) → q ≡ r
    → FollowsAt p n (record c { place = q; stack = stack }) d → FollowsAt p n (record c { place = r; stack = stack }) d
moved p n c q r stack d e f = subst (λ x. FollowsAt p n (record c { place = x; stack = stack }) d) e f
