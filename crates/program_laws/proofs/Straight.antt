-- Trees that name no next stage; the trees of expressions are such.
use Rattle.std.proofs.Common.{◌==◌, ℕ, zero, suc, ℤ, pos, negsuc, Bool, true, false, List, Option, Some, None, if◌then◌else◌, nat_lt}
use Rattle.std.proofs.Common.{length}
use Rattle.std.specs.Prelude.{int_div, int_rem}
use Rattle.std.proofs.Math.IntN.{◌+ℤ◌, ◌-ℤ◌, ◌*ℤ◌, neg_ℤ}
use Rattle.pipe_model.specs.declared.trap.Trap.{Trap}
use Rattle.pipe_model.specs.Language.Evaluation.{Local, CellRange, Setting, evaluate, operate, operate_one, fitting, divided, if_zero}
use Rattle.pipe_model.specs.Language.Evaluation.{named_value, element_of, element_in, take_at, local_value, is_i64}
use Rattle.pipe_model.specs.Language.Interaction.{Interaction, Return, Raise, Step, Get, Set, bind}
use Rattle.pipe_model.specs.Language.SyntaxTree.{Expression, Number, Name, Element, And, Or, Binary, Unary, More, Take, Iter}

-- the tree names no next stage, and its result has the property P
pub data IsStraight {A : Type 0} (P : A → Type 0) : Interaction A → Type 0 where
  Returns : {a : A} → P a → IsStraight P (Return a)
  Raises : (t : Trap) → IsStraight P (Raise t)
  Steps : {d : Interaction A} → IsStraight P d → IsStraight P (Step d)
  Gets : {go : ℤ → Interaction A} (c : ℕ) → ((v : ℤ) → IsStraight P (go v)) → IsStraight P (Get c go)
  Sets : {d : Interaction A} (c : ℕ) (v : ℤ) → IsStraight P d → IsStraight P (Set c v d)

-- any value
abbrev pub Anything : {A : Type 0} → A → Type 0
Anything a = Unit {0}

-- one straight tree after another is straight
pub straight-bind : {A B : Type 0} {P : A → Type 0} {Q : B → Type 0} {d : Interaction A} {f : A → Interaction B} → IsStraight P d
    → ((a : A) → P a → IsStraight Q (f a)) → IsStraight Q (bind d f)
straight-bind (Returns {a} p) h = h a p
straight-bind (Raises t) h = Raises t
straight-bind (Steps s) h = Steps (straight-bind s h)
straight-bind (Gets c s) h = Gets c (λ v. straight-bind (s v) h)
straight-bind (Sets c v s) h = Sets c v (straight-bind s h)

-- one of two straight trees, chosen by a test
pub either : {A : Type 0} (P : A → Type 0) (b : Bool) (x y : Interaction A) → IsStraight P x → IsStraight P y
    → IsStraight P (if b then x else y)
either P true x y s t = s
either P false x y s t = t

-- one of two straight trees, chosen by a number
pub either_by_zero : {A : Type 0} (P : A → Type 0) (v : ℤ) (x y : Interaction A) → IsStraight P x → IsStraight P y
    → IsStraight P (if_zero v x y)
either_by_zero P (pos zero) x y s t = s
either_by_zero P (pos (suc n)) x y s t = t
either_by_zero P (negsuc n) x y s t = t

-- `fitting` names no stage: it returns the number if it is an `i64`
pub straight-fitting : (v : ℤ) → IsStraight Anything (fitting v)
straight-fitting v = either Anything (is_i64 v) _ _ (Returns tt) (Raises _)

straight-divided : (a b v : ℤ) → IsStraight Anything (divided a b v)
straight-divided a b v = either_by_zero Anything b _ _ (Raises _) (straight-bind (straight-fitting (int_div a b)) (λ q h. Returns tt))

straight-operate : (code : ℕ) (a b : ℤ) → IsStraight Anything (operate code a b)
straight-operate code a b =
    either Anything (code == 3) _ _ (Returns tt) (either Anything (code == 4) _ _ (Returns tt) (either Anything (code == 5) _ _ (Returns tt)
    (either Anything (code == 6) _ _ (Returns tt) (either Anything (code == 7) _ _ (Returns tt)
    (either Anything (code == 8) _ _ (Returns tt)
    (either Anything (code == 9) _ _ (straight-fitting (a +ℤ b)) (either Anything (code == 10) _ _ (straight-fitting (a -ℤ b))
    (either Anything (code == 11) _ _ (straight-fitting (a *ℤ b)) (either Anything (code == 12) _ _ (straight-divided a b (int_div a b))
    (either Anything (code == 13) _ _ (straight-divided a b (int_rem a b)) (Returns tt)))))))))))

straight-operate_one : (code : ℕ) (a : ℤ) → IsStraight Anything (operate_one code a)
straight-operate_one code a = either Anything (code == 1) _ _ (straight-fitting (neg_ℤ a))
    (either Anything (code == 2) _ _ (Returns {a = if_zero a (pos 1) (pos 0)} tt) (Returns tt))

straight-named_value : (o : Option ℤ) (range : Option CellRange) → IsStraight Anything (named_value o range)
straight-named_value (Some v) range = Returns tt
straight-named_value None (Some range) = Gets _ (λ v. Returns tt)
straight-named_value None None = Raises _

straight-element_in : (first size : ℕ) (i : ℤ) → IsStraight Anything (element_in first size i)
straight-element_in first size (pos i) = either Anything (nat_lt i size) _ _ (Returns tt) (Raises _)
straight-element_in first size (negsuc i) = Raises _

-- `element_of` names no stage
pub straight-element_of : (range : Option CellRange) (i : ℤ) → IsStraight Anything (element_of range i)
straight-element_of None i = Raises _
straight-element_of (Some range) i = straight-element_in range.first range.size i

straight-take_at : (input : List ℤ) (cursor : ℤ) → IsStraight Anything (take_at input cursor)
straight-take_at input (pos n) = either Anything (nat_lt n (length input)) _ _ (Sets _ _ (Returns tt)) (Raises _)
straight-take_at input (negsuc n) = Raises _

-- an expression names no next stage
pub straight-evaluate : (setting : Setting) (locals : List Local) (e : Expression) → IsStraight Anything (evaluate setting locals e)
straight-evaluate setting locals (Number n) = Steps (Returns tt)
straight-evaluate setting locals (Name x) = Steps (straight-named_value (local_value locals x) (setting.cells x))
straight-evaluate setting locals (Element x i) =
    straight-bind (straight-evaluate setting locals i) (λ v h. Steps
    (straight-bind (straight-element_of (setting.cells x) v) (λ c k. Gets c (λ r. Returns tt))))
straight-evaluate setting locals (And a b) =
    straight-bind (straight-evaluate setting locals a) (λ x h. Steps
    (either_by_zero Anything x _ _ (Returns tt) (straight-bind (straight-evaluate setting locals b) (λ y k. Returns tt))))
straight-evaluate setting locals (Or a b) =
    straight-bind (straight-evaluate setting locals a) (λ x h. Steps
    (either_by_zero Anything x _ _ (straight-bind (straight-evaluate setting locals b) (λ y k. Returns tt)) (Returns tt)))
straight-evaluate setting locals (Binary code a b) =
    straight-bind (straight-evaluate setting locals a)
    (λ x h. straight-bind (straight-evaluate setting locals b) (λ y k. Steps (straight-operate code x y)))
straight-evaluate setting locals (Unary code a) = straight-bind (straight-evaluate setting locals a)
    (λ x h. Steps (straight-operate_one code x))
straight-evaluate setting locals More = Steps (Gets 0 (λ v. Returns tt))
straight-evaluate setting locals Take = Steps (Gets 0 (λ v. straight-take_at setting.world.input v))
straight-evaluate setting locals Iter = Steps (Returns tt)
