-- The code of an expression does what the expression does.
use Rattle.std.proofs.Common.{◌≡◌, ℕ, ℤ, pos, negsuc, zero, suc, ◌+◌, ◌<◌, ◌≤◌, List, [], ◌∷◌, ◌++◌, length, Option, Some, None, sym, ap}
use Rattle.std.proofs.Common.{subst, arith, length-append, Bool, true, false}
use Rattle.std.specs.Prelude.{slice_get, if◌then◌else◌}
use Rattle.std.specs.Str.{bytes_eq}
use Rattle.pipe_model.specs.declared.column.ColumnEnd.{ColumnEnd}
use Rattle.stage_code.specs.declared.instr.Instr.TheVariants as instrs
use Rattle.pipe_model.specs.Language.Interaction.{Interaction, Return, Step, Get, bind}
use Rattle.pipe_model.specs.Language.Evaluation.{CellRange, Local, evaluate, local_value, named_value, element_of, element_in, operate}
use Rattle.pipe_model.specs.Language.Evaluation.{operate_one, take_at, if_zero, truth_of}
use Rattle.pipe_model.specs.Language.SyntaxTree.{Expression, Number, Name, Element, And, Or, Binary, Unary, More, Take, Iter}
use Rattle.stage_code.specs.CodeOfTrees.{expression_code, name_code, element_code}
use Rattle.stage_code.specs.Slots.{slot_of, one_later}
use Rattle.stage_code.specs.Decoding.{HasAt}
use Rattle.stage_code.proofs.TreesInBounds.{IsKnown, HasCells, StaysInBounds}
use Rattle.stage_code.specs.Instructions.{CodeState, CodeSetting, goes_to, read_effect, from_slot, act}
use Rattle.stage_code.specs.Following.{Follows, Gets, GoesOn}
use Rattle.stage_code.proofs.CodeParts.{first_at, rest_at}
use Rattle.stage_code.proofs.Follow.{bind-assoc, FollowsAt, step_over, follow_then, element_follows, at_instr, pushes, moved, setting_with}
use Rattle.stage_code.proofs.Follow.{cells_run}

abbrev pub names_of : List Local → List (List ℕ)
names_of [] = []
names_of (l ∷ ls) = l.name ∷ names_of ls

-- the first slots hold the locals
abbrev pub Holds : List Local → List ℤ → Type 0
Holds [] vs = Unit {0}
Holds (l ∷ ls) [] = ⊥
Holds (l ∷ ls) (v ∷ vs) = (v ≡ l.value) × Holds ls vs

-- a slot and a local found together
abbrev pub FoundTogether : Option ℕ → Option ℤ → List ℤ → Type 0
FoundTogether None None vs = Unit {0}
FoundTogether None (Some v) vs = ⊥
FoundTogether (Some j) None vs = ⊥
FoundTogether (Some j) (Some v) vs = slice_get vs j ≡ Some v

found_later : (o : Option ℕ) (u : Option ℤ) (w : ℤ) (vs : List ℤ) → FoundTogether o u vs → FoundTogether (one_later o) u (w ∷ vs)
found_later None None w vs f = f
found_later None (Some v) w vs f = f
found_later (Some j) None w vs f = f
found_later (Some j) (Some v) w vs f = f

pub finds : (ls : List Local) (vs : List ℤ) (x : List ℕ) → Holds ls vs → FoundTogether (slot_of (names_of ls) x) (local_value ls x) vs
finds [] vs x h = tt
finds (l ∷ ls) [] x h = elim h [ ]
finds (l ∷ ls) (v ∷ vs) x h = by (bytes_eq l.name x) (finds ls vs x h.1)
  where
    by : (b : Bool) → FoundTogether (slot_of (names_of ls) x) (local_value ls x) vs
        → FoundTogether (if b then Some 0 else one_later (slot_of (names_of ls) x)) (if b then Some l.value else local_value ls x) (v ∷ vs)
    by true f = ap Some h.0
    by false f = found_later (slot_of (names_of ls) x) (local_value ls x) v vs f

name_run : (p : CodeSetting) (n : ℕ) (c : CodeState) (o : Option ℕ) (u : Option ℤ) (cell : Option CellRange) (k : ℤ → Interaction ColumnEnd)
    → FoundTogether o u c.slots → IsKnown p.bounds o cell → length c.stack < p.bounds.depth
    → ((m : ℕ) → m ≤ n → (x : ℤ) → FollowsAt p m (record c { place = c.place + 1; stack = x ∷ c.stack }) (k x))
    → Follows p n (act p c (name_code o cell)) (Step (bind (named_value u cell) k))
name_run p n c (Some j) None cell k f known room h = elim f [ ]
name_run p n c (Some j) (Some v) cell k f known room h =
    step_over p n _ _ (λ l lt. subst (λ o. Follows p l (from_slot p c o) (k v)) (sym f)
    (pushes p l c c.stack v (k v) room (h l (omega arith) v)))
name_run p n c None (Some v) cell k f known room h = elim f [ ]
name_run p n c None None (Some a) k f known room h =
    step_over p n _ _ (λ l lt. cells_run p l (a.first + 1) _ _ known
    (Gets a.first (λ v. pushes p l c c.stack v (k v) room (h l (omega arith) v))))
name_run p n c None None None k f known room h = elim known [ ]

-- what follows code that leaves a value on the stack
abbrev pub FollowsWithValue : CodeSetting → ℕ → CodeState → ℕ → (ℤ → Interaction ColumnEnd) → Type 0
FollowsWithValue p n c q k = (m : ℕ) → m ≤ n → (x : ℤ) → FollowsAt p m (record c { place = q; stack = x ∷ c.stack }) (k x)

element_run : (p : CodeSetting) (n : ℕ) (c : CodeState) (v : ℤ) (cell : Option CellRange) (k : ℤ → Interaction ColumnEnd)
    → HasCells p.bounds cell → length c.stack < p.bounds.depth → FollowsWithValue p n c (c.place + 1) k
    → Follows p n (act p (record c { stack = v ∷ c.stack }) (element_code cell))
    (Step (bind (bind (element_of cell v) (λ a. Get a Return)) k))
element_run p n c v None k is room h = elim is [ ]
element_run p n c v (Some a) k is room h =
    step_over p n _ _ (λ l lt. subst (λ d. Follows p l (bind (element_in a.first a.size v) (read_effect p c)) d)
    (sym (bind-assoc (element_in a.first a.size v) (λ a. Get a Return) k))
    (element_follows p l a.first a.size v _ _ (λ b within. cells_run p l (b + 1) _ _ (omega (arith, within, is))
    (Gets b (λ w. pushes p l c c.stack w (k w) room (h l (omega arith) w))))))

truth_run : (p : CodeSetting) (n : ℕ) (c : CodeState) (q : ℕ) (y : ℤ) (k : ℤ → Interaction ColumnEnd)
    → slice_get p.code q ≡ Some instrs.Truth
    → FollowsWithValue p n c (q + 1) k → FollowsAt p n (record c { place = q; stack = y ∷ c.stack }) (k (truth_of y))
truth_run p n c q y k at h = at_instr p n (record c { place = q; stack = y ∷ c.stack }) instrs.Truth _ at
    (GoesOn _ (h n (omega arith) (truth_of y)))

and_run : (p : CodeSetting) (cells : List ℕ → Option CellRange) (turns : ℕ) (ls : List Local) (b : Expression) (c : CodeState) (q end : ℕ)
    (x : ℤ) (l : ℕ) (k : ℤ → Interaction ColumnEnd) → FollowsAt p l (record c { place = end; stack = pos 0 ∷ c.stack }) (k (pos 0))
    → FollowsAt p l (record c { place = q + 1; stack = c.stack }) (bind
    (bind (evaluate (setting_with p cells turns) ls b) (λ y. Return (truth_of y))) k)
    → Follows p l (if_zero x (goes_to (record c { place = q; stack = x ∷ c.stack }) end (pos 0 ∷ c.stack))
    (goes_to (record c { place = q; stack = x ∷ c.stack }) (q + 1) c.stack))
    (bind (if_zero x (Return (pos 0)) (bind (evaluate (setting_with p cells turns) ls b) (λ y. Return (truth_of y)))) k)
and_run p cells turns ls b c q end (pos zero) l k zero_on else_on = GoesOn _ zero_on
and_run p cells turns ls b c q end (pos (suc v)) l k zero_on else_on = GoesOn _ else_on
and_run p cells turns ls b c q end (negsuc v) l k zero_on else_on = GoesOn _ else_on

or_run : (p : CodeSetting) (cells : List ℕ → Option CellRange) (turns : ℕ) (ls : List Local) (b : Expression) (c : CodeState) (q end : ℕ)
    (x : ℤ)
    (l : ℕ) (k : ℤ → Interaction ColumnEnd) → FollowsAt p l (record c { place = end; stack = pos 1 ∷ c.stack }) (k (pos 1))
    → FollowsAt p l (record c { place = q + 1; stack = c.stack }) (bind
    (bind (evaluate (setting_with p cells turns) ls b) (λ y. Return (truth_of y))) k)
    → Follows p l (if_zero x (goes_to (record c { place = q; stack = x ∷ c.stack }) (q + 1) c.stack)
    (goes_to (record c { place = q; stack = x ∷ c.stack }) end (pos 1 ∷ c.stack)))
    (bind (if_zero x (bind (evaluate (setting_with p cells turns) ls b) (λ y. Return (truth_of y))) (Return (pos 1))) k)
or_run p cells turns ls b c q end (pos zero) l k one_on else_on = GoesOn _ else_on
or_run p cells turns ls b c q end (pos (suc v)) l k one_on else_on = GoesOn _ one_on
or_run p cells turns ls b c q end (negsuc v) l k one_on else_on = GoesOn _ one_on

pub expression_runs : (p : CodeSetting) (cells : List ℕ → Option CellRange) (turns : ℕ) (ls : List Local) (e : Expression) (n : ℕ)
    (c : CodeState) (k : ℤ → Interaction ColumnEnd) → Holds ls c.slots → StaysInBounds p.bounds cells (names_of ls) (length c.stack) e
    → HasAt p.code c.place (expression_code cells (names_of ls) c.place e)
    → FollowsWithValue p n c (c.place + length (expression_code cells (names_of ls) c.place e)) k
    → FollowsAt p n c (bind (evaluate (setting_with p cells turns) ls e) k)
expression_runs p cells turns ls (Number v) n c k holds good has h =
    at_instr p n c (instrs.Push v) _ has.0 (step_over p n _ _ (λ l lt. pushes p l c c.stack v (k v) good (h l (omega arith) v)))
expression_runs p cells turns ls (Name x) n c k holds good has h =
    at_instr p n c (name_code (slot_of (names_of ls) x) (cells x)) _ has.0
    (name_run p n c (slot_of (names_of ls) x) (local_value ls x) (cells x) k (finds ls c.slots x holds) good.1 good.0 h)
expression_runs p cells turns ls (Element x i) n c k holds good has h =
    let ci = expression_code cells (names_of ls) c.place i in
    let len : c.place + length (ci ++ element_code (cells x) ∷ []) ≡ c.place + length ci + 1 =
    omega (arith, length-append ci (element_code (cells x) ∷ [])) in
    subst (FollowsAt p n c) (sym (bind-assoc (evaluate (setting_with p cells turns) ls i)
    (λ v. Step (bind (element_of (cells x) v) (λ a. Get a Return))) k))
    (expression_runs p cells turns ls i n c (λ v. bind (Step (bind (element_of (cells x) v) (λ a. Get a Return))) k) holds good.2
    (first_at p.code c.place ci _ has) (λ m le v.
    at_instr p m (record c { place = c.place + length ci; stack = v ∷ c.stack }) (element_code (cells x)) _
    (rest_at p.code c.place ci _ has).0
    (element_run p m (record c { place = c.place + length ci }) v (cells x) k good.1 good.0
    (λ j le' w. moved p j c _ _ (w ∷ c.stack) (k w) len (h j (omega arith) w)))))
expression_runs p cells turns ls (And a b) n c k holds good has h =
    let ca = expression_code cells (names_of ls) c.place a in
    let cb = expression_code cells (names_of ls) (c.place + length ca + 1) b in
    let end = c.place + length ca + 1 + length cb + 1 in
    let len : c.place + length (ca ++ instrs.AndTest end ∷ (cb ++ instrs.Truth ∷ [])) ≡ end =
    omega (arith, length-append ca (instrs.AndTest end ∷ (cb ++ instrs.Truth ∷ [])), length-append cb (instrs.Truth ∷ [])) in
    let hb = rest_at p.code c.place ca _ has in
    let g = λ (x : ℤ). Step (if_zero x (Return (pos 0)) (bind (evaluate (setting_with p cells turns) ls b) (λ y. Return (truth_of y)))) in
    subst (FollowsAt p n c) (sym (bind-assoc (evaluate (setting_with p cells turns) ls a) g k))
    (expression_runs p cells turns ls a n c (λ x. bind (g x) k) holds good.1 (first_at p.code c.place ca _ has) (λ m le x.
    at_instr p m (record c { place = c.place + length ca; stack = x ∷ c.stack }) (instrs.AndTest end) _ hb.0
    (step_over p m _ _ (λ l lt. and_run p cells turns ls b c (c.place + length ca) end x l k
    (moved p l c _ _ (pos 0 ∷ c.stack) (k (pos 0)) len (h l (omega arith) (pos 0)))
    (subst (FollowsAt p l (record c { place = c.place + length ca + 1; stack = c.stack }))
    (sym (bind-assoc (evaluate (setting_with p cells turns) ls b) (λ y. Return (truth_of y)) k))
    (expression_runs p cells turns ls b l (record c { place = c.place + length ca + 1; stack = c.stack }) (λ y. k (truth_of y)) holds good.2
    (first_at p.code _ cb _ hb.1) (λ j le' y.
    truth_run p j c (c.place + length ca + 1 + length cb) y k (rest_at p.code _ cb _ hb.1).0
    (λ i le'' w. moved p i c _ _ (w ∷ c.stack) (k w) len (h i (omega arith) w)))))))))
expression_runs p cells turns ls (Or a b) n c k holds good has h =
    let ca = expression_code cells (names_of ls) c.place a in
    let cb = expression_code cells (names_of ls) (c.place + length ca + 1) b in
    let end = c.place + length ca + 1 + length cb + 1 in
    let len : c.place + length (ca ++ instrs.OrTest end ∷ (cb ++ instrs.Truth ∷ [])) ≡ end =
    omega (arith, length-append ca (instrs.OrTest end ∷ (cb ++ instrs.Truth ∷ [])), length-append cb (instrs.Truth ∷ [])) in
    let hb = rest_at p.code c.place ca _ has in
    let g = λ (x : ℤ). Step (if_zero x (bind (evaluate (setting_with p cells turns) ls b) (λ y. Return (truth_of y))) (Return (pos 1))) in
    subst (FollowsAt p n c) (sym (bind-assoc (evaluate (setting_with p cells turns) ls a) g k))
    (expression_runs p cells turns ls a n c (λ x. bind (g x) k) holds good.1 (first_at p.code c.place ca _ has) (λ m le x.
    at_instr p m (record c { place = c.place + length ca; stack = x ∷ c.stack }) (instrs.OrTest end) _ hb.0
    (step_over p m _ _ (λ l lt. or_run p cells turns ls b c (c.place + length ca) end x l k
    (moved p l c _ _ (pos 1 ∷ c.stack) (k (pos 1)) len (h l (omega arith) (pos 1)))
    (subst (FollowsAt p l (record c { place = c.place + length ca + 1; stack = c.stack }))
    (sym (bind-assoc (evaluate (setting_with p cells turns) ls b) (λ y. Return (truth_of y)) k))
    (expression_runs p cells turns ls b l (record c { place = c.place + length ca + 1; stack = c.stack }) (λ y. k (truth_of y)) holds good.2
    (first_at p.code _ cb _ hb.1) (λ j le' y.
    truth_run p j c (c.place + length ca + 1 + length cb) y k (rest_at p.code _ cb _ hb.1).0
    (λ i le'' w. moved p i c _ _ (w ∷ c.stack) (k w) len (h i (omega arith) w)))))))))
expression_runs p cells turns ls (Binary code a b) n c k holds good has h =
    let ca = expression_code cells (names_of ls) c.place a in
    let cb = expression_code cells (names_of ls) (c.place + length ca) b in
    let len : c.place + length (ca ++ (cb ++ instrs.Binary code ∷ [])) ≡ c.place + length ca + length cb + 1 =
    omega (arith, length-append ca (cb ++ instrs.Binary code ∷ []), length-append cb (instrs.Binary code ∷ [])) in
    let hb = rest_at p.code c.place ca _ has in
    subst (FollowsAt p n c) (sym (bind-assoc (evaluate (setting_with p cells turns) ls a)
    (λ x. bind (evaluate (setting_with p cells turns) ls b) (λ y. Step (operate code x y))) k))
    (expression_runs p cells turns ls a n c (λ x. bind (bind (evaluate (setting_with p cells turns) ls b) (λ y. Step (operate code x y))) k)
    holds good.1 (first_at p.code c.place ca _ has) (λ m le x.
    let c1 = record c { place = c.place + length ca; stack = x ∷ c.stack } in
    subst (FollowsAt p m c1) (sym (bind-assoc (evaluate (setting_with p cells turns) ls b) (λ y. Step (operate code x y)) k))
    (expression_runs p cells turns ls b m c1 (λ y. bind (Step (operate code x y)) k) holds good.2 (first_at p.code _ cb _ hb) (λ j le' y.
    let c2 = record c { place = c.place + length ca + length cb; stack = y ∷ x ∷ c.stack } in
    at_instr p j c2 (instrs.Binary code) _ (rest_at p.code _ cb _ hb).0
    (step_over p j _ _ (λ l lt. follow_then p l (operate code x y) _ _ (λ i le'' w. pushes p i c2 c.stack w (k w) good.0
    (moved p i c _ _ (w ∷ c.stack) (k w) len (h i (omega arith) w)))))))))
expression_runs p cells turns ls (Unary code a) n c k holds good has h =
    let ca = expression_code cells (names_of ls) c.place a in
    let len : c.place + length (ca ++ instrs.Unary code ∷ []) ≡ c.place + length ca + 1 =
    omega (arith, length-append ca (instrs.Unary code ∷ [])) in
    subst (FollowsAt p n c) (sym (bind-assoc (evaluate (setting_with p cells turns) ls a) (λ x. Step (operate_one code x)) k))
    (expression_runs p cells turns ls a n c (λ x. bind (Step (operate_one code x)) k) holds good.1 (first_at p.code c.place ca _ has)
    (λ m le x.
    let c1 = record c { place = c.place + length ca; stack = x ∷ c.stack } in
    at_instr p m c1 (instrs.Unary code) _ (rest_at p.code c.place ca _ has).0
    (step_over p m _ _ (λ l lt. follow_then p l (operate_one code x) _ _ (λ i le'' w. pushes p i c1 c.stack w (k w) good.0
    (moved p i c _ _ (w ∷ c.stack) (k w) len (h i (omega arith) w)))))))
expression_runs p cells turns ls More n c k holds good has h =
    at_instr p n c instrs.More _ has.0 (step_over p n _ _ (λ l lt. cells_run p l 2 _ _ good.1
    (Gets 0 (λ v. pushes p l c c.stack _ _ good.0 (h l (omega arith) _)))))
expression_runs p cells turns ls Take n c k holds good has h =
    at_instr p n c instrs.Take _ has.0 (step_over p n _ _ (λ l lt. cells_run p l 2 _ _ good.1
    (Gets 0 (λ v. follow_then p l (take_at p.world.input v) _ _ (λ m le w. pushes p m c c.stack w (k w) good.0 (h m (omega arith) w))))))
expression_runs p cells turns ls Iter n c k holds good has h =
    at_instr p n c instrs.Iter _ has.0 (step_over p n _ _ (λ l lt. pushes p l c c.stack _ _ good (h l (omega arith) _)))
