-- The next action of a stopped instance is an access.
use Rattle.std.proofs.Common.{◌≡◌, sym, subst, refl, ℕ, ℤ, ◌+◌, List, [], Bool, true, Option, Some, None, map}
use Rattle.std.specs.Prelude.{is_some}
use Rattle.pipe_model.specs.declared.access.Access.{Access}
use Rattle.pipe_model.specs.declared.column.ColumnEnd.{ColumnEnd}
use Rattle.pipe_model.specs.declared.stage.StageEnd.{StageEnd}
use Rattle.pipe_model.specs.declared.stage.StageEnd.TheVariants as stage_ends
use Rattle.pipe_model.specs.Language.Interaction.{Interaction, Return, Raise, Step, Get, Set, bind, with_budget}
use Rattle.pipe_model.specs.Language.Interaction as interactions
use Rattle.pipe_model.specs.Language.Programs.{natural}
use Rattle.pipe_model.specs.Pipelines.Behaviour.{Behaviour, Reading, Writing, Staging, Ending, Accessed, behaviour_after_all}
use Rattle.stage_code.specs.FlatCode.{FlatCode}
use Rattle.stage_code.specs.Following.{Follows, Spends, Steps, Gets, Sets, Stages, Raises, GoesOn, Finishes}
use Rattle.stage_code.specs.Instructions.{CodeSetting, Transition, with_cells}
use Rattle.stage_interp.proofs.Accesses.{cells_there, with_is}
use Rattle.stage_interp.proofs.Running.{within_safe}
use Rattle.stage_interp.specs.declared.pending.Pending.{Pending}
use Rattle.stage_interp.specs.declared.pending.Pending.TheVariants as pendings
use Rattle.stage_interp.specs.Executions.{StopsOnly}
use Rattle.stage_interp.specs.MachineState.{RunState}
use Rattle.stage_interp.specs.RemainingBehaviour.{EndsAs, IsAccess, IsPending, IsStopped, RanInstance, Within, setting_in}
use Rattle.schedule_play.specs.OneAccess.{access_list}

-- the next action is an access
abbrev pub BeginsWithAccess : Behaviour → Type 0
BeginsWithAccess (Reading c go) = Unit {0}
BeginsWithAccess (Writing c v d) = Unit {0}
BeginsWithAccess (Staging k n d) = ⊥
BeginsWithAccess (Ending e) = ⊥

-- the tree begins with an access
abbrev IsAccessTree : Interaction Transition → Type 0
IsAccessTree (Return x) = ⊥
IsAccessTree (Raise t) = ⊥
IsAccessTree (Step d) = ⊥
IsAccessTree (Get c go) = Unit {0}
IsAccessTree (Set c v d) = Unit {0}
IsAccessTree (interactions.Stage k n d) = ⊥

begins_by : (p : CodeSetting) (budget left n : ℕ) (m : Interaction Transition) (d : Interaction ColumnEnd) (t : Behaviour) → IsAccessTree m
    → Follows p n m d → t ≡ with_budget budget left d → BeginsWithAccess t
begins_by p budget left n m d t a (Spends x y) is = elim a [ ]
begins_by p budget left n m d t a (Steps f) is = elim a [ ]
begins_by p budget left n m d t a (Gets c f) is = subst BeginsWithAccess (sym is) tt
begins_by p budget left n m d t a (Sets c v f) is = subst BeginsWithAccess (sym is) tt
begins_by p budget left n m d t a (Stages k i f) is = elim a [ ]
begins_by p budget left n m d t a (Raises w) is = elim a [ ]
begins_by p budget left n m d t a (GoesOn c f) is = elim a [ ]
begins_by p budget left n m d t a (Finishes e) is = elim a [ ]

begins_within : (p : CodeSetting) (budget n : ℕ) (m : Interaction Transition) (left count : ℕ) (t : Behaviour) → IsAccessTree m
    → Within p budget (with_cells p n m) left count t → BeginsWithAccess t
begins_within p budget n m left count t a w =
    let is = with_is p n m (cells_there p n m left (within_safe p budget (with_cells p n m) left count t w)) in
    begins_by p budget left w.steps m w.tree t a (subst (λ x. Follows p w.steps x w.tree) is w.follows) w.behaviour

-- an instance that was stopped makes an access next
pub stopped_begins : (code : FlatCode) (cells : ℕ) (input : List ℤ) (run : RunState) (t : Behaviour) → IsStopped code cells input run t
    → BeginsWithAccess t
stopped_begins code cells input r t h = by r.pending h.access h.pending
  where
    p : CodeSetting
    p = setting_in code cells input r

    budget : ℕ
    budget = natural code.limits.steps

    count : ℕ
    count = r.state.stage.count

    on : (n : ℕ) (m : Interaction Transition) → IsAccessTree m → Within p budget (with_cells p n m) r.left count t → BeginsWithAccess t
    on n m a w = begins_within p budget n m r.left count t a w

    by : (pending : Pending) → IsAccess pending → IsPending code cells input r pending t → BeginsWithAccess t
    by pendings.Nothing a w = elim a [ ]
    by (pendings.Read cell) a w = on (cell.0 + 1) _ tt w
    by pendings.More a w = on 2 _ tt w
    by pendings.Take a w = on 2 _ tt w
    by (pendings.Advance next v) a w = on 2 _ tt w
    by (pendings.Write cell v) a w = on (cell.0 + 1) _ tt w
    by (pendings.Emit v) a w = on 2 _ tt w
    by (pendings.Output v) a w = on 2 _ tt w

-- a behaviour that begins with an access names no stage and does not end
no_end : (code : FlatCode) (cells : ℕ) (input : List ℤ) (r : RunState) (t : Behaviour) (e : StageEnd) (stopped : Bool) → BeginsWithAccess t
    → EndsAs code cells input e r t → StopsOnly (Some e) stopped → stopped ≡ true
no_end code cells input r t (stage_ends.Wait n) stopped b ends stops = elim (subst BeginsWithAccess ends.1 b) [ ]
no_end code cells input r t (stage_ends.Continue n) stopped b ends stops = elim (subst BeginsWithAccess ends.1 b) [ ]
no_end code cells input r t stage_ends.End stopped b ends stops = elim (subst BeginsWithAccess ends b) [ ]
no_end code cells input r t stage_ends.Closed stopped b ends stops = elim (subst BeginsWithAccess ends b) [ ]
no_end code cells input r t (stage_ends.Trap w) stopped b ends stops = elim (subst BeginsWithAccess ends b) [ ]
no_end code cells input r t stage_ends.Stopped stopped b ends stops = stops

-- a stopped instance that goes on makes an access, over a memory that refuses none before it
pub makes_access : (code : FlatCode) (cells : ℕ) (input : List ℤ) (r r' : RunState) (t : Behaviour) (e : StageEnd) (stopped : Bool)
    (made : Option Access)
    → IsStopped code cells input r t → RanInstance code cells input t [] (access_list made) r' e → StopsOnly (Some e) stopped
    → (stopped ≡ true → is_some made ≡ true) → is_some made ≡ true
makes_access code cells input r r' t e stopped (Some a) h ran stops some = refl
makes_access code cells input r r' t e stopped None h ran stops some =
    let none : [] ≡ ran.accesses = ran.log_is in
    let ends : EndsAs code cells input e r' t = subst (λ l. EndsAs code cells input e r' (behaviour_after_all t (map Accessed l)))
    (sym none) ran.ends_as in
    some (no_end code cells input r' t e stopped (stopped_begins code cells input r t h) ends stops)
