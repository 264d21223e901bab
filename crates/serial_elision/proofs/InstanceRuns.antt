-- Runs of stage instances over a recorder.
use Rattle.std.proofs.Common.{◌≡◌, ◌∙◌, ap, sym, subst, ℕ, ℤ, List, [], ◌++◌, Some}
use Rattle.pipe_model.specs.declared.access.Access.{Access}
use Rattle.pipe_model.specs.declared.column.ColumnEnd.{ColumnEnd}
use Rattle.pipe_model.specs.declared.column.ColumnEnd.TheVariants as ends
use Rattle.pipe_model.specs.declared.node.Kind.TheVariants.{Wait, Continue}
use Rattle.pipe_model.specs.declared.node.NodeId.{NodeId}
use Rattle.pipe_model.specs.declared.stage.StageEnd.{StageEnd}
use Rattle.pipe_model.specs.declared.stage.StageEnd.TheVariants as stage_ends
use Rattle.pipe_model.specs.Language.Interaction.{Interaction}
use Rattle.pipe_model.specs.Language.Programs.{natural}
use Rattle.pipe_model.specs.Pipelines.Behaviour.{Behaviour}
use Rattle.serial_elision.specs.declared.instance.InstanceEnd.{InstanceEnd}
use Rattle.serial_elision.specs.declared.instance.InstanceEnd.TheVariants as instance_ends
use Rattle.serial_elision.specs.declared.log.Log.{Log}
use Rattle.serial_elision.specs.InstanceRuns.{EndsSo, EndsSoTree, IsEnd, RanFrom, RanTreeFrom, instance_end}
use Rattle.serial_elision.specs.Recording.{Adds}
use Rattle.stage_code.specs.FlatCode.{FlatCode}
use Rattle.stage_interp.specs.MachineState.{RunState}
use Rattle.stage_interp.specs.RemainingBehaviour.{EndsAs, RanInstance}
use Rattle.stage_interp.specs.TreeRuns.{Comes, EndsAsTree, RanTree}

ends_so : (code : FlatCode) (cells : ℕ) (input : List ℤ) (run : RunState) (t : Behaviour) (e : StageEnd) (end : InstanceEnd)
    → instance_end e ≡ Some end → EndsAs code cells input e run t
    → EndsSo code cells input end run t
ends_so code cells input run t (stage_ends.Wait n) end is h = let same : instance_ends.Next Wait n ≡ end = cc (is) in
    subst (λ x. EndsSo code cells input x run t) same h
ends_so code cells input run t (stage_ends.Continue n) end is h = let same : instance_ends.Next Continue n ≡ end = cc (is) in
    subst (λ x. EndsSo code cells input x run t) same h
ends_so code cells input run t stage_ends.End end is h = let same : instance_ends.Ended ends.End ≡ end = cc (is) in
    subst (λ x. EndsSo code cells input x run t) same h
ends_so code cells input run t stage_ends.Closed end is h = let same : instance_ends.Ended ends.Closed ≡ end = cc (is) in
    subst (λ x. EndsSo code cells input x run t) same h
ends_so code cells input run t (stage_ends.Trap w) end is h = let same : instance_ends.Ended (ends.Trapped w) ≡ end = cc (is) in
    subst (λ x. EndsSo code cells input x run t) same h
ends_so code cells input run t stage_ends.Stopped end is h = absurd (cc (is))

-- what the machine did over the recorder, and what is recorded
pub ran_from : (code : FlatCode) (cells : ℕ) (input : List ℤ) (t : Behaviour) (node : NodeId) (log now : Log) (run : RunState)
    (e : StageEnd)
    (end : InstanceEnd) (made made' : List Access)
    → made ≡ [] → RanInstance code cells input t made made' run e → Adds node log made' now → instance_end e ≡ Some end
    → RanFrom code cells input t node log now run end
ran_from code cells input t node log now run e end made made' none h adds is =
    let same : made' ≡ h.accesses = h.log_is ∙ ap (λ l. l ++ h.accesses) none in
    record {
      accesses = h.accesses;
      performs = h.performs;
      adds = subst (λ l. Adds node log l now) same adds;
      ends = ends_so code cells input run _ e end is h.ends_as;
    }

ends_so_tree : (code : FlatCode) (cells : ℕ) (input : List ℤ) (run : RunState) (d : Interaction ColumnEnd) (e : StageEnd)
    (end : InstanceEnd)
    → instance_end e ≡ Some end → EndsAsTree code cells input e run d → EndsSoTree code cells input end run d
ends_so_tree code cells input run d (stage_ends.Wait n) end is h = let same : instance_ends.Next Wait n ≡ end = cc (is) in
    subst (λ x. EndsSoTree code cells input x run d) same h
ends_so_tree code cells input run d (stage_ends.Continue n) end is h = let same : instance_ends.Next Continue n ≡ end = cc (is) in
    subst (λ x. EndsSoTree code cells input x run d) same h
ends_so_tree code cells input run d stage_ends.End end is h = let same : instance_ends.Ended ends.End ≡ end = cc (is) in
    subst (λ x. EndsSoTree code cells input x run d) same (subst IsEnd (sym h) tt)
ends_so_tree code cells input run d stage_ends.Closed end is h = let same : instance_ends.Ended ends.Closed ≡ end = cc (is) in
    subst (λ x. EndsSoTree code cells input x run d) same (subst IsEnd (sym h) tt)
ends_so_tree code cells input run d (stage_ends.Trap w) end is h = let same : instance_ends.Ended (ends.Trapped w) ≡ end = cc (is) in
    subst (λ x. EndsSoTree code cells input x run d) same (subst IsEnd (sym h) tt)
ends_so_tree code cells input run d stage_ends.Stopped end is h = absurd (cc (is))

-- the same of an interaction tree
pub tree_ran_from : (code : FlatCode) (cells : ℕ) (input : List ℤ) (d : Interaction ColumnEnd) (node : NodeId) (log now : Log)
    (run : RunState)
    (e : StageEnd) (end : InstanceEnd) (made made' : List Access)
    → made ≡ [] → RanTree code cells input d (natural code.limits.steps) made made' run e → Adds node log made' now
    → instance_end e ≡ Some end
    → RanTreeFrom code cells input d node log now run end
tree_ran_from code cells input d node log now run e end made made' none h adds is = record {
  accesses = made';
  rest = h.rest;
  comes = subst (λ l. Comes d (natural code.limits.steps) l h.rest run.left made') none h.comes;
  adds = adds;
  ends = ends_so_tree code cells input run h.rest e end is h.ends_as;
}
