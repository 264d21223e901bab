-- Runs of stage instances.
use Rattle.std.specs.Prelude.{◌≡◌, ◌<◌, ◌+◌, ℕ, ℤ, List, [], map, Option, Some, None}
use Rattle.pipe_model.specs.declared.access.Access.{Access}
use Rattle.pipe_model.specs.declared.column.ColumnEnd.{ColumnEnd}
use Rattle.pipe_model.specs.declared.column.ColumnEnd.TheVariants as ends
use Rattle.pipe_model.specs.declared.node.Kind.TheVariants.{Wait, Continue}
use Rattle.pipe_model.specs.declared.node.NodeId.{NodeId}
use Rattle.pipe_model.specs.declared.stage.StageEnd.{StageEnd}
use Rattle.pipe_model.specs.declared.stage.StageEnd.TheVariants as stage_ends
use Rattle.pipe_model.specs.Language.Interaction.{Interaction, Return, Raise, Step, Get, Set, Stage}
use Rattle.pipe_model.specs.Language.Programs.{natural}
use Rattle.pipe_model.specs.Pipelines.Behaviour.{Behaviour, Staging, Ending, Accessed, Performs, behaviour_after_all}
use Rattle.serial_elision.specs.declared.instance.InstanceEnd.{InstanceEnd}
use Rattle.serial_elision.specs.declared.instance.InstanceEnd.TheVariants as instance_ends
use Rattle.serial_elision.specs.declared.log.Log.{Log}
use Rattle.serial_elision.specs.Recording.{Adds}
use Rattle.stage_code.specs.FlatCode.{FlatCode}
use Rattle.stage_interp.specs.MachineState.{RunState}
use Rattle.stage_interp.specs.RemainingBehaviour.{Represents}
use Rattle.stage_interp.specs.TreeRuns.{Comes, RepresentsTree}

-- how an instance ended, unless it was stopped
abbrev pub instance_end : StageEnd → Option InstanceEnd
instance_end (stage_ends.Wait n) = Some (instance_ends.Next Wait n)
instance_end (stage_ends.Continue n) = Some (instance_ends.Next Continue n)
instance_end stage_ends.End = Some (instance_ends.Ended ends.End)
instance_end stage_ends.Closed = Some (instance_ends.Ended ends.Closed)
instance_end (stage_ends.Trap t) = Some (instance_ends.Ended (ends.Trapped t))
instance_end stage_ends.Stopped = None

-- the next of the behaviour is the naming of a next instance, with which the machine can go on, or the end of the part
abbrev pub EndsSo : FlatCode → ℕ → List ℤ → InstanceEnd → RunState → Behaviour → Type 0
EndsSo code cells input (instance_ends.Next kind n) run t = (t' : Behaviour) × (t ≡ Staging kind n t') × Represents code cells input run t'
EndsSo code cells input (instance_ends.Ended e) run t = t ≡ Ending e

-- a next instance counts, and there was room for it
abbrev pub CountsNext : InstanceEnd → ℕ → ℕ → ℕ → Type 0
CountsNext (instance_ends.Next kind n) count count' stages = (count' ≡ count + 1) × (count < stages)
CountsNext (instance_ends.Ended e) count count' stages = Unit {0}

-- a tree at its end
abbrev pub IsEnd : Interaction ColumnEnd → Type 0
IsEnd (Return e) = Unit {0}
IsEnd (Raise t) = Unit {0}
IsEnd (Step d) = ⊥
IsEnd (Get c go) = ⊥
IsEnd (Set c v d) = ⊥
IsEnd (Stage k n d) = ⊥

-- an instance with this end leaves this of an interaction tree: the naming of a next instance, with whose tree the machine can go on, or an
-- end
abbrev pub EndsSoTree : FlatCode → ℕ → List ℤ → InstanceEnd → RunState → Interaction ColumnEnd → Type 0
EndsSoTree code cells input (instance_ends.Next kind n) run d = (d' : Interaction ColumnEnd) × (d ≡ Stage kind n d')
    × RepresentsTree code cells input run d'
EndsSoTree code cells input (instance_ends.Ended e) run d = IsEnd d

-- an instance of the behaviour ran from one log to another, up to its end
pub record RanFrom (code : FlatCode) (cells : ℕ) (input : List ℤ) (t : Behaviour) (node : NodeId) (log now : Log) (run : RunState)
    (end : InstanceEnd) : Type 0 where
  pub accesses : List Access
  pub performs : Performs t (map Accessed accesses)
  pub adds : Adds node log accesses now
  pub ends : EndsSo code cells input end run (behaviour_after_all t (map Accessed accesses))

-- an instance of the tree ran with its whole budget of steps from one log to another, up to its end
pub record RanTreeFrom (code : FlatCode) (cells : ℕ) (input : List ℤ) (d : Interaction ColumnEnd) (node : NodeId) (log now : Log)
    (run : RunState)
    (end : InstanceEnd) : Type 0 where
  pub accesses : List Access
  pub rest : Interaction ColumnEnd
  pub comes : Comes d (natural code.limits.steps) [] rest run.left accesses
  pub adds : Adds node log accesses now
  pub ends : EndsSoTree code cells input end run rest
