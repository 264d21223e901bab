-- What an iteration has left to do after instances whose reads had given replies.
use Rattle.std.specs.Prelude.{ℕ, ℤ, List, [], ◌∷◌, ◌++◌, map}
use Rattle.pipe_model.specs.declared.stage.StageEnd.{StageEnd}
use Rattle.pipe_model.specs.declared.ticket.Entry.{Entry}
use Rattle.pipe_model.specs.Language.Interaction.{reply_of}
use Rattle.pipe_model.specs.Pipelines.Behaviour.{Behaviour, Reading, Writing, Staging, Ending, Action, Accessed, Performs}
use Rattle.pipe_model.specs.Pipelines.Pipeline.{Pipeline}
use Rattle.pipe_model.specs.Runs.StageEnds.{stage_end_actions}

-- the values of the reads in a trace, in order
abbrev pub replies_of : List Entry → List ℤ
replies_of [] = []
replies_of (e ∷ es) = reply_of e.access.kind e.access.value (replies_of es)

-- the accesses of a trace as actions
abbrev pub accessed : List Entry → List Action
accessed trace = map (λ e. Accessed e.access) trace

-- what is left after an instance with these replies; a read without a reply is left too
abbrev pub after_instance : Behaviour → List ℤ → Behaviour
after_instance (Reading c go) [] = Reading c go
after_instance (Reading c go) (r ∷ rs) = after_instance (go r) rs
after_instance (Writing c v d) rs = after_instance d rs
after_instance (Staging k n d) rs = d
after_instance (Ending e) rs = Ending e

-- what is left after instances with these replies, one list for each
abbrev pub after_instances : Behaviour → List (List ℤ) → Behaviour
after_instances d [] = d
after_instances d (r ∷ rs) = after_instances (after_instance d r) rs

-- after instances with these replies, the next one of iteration i makes these accesses and has this end; if it was stopped, these are
-- its first accesses
abbrev pub IsPerformed : Pipeline → ℕ → List (List ℤ) → List Entry → StageEnd → Type 0
IsPerformed p i replies trace end = Performs (after_instances (p.behaviour i) replies) (accessed trace ++ stage_end_actions end)
