-- Instances that run over the cells of a hall.
use Rattle.std.specs.Prelude.{◌≡◌, ◌++◌, ◌∷◌, [], ℕ, ℤ, List, Bool, true, pos}
use Rattle.pipe_frame.specs.Replies.{IsPerformed, replies_of}
use Rattle.pipe_frame.specs.SeatedTokens.{IsSeated, seated_entries, seated_replies}
use Rattle.pipe_frame.specs.StageEndCases.{NamesNextStage}
use Rattle.pipe_frame.specs.Ties.{HallName, Tie}
use Rattle.pipe_frame.specs.TokenFields.{TokenFields, fields_of}
use Rattle.pipe_frame.specs.declared.token.FrameToken.{FrameToken}
use Rattle.pipe_model.specs.declared.access.Access.{Access}
use Rattle.pipe_model.specs.declared.event.Event.{Event}
use Rattle.pipe_model.specs.declared.stage.StageEnd.{StageEnd}
use Rattle.pipe_model.specs.declared.stage.StageEnd.TheVariants.{Stopped}
use Rattle.pipe_model.specs.declared.ticket.Entry.{Entry}
use Rattle.pipe_model.specs.Language.Programs.{pipeline_of}
use Rattle.pipe_model.specs.Language.SyntaxTree.{SyntaxTree, More, Empty}
use Rattle.pipe_model.specs.Runs.RunLogs.{state_after}

-- a token with these fields, whose payload has this tie, is out; its instance is one of this iteration, which had these replies before, and
-- has made these accesses
pub record IsHeld (h : HallName) (i : ℕ) (replies : List (List ℤ)) (f : TokenFields) (tie : Tie) (trace : List Entry) : Type 0 where
  pub out : IsSeated h f tie
  pub entries : trace ≡ seated_entries tie
  pub replies_are : seated_replies tie ≡ replies
  pub iteration_is : f.iteration ≡ i

-- the memory of an instance: the accesses so far, and whether the last one was refused
pub record MemoryState : Type 0 where
  pub made : List Access
  pub stopped : Bool

-- if an access was refused, the run was seen stopped
abbrev pub StopsSeen : Bool → List Event → Type 0
StopsSeen stopped seen = stopped ≡ true → (state_after seen).stopped ≡ true

-- the token of an instance that has made these accesses and has this end may advance
pub record MayAdvance {M : Type 0} (Whole : SyntaxTree → M → Type 0) (ReadyAt : SyntaxTree → List ℤ → M → ℕ → List (List ℤ) → Type 0)
    (tie : M → Tie) (h : HallName) (seen : List Event) (token : FrameToken M) (trace : List Entry) (end : StageEnd) : Type 0 where
  pub out : IsSeated h (fields_of token) (tie token.payload)
  pub entries : trace ≡ seated_entries (tie token.payload)
  pub whole : Whole h.tree token.payload
  pub performs : IsPerformed (pipeline_of h.tree h.input) token.iteration (seated_replies (tie token.payload)) trace end
  pub ready : NamesNextStage end → ReadyAt h.tree h.input token.payload token.iteration
      (seated_replies (tie token.payload) ++ replies_of trace ∷ [])
  pub stopped : end ≡ Stopped → (state_after seen).stopped ≡ true

-- no hall
abbrev pub no_hall : HallName
no_hall = record {
  hall = [];
  tree = record {
    limits = record { iterations = pos 0; stages = pos 0; steps = pos 0; emits = pos 0 };
    cells = [];
    init = Empty;
    test = More;
    body = Empty;
    last = Empty;
  };
  input = [];
  limit = 0;
  lists = record { down = []; right = [] };
}
