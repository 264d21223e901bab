-- Tokens that a hall returns.
use Rattle.std.specs.Prelude.{◌≡◌, List}
use Rattle.pipe_worker.specs.Machines.{HasMachine, IsAtInstance}
use Rattle.program_hall.specs.declared.carried.Carried.{Carried}
use Rattle.pipe_frame.specs.SeatedTokens.{IsGivenToken, IsSeated, seated_entries}
use Rattle.pipe_frame.specs.Ties.{HallName, Tie}
use Rattle.pipe_frame.specs.TokenFields.{TokenFields}
use Rattle.pipe_frame.specs.declared.token.FrameToken.{FrameToken}
use Rattle.hall_table.specs.Lending.{tie_of}
use Rattle.pipe_model.specs.declared.ticket.Entry.{Entry}
use Rattle.stage_code.specs.FlatCode.{FlatCode}

-- the lists and the seat to which the payload of a token belongs
abbrev pub token_tie : {B : Type 0} → FrameToken (Carried B) → Tie
token_tie t = tie_of t.payload.passes t.payload.seat

-- a token of a hall with this name, whose machine has this code and is at the start of its instance
abbrev pub IsGivenIn : {B : Type 0} → FlatCode → HallName → FrameToken (Carried B) → Type 0
IsGivenIn code h t =
    IsGivenToken (λ tree input x i replies. HasMachine x.machine (λ m. IsAtInstance code tree input m i replies))
    (λ x. tie_of x.passes x.seat) h t

-- a token with these fields, whose payload has this tie, is out, and its instance has made these accesses
pub record IsOutWith (h : HallName) (f : TokenFields) (tie : Tie) (trace : List Entry) : Type 0 where
  pub out : IsSeated h f tie
  pub entries : trace ≡ seated_entries tie
