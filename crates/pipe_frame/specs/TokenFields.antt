-- The fields of a token without its payload.
use Rattle.std.specs.Prelude.{ℕ, Option}
use Rattle.pipe_model.specs.declared.marks.Marks.{Marks}
use Rattle.pipe_model.specs.declared.stage.Counter.{Counter}
use Rattle.pipe_frame.specs.declared.token.FrameToken.{FrameToken}

-- the instance, its last ticket, the last index of the left column that precedes it, the counter of the left neighbour as it was
-- read last, and its marks
pub record TokenFields : Type 0 where
  pub iteration : ℕ
  pub index : ℕ
  pub now : ℕ
  pub joined : ℕ
  pub folded : Option Counter
  pub marks : Marks

abbrev pub fields_of : {M : Type 0} → FrameToken M → TokenFields
fields_of t = record { iteration = t.iteration; index = t.index; now = t.now; joined = t.joined; folded = t.folded; marks = t.marks }
