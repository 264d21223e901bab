-- The fields of a book as plain data, and what contracts see of them.
use Rattle.std.specs.Prelude.{ℕ, ℤ, List, map, Option, Some, None, Bool}
use Rattle.order_2d.specs.OrderPairs.{OrderPair}
use Rattle.pipe_model.specs.declared.tree.Program.{Program}
use Rattle.pipe_model.specs.declared.status.Status.{Status}
use Rattle.pipe_model.specs.declared.status.Status.TheVariants.{Running, Pending, Completed}
use Rattle.throttle.specs.Stock.{Stock}
use Rattle.pipe_frame.specs.TokenFields.{fields_of}
use Rattle.pipe_frame.specs.declared.token.FrameToken.{FrameToken}
use Rattle.frame_book.specs.BookStates.{BookState, TokenState, Out, Kept, Spent}
use Rattle.frame_book.specs.TicketLog.{Ledger}
use Rattle.frame_rows.specs.IterationRows.{IterationRow}
use Rattle.frame_book.specs.CallEffects.{identities_of_orders}

-- the fields
pub record Tables (M : Type 0) : Type 0 where
  pub program : Program
  pub input : List ℤ
  pub limit : ℕ
  pub rows : List (IterationRow M)
  pub room : ℕ
  pub spare : List (IterationRow M)
  pub pool : Stock M
  pub orders : OrderPair
  pub ledger : Ledger
  pub closed : Bool
  pub stopped : Bool
  pub reads : ℕ

-- where the token of a row is
abbrev pub token_state_by : {M : Type 0} → Option (FrameToken M) → Status → TokenState
token_state_by (Some t) w = Kept (fields_of t)
token_state_by None Running = Out
token_state_by None (Pending k n) = Out
token_state_by None (Completed e) = Spent

-- where the token of a row is
abbrev pub token_state_of : {M : Type 0} → IterationRow M → TokenState
token_state_of r = token_state_by r.token r.status

-- what contracts see of the fields
abbrev pub book_state : {M : Type 0} → Tables M → BookState
book_state b = record {
  program = b.program;
  input = b.input;
  limit = b.limit;
  lists = identities_of_orders b.orders;
  log = b.ledger.log;
  traces = map (λ r. r.traces) b.rows;
  tokens = map token_state_of b.rows;
  reads = b.reads;
}
