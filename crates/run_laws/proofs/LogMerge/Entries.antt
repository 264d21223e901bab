-- Short forms of entries and actions with their tickets, for the proofs of the merge.
use Rattle.std.proofs.Common.{ℕ}
use Rattle.pipe_model.specs.declared.access.Access.{Access as Cell_access}
use Rattle.pipe_model.specs.declared.event.Event.{Event}
use Rattle.pipe_model.specs.Pipelines.Behaviour.{Action}
use Rattle.pipe_model.specs.Runs.TicketLogs.{TimedAction}
use Rattle.pipe_model.specs.declared.ticket.BookEntry.{BookEntry}
use Rattle.pipe_model.specs.declared.ticket.ShardEntry.{ShardEntry}

-- an action with this ticket
abbrev pub timed : ℕ → Action → TimedAction
timed t x = record { ticket = t; action = x }

-- an entry of the book with this ticket
abbrev pub book_entry : ℕ → Event → BookEntry
book_entry t e = record { ticket = t; event = e }

-- an entry of a shard with this ticket, of instance k of iteration i
abbrev pub shard_entry : ℕ → ℕ → ℕ → Cell_access → ShardEntry
shard_entry t i k a = record { ticket = t; node = record { iteration = i; index = k }; access = a }
