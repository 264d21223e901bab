-- The entries of shards and of traces.
use Rattle.std.specs.Prelude.{ℕ, List, [], ◌∷◌, ◌%◌, ◌==◌, ◌&&◌, map, Option, Some, None, if◌then◌else◌}
use Rattle.pipe_model.specs.declared.access.Access.{Access}
use Rattle.pipe_model.specs.declared.access.NodeAccess.{NodeAccess}
use Rattle.pipe_model.specs.declared.ticket.Entry.{Entry}
use Rattle.pipe_model.specs.declared.ticket.ShardEntry.{ShardEntry}
use Rattle.pipe_model.specs.Races.CellRaces.{NotedAccess, accesses_to}
use Rattle.frame_book.specs.BookStates.{BookState, item_or}
use Rattle.hall_table.specs.SeatViews.{InstanceData}

-- how many shards a hall has
abbrev pub shards : ℕ
shards = 16

-- the function with another value at i
abbrev pub with_at : {A : Type 0} → (ℕ → A) → ℕ → A → ℕ → A
with_at f i a j = if j == i then a else f j

-- an entry of a trace, as the shard's log has it
abbrev pub entry_of : ShardEntry → Entry
entry_of e = record { ticket = e.ticket; access = e.access }

-- the entries of a shard's log that name instance k of iteration i
abbrev pub of_node : ℕ → ℕ → List ShardEntry → List Entry
of_node i k [] = []
of_node i k (e ∷ es) = if (e.node.iteration == i) && (e.node.index == k) then entry_of e ∷ of_node i k es else of_node i k es

-- the entries of a trace whose cells belong to shard k
abbrev pub of_shard : ℕ → List Entry → List Entry
of_shard k [] = []
of_shard k (e ∷ es) = if e.access.cell.0 % 16 == k then e ∷ of_shard k es else of_shard k es

-- the trace of instance k of iteration i in the book
abbrev pub book_trace : BookState → ℕ → ℕ → List Entry
book_trace b i k = item_or [] (item_or [] b.traces i) k

-- the trace of instance k of iteration i: from the iteration's seat, if it has one for this instance, or else from the book
abbrev pub trace_by : BookState → Option InstanceData → ℕ → ℕ → List Entry
trace_by b None i k = book_trace b i k
trace_by b (Some d) i k = if d.fields.index == k then d.entries else book_trace b i k

abbrev pub accesses_of : List ShardEntry → List Access
accesses_of log = map (λ e. e.access) log

abbrev pub node_access : ShardEntry → NodeAccess
node_access e = record { node = e.node; access = e.access }

-- the accesses to cell c, for its history
abbrev pub noted_to : ℕ → List ShardEntry → List NotedAccess
noted_to c log = accesses_to c (map node_access log)
