-- The columns of a merge are those that the events of its book make.
use Rattle.std.proofs.Common.{◌≡◌, ◌∙◌, refl, sym, ap, List, [], ◌∷◌, map}
use Rattle.pipe_model.specs.declared.event.Event.{Event}
use Rattle.pipe_model.specs.declared.ticket.BookEntry.{BookEntry}
use Rattle.pipe_model.specs.declared.ticket.ShardEntry.{ShardEntry}
use Rattle.pipe_model.specs.Runs.ControlParts.{control_from, next_control}
use Rattle.pipe_model.specs.Runs.RunLogs.{column_of_frame}
use Rattle.pipe_model.specs.Runs.State.{State, initial_state}
use Rattle.pipe_model.specs.Runs.TicketLogs.{LogEntry, OfBook, OfShard, book_in, event_of}
use Rattle.run_record.specs.MergedLogs.{AreMerged}
use Rattle.run_record.specs.OwnColumns.{made_columns}

-- accesses do not change the control part
control_of_book : (c : State) (xs : List LogEntry) → control_from c (map event_of xs) ≡ control_from c
    (map (λ (b : BookEntry). b.event) (book_in xs))
control_of_book c [] = refl
control_of_book c (OfBook b ∷ xs) = control_of_book (next_control c b.event) xs
control_of_book c (OfShard k e ∷ xs) = control_of_book c xs

pub columns_of_merges : (book : List BookEntry) (shards : List (List ShardEntry)) (events : List Event) → AreMerged book shards events
    → made_columns (map (λ (b : BookEntry). b.event) book) ≡ made_columns events
columns_of_merges book shards events merged =
    sym (ap made_columns merged.are
    ∙ (ap (λ (s : State). map column_of_frame s.frames) (control_of_book initial_state merged.entries)
    ∙ ap (λ l. made_columns (map (λ (b : BookEntry). b.event) l)) merged.merge.book_is))
