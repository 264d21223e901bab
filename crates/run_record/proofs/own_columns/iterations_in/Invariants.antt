use Rattle.std.proofs.Common.{◌≡◌, map, take}
use Rattle.pipe_model.specs.declared.ticket.BookEntry.{BookEntry}
use Rattle.pipe_model.specs.Runs.ControlParts.{control_after, outlines_of}
use Rattle.run_record.specs.OwnColumns.{frames_of}
use Rattle.run_record.proofs.own_columns.iterations_in.Given as goal

abbrev pub invariant-loop-entry : goal.invariant-loop-entry
invariant-loop-entry l =
    frames_of l.iterations.items ≡ outlines_of (control_after (map (λ (b : BookEntry). b.event) (take l.entry-index l.book))).frames
