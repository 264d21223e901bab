-- The merge of logs that fit together is a run.
use Rattle.std.proofs.Common.{false, subst, ◌≡◌, map, ap, ◌∙◌, sym}
use Rattle.pipe_model.specs.Runs.ControlRun.{is_access, ControlRun}
use Rattle.run_laws.proofs.LogMerge.EventParts.{control_events}
use Rattle.pipe_model.specs.Races.DeterminacyRaces.{Among}
use Rattle.pipe_model.specs.Runs.TicketLogs.{book_in, event_of}
use Rattle.pipe_model.specs.declared.ticket.BookEntry.{BookEntry}
use Rattle.run_laws.proofs.LogMerge.AssembledRuns.{assembled_is_run}
use Rattle.run_laws.proofs.LogMerge.FittingLogs.{FittingMergeIsRun}
use Rattle.run_laws.proofs.LogMerge.MergeSplits.{control_has_no_access, among_events, control_events_of_merge, split_at}
use Rattle.run_laws.proofs.LogMerge.MergedReplies.{merged_replies}
use Rattle.run_laws.proofs.LogMerge.MergedStates.{merged_running}
use Rattle.run_laws.proofs.LogMerge.RisingTraces.{merged_program}

-- the merge of logs that fit together is a run
pub fitting_merge_is_run : FittingMergeIsRun
fitting_merge_is_run p limit width book shards c merged fit merge =
    let silent : (b : BookEntry) → Among b (book_in merged) → is_access b.event ≡ false =
    λ b m. control_has_no_access fit.control b.event (among_events b book (subst (λ l. Among b l) merge.book_is m)) in
    let events : control_events (map event_of merged) ≡ map (λ (b : BookEntry). b.event) book =
    control_events_of_merge merged silent ∙ ap (λ l. map (λ (b : BookEntry). b.event) l) merge.book_is in
    assembled_is_run p limit (map event_of merged) c (record {
      control = subst (λ l. ControlRun limit l c) (sym events) fit.control;
      running = λ front rest i a q d h. merged_running p limit width book shards c merged fit merge front i a
          (split_at merged silent front rest i a q) d h;
      program = merged_program p limit width book shards c merged fit merge silent;
      replies = λ front rest i a q. merged_replies p limit width book shards c merged fit merge front i a
          (split_at merged silent front rest i a q);
    })
