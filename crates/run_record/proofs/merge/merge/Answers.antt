use Rattle.std.proofs.Common.{◌∙◌, ap, map, subst, List}
use Rattle.pipe_model.specs.declared.ticket.BookEntry.{BookEntry}
use Rattle.pipe_model.specs.declared.ticket.ShardEntry.{ShardEntry}
use Rattle.run_record.specs.MergedLogs.{AreMerged}
use Rattle.run_record.specs.OwnColumns.{made_columns}
use Rattle.run_record.proofs.MergedColumns.{columns_of_merges}
use Rattle.run_record.proofs.merge.merge.Goals as goal

pub returns-clause-columns : goal.returns-clause-columns
returns-clause-columns c =
    let merged : AreMerged c.args.book c.args.shards.items c.in_ok-events.events =
    subst (λ (l : List BookEntry). AreMerged l c.args.shards.items c.in_ok-events.events) c.as_slice.ensures
    (subst (λ (l : List (List ShardEntry)). AreMerged c.as_slice.result.now l c.in_ok-events.events) c.as_slice-2.ensures.value
    c.in_ok-events.ensures.merged) in
    c.in_ok-columns.ensures
    ∙ (ap (λ (l : List BookEntry). made_columns (map (λ (b : BookEntry). b.event) l)) c.as_slice-3.ensures
    ∙ columns_of_merges c.args.book c.args.shards.items c.in_ok-events.events merged)
