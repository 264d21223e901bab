use Rattle.run_record.proofs.MergedColumns.{columns_of_merges}
use Rattle.run_record.proofs.SortedEntries.{sorted_events_are_merged}
use Rattle.run_record.specs.SortedEntries.{merged_events}
use Rattle.run_record.proofs.logged_run.LoggedRun.of_logs.Goals as goal

pub returns-clause-events : goal.returns-clause-events
returns-clause-events c = sorted_events_are_merged c.args.book c.args.shards.items c.requires.book c.requires.shards

pub returns-clause-columns : goal.returns-clause-columns
returns-clause-columns c =
    columns_of_merges c.args.book c.args.shards.items (merged_events c.args.book c.args.shards.items)
    (sorted_events_are_merged c.args.book c.args.shards.items c.requires.book c.requires.shards)
