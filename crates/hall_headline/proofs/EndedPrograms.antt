-- Halls of whole programs that have ended.
use Rattle.std.proofs.Common.{[], subst}
use Rattle.hall_laws.specs.ClosedHalls.{ClosedHall}
use Rattle.hall_laws.proofs.HallPrograms.{finished_halls_meet_the_headline, merged_halls_report_their_races}
use Rattle.hall_laws.proofs.HallRuns.{finished_books_have_no_token_out}
use Rattle.hall_headline.specs.EndedPrograms.{HallEndsAreMerged, HallEndsReportTheirRaces, FinishedHallEndsMeetTheHeadline}
use Rattle.hall_shards.specs.FoundRaces.{found_by}
use Rattle.hall_headline.specs.HallEnds.{history_of, logs_of}
use Rattle.hall_headline.proofs.EndedReports.{hall_ends_have_histories, hall_ends_find_all}
use Rattle.hall_headline.proofs.HallEnds.{hall_ends_are_closed}

pub hall_ends_are_merged : HallEndsAreMerged
hall_ends_are_merged before b shards log h none = record {
  opened = h.opened;
  closed = subst (λ accesses. ClosedHall b accesses (logs_of shards)) h.start (hall_ends_are_closed before b shards h.end);
  none = none;
  events = h.events;
  columns = h.columns;
}

pub hall_ends_report_their_races : HallEndsReportTheirRaces
hall_ends_report_their_races before b shards log h none =
    let merged = hall_ends_are_merged before b shards log h none in
    let noted = hall_ends_have_histories before b shards h.end in
    let found = hall_ends_find_all before b shards h.end in
    record {
      cells = found.apart;
      instances = (merged_halls_report_their_races b (logs_of shards) log (history_of shards) (found_by shards) [] merged noted found).0;
      reports = λ reports gathered.
          (merged_halls_report_their_races b (logs_of shards) log (history_of shards) (found_by shards) reports merged noted found).1
          gathered.each gathered.rise;
    }

pub finished_hall_ends_meet_the_headline : FinishedHallEndsMeetTheHeadline
finished_hall_ends_meet_the_headline before b shards log reports races rules h finished gathered =
    let none = finished_books_have_no_token_out b h.end.book finished in
    let reported = (hall_ends_report_their_races before b shards log h none).reports reports gathered in (
      reported,
      finished_halls_meet_the_headline b (logs_of shards) log reports races rules
          (hall_ends_are_merged before b shards log h none) finished reported.right,
    )
