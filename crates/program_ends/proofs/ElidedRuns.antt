-- Finished runs with right reports agree with the serial elision.
use Rattle.std.proofs.Common.{◌≡◌, ◌∙◌, ap, [], true}
use Rattle.pipe_model.specs.Language.ProgramsOfTrees.{whole_of}
use Rattle.pipe_model.specs.Races.DeterminacyRaces.{IsRaceFree}
use Rattle.pipe_model.specs.Runs.RunLogs.{accesses_after, columns_after, state_after}
use Rattle.pipe_model.specs.Runs.WholeProgramRuns.{played_output, played_trap}
use Rattle.program_ends.specs.ProgramEnds.{FinishedRunsAgreeWithElisions, reaches_final}
use Rattle.program_laws.proofs.Headlines.{runs_meet_the_headline}
use Rattle.program_laws.proofs.ProgramElisions.{accepted_programs_meet_the_elision}
use Rattle.program_laws.proofs.ProgramRuns.{played_where_final_ran}

pub finished_runs_agree_with_elisions : FinishedRunsAgreeWithElisions
finished_runs_agree_with_elisions tree input limit log reports r accepted run right results =
    let w = whole_of tree input in
    let s = state_after log.events in
    let meets = accepted_programs_meet_the_elision tree input limit log accepted run in
    let headline = runs_meet_the_headline tree input limit log reports [] accepted run right in
    let free : reports ≡ [] → IsRaceFree (columns_after log.events) (accesses_after log.events) =
    λ none. meets.races.1 (headline.agrees.silent.0 none) in
    let ran : reports ≡ [] → reaches_final true reports ≡ true = λ none. ap (reaches_final true) none in
    record {
      silent = headline.agrees.silent;
      columns = λ none. meets.columns (free none);
      output = λ none. results.output ∙ ap (λ b. played_output w b s) (ran none) ∙ (played_where_final_ran w s).0
          ∙ meets.output (free none);
      trap = λ none. results.trap ∙ ap (λ b. played_trap w b s) (ran none) ∙ (played_where_final_ran w s).1 ∙ meets.trap (free none);
    }
