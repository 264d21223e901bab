use Rattle.command_results.proofs.program_run.elide.Goals as goal

pub run_serial-requires : goal.run_serial-requires
run_serial-requires c = record {
  code = record {
    accepted = c.requires.obeys;
    limits = c.in_ok-code.ensures.limits;
    runs =
        c.in_ok-code.ensures.runs;
  };
}
