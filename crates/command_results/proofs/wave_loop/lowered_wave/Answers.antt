use Rattle.std.proofs.Common.{refl}
use Rattle.wave_laws.proofs.SmallPrograms.{spelled_programs_are_small}
use Rattle.command_results.proofs.RunnableLaws.{fault_has_wave_place, wave_is_refused}
use Rattle.command_results.proofs.wave_loop.lowered_wave.Goals as goal

pub lower_wave-requires : goal.lower_wave-requires
lower_wave-requires c =
    let h = c.requires in
    record {
      obeys = rw c.program.ensures.program (record { obeys = h.1.accepted.obeys });
      spellable = rw c.program.ensures.program c.program.ensures.spellable;
      small = rw c.program.ensures.program (spelled_programs_are_small h.0 _ h.1.accepted.spelled);
    }

pub wave_line-requires : goal.wave_line-requires
wave_line-requires c =
    let h = c.requires in
    rw c.as_slice.ensures (fault_has_wave_place h.0 _ _ h.1 _ (rw c.program.ensures.program at c.in-Err.ensures.err))

pub returns-in_ok-wave_line-in-Err : goal.returns-in_ok-wave_line-in-Err
returns-in_ok-wave_line-in-Err c = λ source accepted. (
  refl,
  wave_is_refused source _ _ _ _ accepted (rw c.program.ensures.program at c.in-Err.ensures.err)
      (rw c.as_slice.ensures at c.in_ok-wave_line-in-Err.ensures),
)

pub returns-in_ok-check_lowered-in-Ok : goal.returns-in_ok-check_lowered-in-Ok
returns-in_ok-check_lowered-in-Ok c = λ source accepted. (
  (λ is. rw c.program.ensures.program at c.in-Ok.ensures.ok),
  rw (← c.in_ok-check_lowered-in-Ok.ensures, c.program.ensures.program) at
      c.in-Ok.ensures.lowered,
)
