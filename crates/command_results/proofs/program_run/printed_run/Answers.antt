use Rattle.std.proofs.Common.{◌∙◌, sym}
use Rattle.command_results.proofs.RunTexts.{printed_to_its_end, printed_with_races, printed_with_trap}
use Rattle.command_results.proofs.program_run.printed_run.Goals as goal

pub returns-then-not-is_empty : goal.returns-then-not-is_empty
returns-then-not-is_empty c = printed_with_races _ _ _ _ _ (sym c.is_empty.ensures ∙ c.if-not-is_empty.true) c.in_ok-text.ensures

pub returns-in-None : goal.returns-in-None
returns-in-None c = printed_to_its_end _ _ _ _ _ (sym c.is_empty.ensures ∙ c.if-not-is_empty.false) c.in_ok-lines.ensures c.in-None.is

pub returns-in-Some : goal.returns-in-Some
returns-in-Some c = printed_with_trap _ _ _ _ _ _ (sym c.is_empty.ensures ∙ c.if-not-is_empty.false) c.in_ok-lines.ensures c.in-Some.is
