use Rattle.command_results.proofs.OneRow.{one_row}
use Rattle.cilkp_program.proofs.law.calls_have_one_row.Goals as goal

pub returns : goal.returns
returns c = λ asked held status other text other_text log other_log reports other_reports silent r r'. one_row silent r r'
