use Rattle.command_results.proofs.OneRow.{one_status}
use Rattle.cilkp_program.proofs.law.calls_have_one_status.Goals as goal

pub returns : goal.returns
returns c = λ asked held status other text other_text log other_log reports other_reports r r'. one_status r r'
