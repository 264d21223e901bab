use Rattle.race_detection.proofs.RunReports.{runs_are_detected}
use Rattle.race_detection.proofs.law.runs_are_detected.Goals as goal

pub returns : goal.returns
returns c = runs_are_detected
