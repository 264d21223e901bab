-- The labels rise along the list of the log.
use Rattle.std.proofs.Common.{subst}
use Rattle.om_list.specs.LabelledList.{HasRisingLabels}
use Rattle.om_list.proofs.Insertions.{kept_rises}
use Rattle.om_list.proofs.om_list.OmList.label.Goals as goal

pub returns-clause-labels : goal.returns-clause-labels
returns-clause-labels c = subst HasRisingLabels c.self.view_is (kept_rises _ _ c.self.invariant.0)
