-- Nothing is known without the lists.
use Rattle.access_history.proofs.KnownInstances.{nothing_known}
use Rattle.access_history.proofs.history.History.note.Goals as goal

pub returns-clause-race : goal.returns-clause-race
returns-clause-race g c = λ down right a. c.note_joined.ensures.race down right a (nothing_known down right c.args.who.node c.args.self.now)

pub returns-clause-kept : goal.returns-clause-kept
returns-clause-kept g c = λ down right a. c.note_joined.ensures.kept down right a (nothing_known down right c.args.who.node c.args.self.now)

pub returns-clause-step : goal.returns-clause-step
returns-clause-step g c = λ down right a. c.note_joined.ensures.step down right a (nothing_known down right c.args.who.node c.args.self.now)
