-- An access of which the order is known is kept without a comparison.
use Rattle.std.proofs.Common.{◌∙◌, ap, sym}
use Rattle.access_history.proofs.KnownAccesses.{known_clean, known_kept}
use Rattle.access_history.specs.KeptInstances.{kept_of}
use Rattle.access_history.proofs.history.History.note_joined.Goals as goal

pub returns-clause-race : goal.returns-clause-race
returns-clause-race g c = λ down right a known.
    known_clean c.args.joined down right c.args.who.node c.args.self.now c.args.kind (sym c.may_ask.ensures ∙ c.if-may_ask.false) known

pub returns-clause-kept : goal.returns-clause-kept
returns-clause-kept g c = λ down right a known.
    ap kept_of c.note_known.ensures.history
    ∙ known_kept c.args.joined down right c.args.who c.args.self.now c.args.kind (sym c.may_ask.ensures ∙ c.if-may_ask.false) known

pub returns-clause-step : goal.returns-clause-step
returns-clause-step g c = λ down right a known. c.note_known.ensures.step down right known
