use Rattle.std.proofs.Common.{ap, sym, ◌∙◌}
use Rattle.frame_book.specs.CallEffects.{with_entered}
use Rattle.frame_book.proofs.book.Book.enter.Goals as goal

pub enter_named-requires-clause-may : goal.enter_named-requires-clause-may
enter_named-requires-clause-may g c = (c.may_start.ensures.yes c.if-not-may_start.false).1

pub returns-clause-returned : goal.returns-clause-returned
returns-clause-returned g c =
    let may = c.may_start.ensures.yes c.if-not-may_start.false in
    (may.0, may.1, c.enter_named.ensures.instance.0, c.enter_named.ensures.instance.1)

pub enter_named-requires-clause-going : goal.enter_named-requires-clause-going
enter_named-requires-clause-going g c = (c.may_start.ensures.yes c.if-not-may_start.false).0

pub returns-clause-book : goal.returns-clause-book
returns-clause-book g c = c.enter_named.ensures.book ∙ ap (with_entered c.args.self.now) (sym c.enter_named.ensures.instance.0)

pub returns-clause-token : goal.returns-clause-token
returns-clause-token g c = c.enter_named.ensures.token

pub returns-clause-now : goal.returns-clause-now
returns-clause-now g c = c.enter_named.ensures.now

pub returns-clause-folded : goal.returns-clause-folded
returns-clause-folded g c = c.enter_named.ensures.folded

pub returns-then-not-may_start-clause-returned : goal.returns-then-not-may_start-clause-returned
returns-then-not-may_start-clause-returned g c = c.may_start.ensures.no c.if-not-may_start.true
