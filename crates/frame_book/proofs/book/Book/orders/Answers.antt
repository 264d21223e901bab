use Rattle.std.proofs.Common.{◌≡◌, subst}
use Rattle.pipe_model.specs.Orders.Starts.{starts_of}
use Rattle.pipe_model.specs.Orders.TwoOrders.{down_first_log, right_first_log}
use Rattle.pipe_model.specs.Runs.RunLogs.{columns_after}
use Rattle.frame_book.specs.BookStates.{BookState, events_of}
use Rattle.frame_book.proofs.book.Book.orders.Goals as goal

pub returns-clause-down : goal.returns-clause-down
returns-clause-down g c = subst (λ (v : BookState). c.self.inside.orders.down.log ≡ down_first_log (starts_of (events_of v.log)))
    c.self.view_is c.self.invariant.0.down

pub returns-clause-right : goal.returns-clause-right
returns-clause-right g c = subst (λ (v : BookState). c.self.inside.orders.right.log ≡ right_first_log (columns_after (events_of v.log))
    (starts_of (events_of v.log))) c.self.view_is c.self.invariant.0.right
