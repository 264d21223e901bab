use Rattle.run_laws.proofs.ListOrders.RunOrders.{both_orders_of_starts}
use Rattle.run_laws.proofs.orders.both_orders_of_starts.Goals as goal

pub returns : goal.returns
returns c = both_orders_of_starts
