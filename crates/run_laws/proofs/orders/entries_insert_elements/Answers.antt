use Rattle.run_laws.proofs.ListOrders.InsertionLists.{entries_insert_elements}
use Rattle.run_laws.proofs.orders.entries_insert_elements.Goals as goal

pub returns : goal.returns
returns c = entries_insert_elements
