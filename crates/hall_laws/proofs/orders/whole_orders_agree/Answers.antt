use Rattle.hall_laws.proofs.orders.whole_orders_agree.Goals as goal
use Rattle.hall_laws.proofs.HallOrders.{whole_orders_agree}

pub returns : goal.returns
returns c = whole_orders_agree
