pub mod LogStarts
pub mod OrderPairs
pub mod ReplayedOrders
pub mod SeenOrders
pub mod StartedNodes
