pub mod ControlLaws
pub mod HistoryStateLaws
pub mod ScheduleLaws
pub mod StartCounts
pub mod TicketOrderLaws
