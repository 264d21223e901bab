pub mod OpenedHalls
