pub mod AcceptedOrRefused
