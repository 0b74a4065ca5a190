pub mod Commute
pub mod Order
