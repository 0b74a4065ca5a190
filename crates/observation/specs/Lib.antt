pub mod Figures
pub mod Inner
pub mod Observation
pub mod Record
pub mod Rows
