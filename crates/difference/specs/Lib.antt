pub mod Difference
pub mod Inner
pub mod Same
