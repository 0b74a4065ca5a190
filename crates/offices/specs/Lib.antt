pub mod Offices
pub mod Inner
pub mod Own
