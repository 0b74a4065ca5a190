pub mod Filled
pub mod Inner
pub mod Writing
