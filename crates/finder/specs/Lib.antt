pub mod Finding
pub mod Inner
pub mod Words
