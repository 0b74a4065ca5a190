pub mod Inner
pub mod Track
pub mod Words
