pub mod Calls
pub mod Inner
pub mod Keys
pub mod Tails
pub mod Words
