pub mod Decoding
pub mod Inner
pub mod Packed
pub mod Words
