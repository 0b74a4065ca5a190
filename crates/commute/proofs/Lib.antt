-- The laws that the layers above cite.
pub mod Numbered
pub mod Same
pub mod Order
pub mod Bits
pub mod Turns
pub mod Answer
