-- The laws that the layers above cite.
pub mod Codes
pub mod Finds
pub mod Passing
pub mod Reaching
pub mod Sizes
pub mod Words
