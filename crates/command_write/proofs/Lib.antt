-- The laws that the layers above cite.
pub mod Writing
pub mod ReadBack
pub mod RoundTrip
pub mod Codes
pub mod Allowed
