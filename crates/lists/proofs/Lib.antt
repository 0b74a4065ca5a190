-- The laws that the layers above cite.
pub mod Local
pub mod Fill
pub mod Accepted
pub mod Spelling
mod Sums
pub mod Turns
mod Fine
pub mod RoundTrip
pub mod Within
