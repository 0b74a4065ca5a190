-- The laws that the layers above cite.
pub mod Local
pub mod Own
pub mod Allowed
pub mod Come
pub mod Rows
pub mod Walk
pub mod Held
pub mod Written
pub mod Short
pub mod RoundTrip
pub mod ByRow
