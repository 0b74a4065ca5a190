-- The laws that the layers above cite.
pub mod Each
pub mod Head
pub mod Parts
pub mod Standing
pub mod Walk
pub mod Marks
pub mod Accepted
pub mod Written
pub mod Checking
pub mod Columns
pub mod Placed
pub mod Reached
pub mod Codes
pub mod Allowed
pub mod Examples
