-- The laws that the layers above cite.
pub mod Bytes
pub mod Cases
pub mod Checks
pub mod Codes
pub mod Equal
pub mod Names
pub mod Over
pub mod Parts
pub mod Stands
pub mod Table
