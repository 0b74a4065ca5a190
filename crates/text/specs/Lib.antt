pub mod Bytes
pub mod Checks
pub mod Codes
pub mod Equal
pub mod Names
pub mod Over
pub mod Parts
pub mod Table
