-- The laws of the caller's records.
pub mod Codes
pub mod Each
pub mod Figures
pub mod Forms
pub mod Hosted
pub mod Within
pub mod Whole
pub mod Carried
pub mod Meaning
pub mod Printed
