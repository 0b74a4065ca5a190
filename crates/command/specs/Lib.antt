pub mod Allowed
pub mod Examples
pub mod Inner
pub mod Record
pub mod Sections
pub mod Text
