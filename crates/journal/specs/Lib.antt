pub mod Journal
pub mod Calls
pub mod Printed
pub mod Inner
