pub mod Number
pub mod Layout
pub mod Sheet
pub mod Allowed
pub mod Printed
pub mod Inner
