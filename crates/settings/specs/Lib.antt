pub mod Settings
pub mod Valid
pub mod Inner
