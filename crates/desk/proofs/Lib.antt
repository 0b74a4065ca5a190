-- The laws of the desk.
mod Listed
mod Waited
pub mod Given
