-- The laws that the layers above cite.
pub mod Added
pub mod Bytes
pub mod Dropped
pub mod Ends
pub mod Entries
pub mod Fails
pub mod Lines
pub mod Replays
pub mod Short
pub mod Shown
pub mod Unique
pub mod Walk
