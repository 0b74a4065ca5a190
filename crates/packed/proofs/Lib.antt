-- The laws of the packed field.
mod Bounds
pub mod Decoding
pub mod Digits
pub mod Fault
pub mod Put
mod Reading
pub mod Refusal
pub mod RoundTrip
pub mod Scan
pub mod Short
pub mod Signs
pub mod Words
