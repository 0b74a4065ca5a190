-- The laws of sums, of the loop's turns, of what is read; what is known along a track.
pub mod Along
pub mod Below
pub mod Figures
pub mod Only
pub mod Order
pub mod Points
pub mod Read
pub mod Sums
pub mod Trail
