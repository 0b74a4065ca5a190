-- The laws of an observation.
pub mod Checked
pub mod Figures
pub mod Held
pub mod Letters
pub mod Offsets
pub mod RoundTrip
pub mod Rows
pub mod Solidi
pub mod Text
