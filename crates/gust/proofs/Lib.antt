-- The laws of division rounded down, of the rows, and of the formula.
pub mod Answers
pub mod Division
pub mod Examples
pub mod Kept
pub mod Limits
pub mod Meaning
pub mod Rounding
pub mod Sizes
pub mod Table
