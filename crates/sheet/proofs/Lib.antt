-- The laws of the sheet's numbers, cells and texts.
pub mod Scan
pub mod Counted
pub mod Small
pub mod Short
pub mod Each
pub mod Filled
pub mod Checked
pub mod Contents
pub mod Spelling
pub mod TextOfRead
pub mod Spelt
pub mod ReadOfText
pub mod Allowed
pub mod Printed
pub mod Codes
pub mod Ends
pub mod Rows
