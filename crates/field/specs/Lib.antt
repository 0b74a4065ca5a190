pub mod Decimal
pub mod Fields
pub mod Boxes
pub mod Steps
