pub mod Allowed
pub mod Figures
pub mod Forms
pub mod Meaning
pub mod Records
pub mod Printed
