pub mod Examples
pub mod Floor
pub mod Gust
pub mod Inner
pub mod Printed
pub mod Rows
pub mod Words
