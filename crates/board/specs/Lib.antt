pub mod Board
pub mod History
pub mod Lent
pub mod Calls
pub mod Inner
pub mod Words
