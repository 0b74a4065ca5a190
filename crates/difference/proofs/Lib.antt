pub mod Answer
pub mod Equal
pub mod Filling
pub mod List
pub mod Makes
pub mod Marks
