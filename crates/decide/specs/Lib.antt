pub mod Dateline
pub mod Question
pub mod Reason
pub mod Rules
pub mod Tests
pub mod Why
pub mod Words
