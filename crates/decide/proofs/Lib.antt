-- That what is decided follows the document, that nothing else does, computed cases, and what the code's proofs rest on.
pub mod Answers
pub mod Cases
pub mod Dateline
pub mod Determined
pub mod Eastward
pub mod First
pub mod Inside
pub mod Listed
pub mod Order
pub mod Position
pub mod Sound
pub mod Tests
pub mod Why
pub mod Words
