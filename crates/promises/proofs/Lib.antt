-- The promises, kept: one inhabitant of each record of specs/.
mod Addings
mod Asked
pub mod Board
mod Codes
pub mod Command
pub mod Commute
pub mod Configuration
pub mod Dateline
pub mod Decision
pub mod Difference
pub mod Explain
pub mod Gust
mod InRun
pub mod Join
pub mod Journal
mod JournalBytes
mod OfficeWords
mod OfficeRuns
pub mod Offices
pub mod Packed
pub mod Part
mod Relaid
pub mod Report
mod Sections
mod Sevens
pub mod Tails
mod Takings
pub mod Sheet
pub mod Track
mod Waiting
mod Waits
