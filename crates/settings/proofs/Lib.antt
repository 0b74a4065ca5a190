-- The laws that the layers above cite.
pub mod ListWalk
pub mod Few
pub mod Fine
pub mod Kept
pub mod Pieces
pub mod ByNumber
