-- The laws that the layers above cite.
pub mod Allowed
pub mod Apply
pub mod Kept
pub mod Seven
pub mod Valid
