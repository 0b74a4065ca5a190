-- The laws that the layers above cite.
pub mod Places
pub mod Parts
pub mod Laws
pub mod Printed
pub mod Side
pub mod Faults
