pub mod Places
pub mod Admitted
pub mod Own
pub mod Alone
