pub mod Contents
pub mod Inner
pub mod Layout
