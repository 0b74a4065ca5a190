-- The laws that the layers above cite.
pub mod Local
pub mod LocalThen
pub mod LocalFields
pub mod Decimal
pub mod Number
pub mod Edges
pub mod Keys
pub mod Within
pub mod Accepted
pub mod Repeat
pub mod Pairs
pub mod Wherever
pub mod Spelling
pub mod RoundTrip
