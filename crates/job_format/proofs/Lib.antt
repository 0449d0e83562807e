pub mod FieldBytes
pub mod JobBytes
pub mod Reached
pub mod Sizes
pub mod WrittenAndRead
pub mod Places
pub mod WrittenOn
