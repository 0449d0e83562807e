pub mod Parity
pub mod Loading
