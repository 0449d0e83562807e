pub mod Limits
pub mod Stretches
pub mod Calls
pub mod Due
pub mod Runs
pub mod Theorem
