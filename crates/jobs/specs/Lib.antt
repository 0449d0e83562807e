pub mod Checking
pub mod Keys
pub mod Asking
pub mod Meaning
pub mod Carrying
