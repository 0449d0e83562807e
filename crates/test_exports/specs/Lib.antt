pub mod Exports
pub mod Speeds
