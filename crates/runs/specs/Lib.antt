pub mod Steps
pub mod Views
pub mod Standing
pub mod Stands
pub mod Handing
pub mod Ends
pub mod Whole
pub mod Emptying
