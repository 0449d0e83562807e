pub mod Toys
pub mod Draws
pub mod Crossing
pub mod Chosen
