pub mod Tests
pub mod Arrays
pub mod Boxes
pub mod Rotations
pub mod Linear
pub mod Exchanges
pub mod Combined
