pub mod Depths
pub mod Machines
pub mod PlainEngines
pub mod Tables
pub mod Lines
pub mod Cycles
