pub mod Stretching
pub mod Accepted
pub mod OpenRun
pub mod Counting
pub mod EachRun
pub mod Pairs
pub mod Whole
