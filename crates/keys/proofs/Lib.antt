pub mod OddBytes
