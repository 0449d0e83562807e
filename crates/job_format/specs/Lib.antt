pub mod Tags
pub mod Reading
pub mod Fields
pub mod UnitBytes
pub mod UnitsLeft
pub mod EndAfter
