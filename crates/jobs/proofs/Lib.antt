pub mod Checked
pub mod Drains
pub mod UnderWay
pub mod CarriedOut
pub mod Restoring
pub mod AsRuns
pub mod Told
