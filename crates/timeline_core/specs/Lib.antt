pub mod Run
pub mod Stored
pub mod Sums
pub mod Timeline
