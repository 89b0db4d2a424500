pub mod Keeping
pub mod Sound
pub mod theorem
