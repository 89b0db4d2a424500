pub mod Progress
pub mod Refused
pub mod Shown
pub mod Spelling
