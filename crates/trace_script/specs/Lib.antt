pub mod Line
pub mod Names
pub mod Scripted
