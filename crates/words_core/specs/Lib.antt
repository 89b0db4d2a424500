pub mod Plays
pub mod Rule
pub mod theorem
