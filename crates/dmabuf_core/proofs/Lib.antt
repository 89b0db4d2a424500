mod Adding
pub mod Putting
mod Tables
