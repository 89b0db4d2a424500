pub mod Lookups
pub mod Places
pub mod Raising
pub mod Rows
pub mod Staying
pub mod Storing
pub mod Summing
