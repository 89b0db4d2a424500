pub mod Buffers
pub mod Flags
