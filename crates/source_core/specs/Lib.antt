pub mod FileBytes
pub mod Input
pub mod Source
