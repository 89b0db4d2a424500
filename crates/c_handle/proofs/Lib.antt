mod AsBox
pub mod Over
pub mod Sending
pub mod Thin
