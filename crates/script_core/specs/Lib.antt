pub mod Answering
pub mod Handled
pub mod Output
pub mod Run
