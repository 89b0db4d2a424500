pub mod Answering
pub mod Run
