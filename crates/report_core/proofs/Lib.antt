pub mod Answering
pub mod Digits
pub mod Fronts
pub mod Lines
pub mod Numbered
pub mod Statuses
