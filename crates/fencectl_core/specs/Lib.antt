pub mod Asked
pub mod Clients
pub mod Color
pub mod Drawing
pub mod Ends
pub mod Fault
pub mod Verdicts
pub mod Words
