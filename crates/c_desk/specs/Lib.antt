pub mod Call
pub mod Commands
pub mod Handle
pub mod Held
pub mod Lending
pub mod Line
pub mod Reported
pub mod Service
