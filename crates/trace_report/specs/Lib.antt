pub mod Events
pub mod Found
pub mod Report
