pub mod Agreement
pub mod Canonical
pub mod Indexes
pub mod InUse
pub mod Latest
pub mod Listings
pub mod Merges
pub mod Named
pub mod Names
pub mod Reached
pub mod Results
mod Rows
pub mod Ticking
pub mod TwoLists
pub mod Used
pub mod Values
