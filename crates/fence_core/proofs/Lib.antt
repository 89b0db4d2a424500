pub mod Causes
pub mod Firing
pub mod Gathered
pub mod Held
pub mod Once
pub mod Pending
pub mod PointIndex
pub mod Registered
pub mod Indexed
mod Queued
pub mod InOrder
pub mod ByCookie
pub mod Moved
pub mod Fired
pub mod Signalling
pub mod Above
