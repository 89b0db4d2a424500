pub mod Totals
pub mod Traces
mod WordKinds
mod ValueSteps
mod MarkSteps
mod SetOnceSteps
mod EntrySteps
mod Frames
mod Loading
mod Showing
mod Splitting
mod Joining
pub mod Driving
mod Claiming
mod Adding
mod Marking
mod Gathering
pub mod LoadingAll
pub mod Staying
pub mod Seen
pub mod Knowing
pub mod Laying
pub mod Loads
mod Ruling
