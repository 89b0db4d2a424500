-- The statement on threads, in reading order: the words and their places, the steps on them, what a seat, a load of all
-- clocks, a driver and the winner of a flag know, and what all seats together have done. The contracts of this crate's
-- calls and laws cite these definitions.
pub mod Words
pub mod Layout
pub mod Trace
pub mod Seat
pub mod Loads
pub mod Driver
pub mod Won
pub mod Once
pub mod Views
