-- The statement of the main theorem, in reading order: names and 32-bit points, the fences of files and buffers, the objects
-- of a device, the answer to each request and the objects after it, and histories with all that was put in; from the
-- requests only, what is open and refused, what timelines have reached and what was put in; what `run` says of the points,
-- signals, wakings and memory of a device after a history; last, each answer and each refusal by the history only.
pub mod Names
pub mod Wrapping
pub mod Fences
pub mod Buffers
pub mod State
pub mod Info
pub mod Request
pub mod BufferWorld
pub mod History
pub mod Requests
pub mod Put
pub mod Listing
pub mod Signals
pub mod Times
pub mod Memory
pub mod Headline
pub mod Making
pub mod Answered
