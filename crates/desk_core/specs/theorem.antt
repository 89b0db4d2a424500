-- The statement of the main theorem, in reading order: the world that commands make, the one answer to each command in it,
-- histories, what a desk holds of one, which watches fire, and what a desk reports of all that was put in.
pub mod World
pub mod Answer
pub mod History
pub mod Desk
pub mod Fired
pub mod Times
pub mod Headline
