pub mod Due
pub mod Floors
pub mod Woken
pub mod Sound
pub mod Accepted
pub mod theorem
