pub mod Resv
pub mod Rounds
pub mod Run
pub mod Settled
pub mod Shared
pub mod TopTable
pub mod Tops
