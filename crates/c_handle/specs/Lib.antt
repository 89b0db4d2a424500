pub mod Lending
pub mod Owning
pub mod Rows
pub mod Usages
