pub mod Drafts
pub mod Files
pub mod Merge
pub mod Numbered
pub mod Renumbered
pub mod Running
pub mod Status
pub mod SyncFile
