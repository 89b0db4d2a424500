pub mod NotedLines
pub mod Notes
pub mod Written
